use Rattle.providers.proofs.Seeking.{Seeking}
use Rattle.providers.proofs.is_among.Given as goal

abbrev pub invariant-loop-word : goal.invariant-loop-word
invariant-loop-word l = Seeking l.number.0 l.words l.found l.word-index
