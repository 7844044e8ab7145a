use Rattle.text.proofs.Pairs.{Reading}
use Rattle.text.proofs.read_hex.Given as goal

abbrev pub invariant-loop-n : goal.invariant-loop-n
invariant-loop-n l = Reading l.word l.initial.into l.into l.n
