use Rattle.text.proofs.Spelling.{Spelling}
use Rattle.text.proofs.spell.Given as goal

abbrev pub invariant-loop-i : goal.invariant-loop-i
invariant-loop-i l = Spelling l.n l.digits l.i l.rest
