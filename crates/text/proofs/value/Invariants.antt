use Rattle.text.proofs.Digits.{Reading}
use Rattle.text.proofs.value.Given as goal

abbrev pub invariant-loop-b : goal.invariant-loop-b
invariant-loop-b l = Reading l.word l.sum l.b-index
