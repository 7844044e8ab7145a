use Rattle.routes.proofs.Paths.{Seeking}
use Rattle.routes.proofs.has_no_zero.Given as goal

abbrev pub invariant-loop-x : goal.invariant-loop-x
invariant-loop-x l = Seeking l.path l.none l.x-index
