use Rattle.routes.proofs.Checking.{Checked}
use Rattle.routes.proofs.are_routes.Given as goal

abbrev pub invariant-loop-i : goal.invariant-loop-i
invariant-loop-i l = Checked l.led l.n l.from l.i
