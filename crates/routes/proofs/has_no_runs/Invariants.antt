use Rattle.routes.proofs.Paths.{Comparing}
use Rattle.routes.proofs.has_no_runs.Given as goal

abbrev pub invariant-loop-i : goal.invariant-loop-i
invariant-loop-i l = Comparing l.path l.none l.i
