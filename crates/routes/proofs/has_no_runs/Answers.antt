-- `routes::has_no_runs` meets its contract. Assumes nothing.
use Rattle.routes.proofs.Paths.{compares, runs_on, runs_none}
use Rattle.routes.proofs.has_no_runs.Goals as goal

pub loop-i-init : goal.loop-i-init
loop-i-init c = compares _

pub loop-i-preserved : goal.loop-i-preserved
loop-i-preserved c = runs_on _ _ _ c.loop-i.invariant c.loop-i-test.true

pub returns : goal.returns
returns c = runs_none _ _ _ c.loop-i.invariant c.loop-i-test.false
