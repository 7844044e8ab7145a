-- `routes::has_no_zero` meets its contract. Assumes nothing.
use Rattle.routes.proofs.Paths.{zeros_on, zeros_none}
use Rattle.routes.proofs.has_no_zero.Goals as goal

pub loop-x-preserved : goal.loop-x-preserved
loop-x-preserved c = zeros_on _ _ _ c.loop-x.invariant c.loop-x-test.true

pub returns : goal.returns
returns c = zeros_none _ _ _ c.loop-x.invariant c.loop-x-test.false
