-- `verdict::find_ramps` meets its contract. Assumes nothing.
use Rattle.verdict.proofs.Judgements.{ramped}
use Rattle.verdict.proofs.Passing.{passes, passes_on, passed}
use Rattle.verdict.proofs.find_ramps.Goals as goal

pub loop-i-init : goal.loop-i-init
loop-i-init g c = passes _ _ c.requires.0 c.number_or_zero.ensures c.hop-up.ensures

pub loop-i-preserved : goal.loop-i-preserved
loop-i-preserved g c =
    passes_on c.loop-i.invariant c.loop-i-test.true c.after_up-ramps.ensures c.hops-hops.ensures.y c.after_down-ramps.ensures
    c.number_or_zero-in-loop-i.ensures c.hops-hops.ensures.z

pub returns : goal.returns
returns g c = ramped _ _ c.requires.0 (passed c.loop-i.invariant c.loop-i-test.false)
