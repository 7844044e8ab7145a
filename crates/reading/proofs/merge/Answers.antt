-- `reading::merge` meets its contract. Assumes nothing.
use mathlib.Core.Path.{refl}
use native.Mathlib.Omega.{arith}
use Rattle.as_path.specs.Segments.{number_bytes}
use Rattle.as_path.proofs.Storing.{gathers, gathered, here, gathers_on}
use Rattle.reading.proofs.merge.Goals as goal

pub loop-at-init : goal.loop-at-init
loop-at-init c = gathers number_bytes _ _ c.requires

pub segment_end-next-requires : goal.segment_end-next-requires
segment_end-next-requires c = omega (arith, (here c.loop-at.invariant c.loop-at-test.true).head)

pub slice_bounds-merge_segment-end : goal.slice_bounds-merge_segment-end
slice_bounds-merge_segment-end c = omega (arith, (here c.loop-at.invariant c.loop-at-test.true).body, c.segment_end-next.ensures)

pub loop-at-preserved : goal.loop-at-preserved
loop-at-preserved c =
    gathers_on c.loop-at.invariant c.loop-at-test.true c.segment_end-next.ensures (omega arith) (omega arith) refl c.merge_segment-end.ensures

pub returns : goal.returns
returns c = gathered c.loop-at.invariant c.loop-at-test.false
