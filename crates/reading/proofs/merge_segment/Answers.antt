-- `reading::merge_segment` meets its contract. Assumes nothing.
use Prim.Native.Nat.{◌/◌, ◌<◌}
use native.Mathlib.Omega.{arith}
use lib.ListN.{length}
use Rattle.as_path.specs.Segments.{number_bytes}
use Rattle.as_path.proofs.Scanning.{number_is}
use Rattle.as_path.proofs.Storing.{skips, stores, segment_stored}
use Rattle.reading.proofs.merge_segment.Goals as goal
use Rattle.reading.proofs.merge_segment.Goals.{then-number-last, else-number-last}

pub loop-bytes-preserved : goal.loop-bytes-preserved
loop-bytes-preserved c =
    let h : c.loop-bytes.bytes-index < length c.args.body.now / number_bytes = omega (arith, c.as_chunks.ensures.front_len) in
    let e = number_is _ _ c.as_chunks.ensures.front c.loop-bytes-test.true c.from_be_bytes-number.ensures in
    elim c.if-number-last.branch [
      | then-number-last w ↦ rw (w.path-is, w.to-is, w.last-is) (stores c.loop-bytes.invariant h e w.if-number-last.true w.put.ensures)
      | else-number-last w ↦ rw (w.path-is, w.to-is, w.last-is) (skips c.loop-bytes.invariant h e w.if-number-last.false)
    ]

pub returns : goal.returns
returns c = segment_stored number_bytes _ _ c.loop-bytes.invariant (omega (arith, c.as_chunks.ensures.front_len))
