use Prim.Native.Nat.{◌/◌}
use lib.ListN.{length}
use Rattle.as_path.specs.Segments.{number_bytes}
use Rattle.as_path.proofs.Storing.{Pushing}
use Rattle.reading.proofs.merge_segment.Given as goal

abbrev pub invariant-loop-bytes : goal.invariant-loop-bytes
invariant-loop-bytes l =
    Pushing number_bytes l.body (length l.body / number_bytes) l.initial.path l.initial.last l.initial.to 0 l.path l.last l.to l.bytes-index
