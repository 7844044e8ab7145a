use Prim.Native.Nat.{◌-◌, ◌+◌, ◌*◌}
use mathlib.Core.Path.{◌≡◌}
use Rattle.as_path.specs.Segments.{number_bytes, count_at}
use Rattle.as_path.specs.Faults.{segment_fault, numbers_fault}
use Rattle.std.specs.Prelude.{None}
use Rattle.reading.proofs.segment_fault.Given as goal

abbrev pub invariant-loop-k : goal.invariant-loop-k
invariant-loop-k l =
    segment_fault number_bytes l.attr l.at None ≡ numbers_fault number_bytes (count_at l.attr l.at - l.k) l.attr (l.at + 2 + number_bytes * l.k) None
