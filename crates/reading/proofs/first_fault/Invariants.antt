use Prim.Native.Nat.{◌-◌}
use lib.ListN.{length}
use Rattle.as_path.specs.Segments.{number_bytes}
use Rattle.as_path.proofs.Scanning.{Outer}
use Rattle.reading.proofs.first_fault.Given as goal

abbrev pub invariant-loop-at : goal.invariant-loop-at
invariant-loop-at l = Outer number_bytes l.attr l.at

abbrev pub decreases-loop-at : goal.decreases-loop-at
decreases-loop-at l = length l.attr - l.at
