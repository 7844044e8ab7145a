use Prim.Native.Nat.{◌-◌}
use lib.ListN.{length}
use Rattle.as_path.specs.Segments.{number_bytes}
use Rattle.as_path.proofs.Grounding.{Seeking}
use Rattle.reading.proofs.has_set.Given as goal

abbrev pub invariant-loop-at : goal.invariant-loop-at
invariant-loop-at l = Seeking number_bytes l.attr l.at

abbrev pub decreases-loop-at : goal.decreases-loop-at
decreases-loop-at l = length l.attr - l.at
