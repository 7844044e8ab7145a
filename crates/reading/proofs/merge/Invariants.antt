use Prim.Native.Nat.{◌-◌}
use lib.ListN.{length}
use Rattle.as_path.specs.Segments.{number_bytes}
use Rattle.as_path.proofs.Storing.{Gathering}
use Rattle.reading.proofs.merge.Given as goal

abbrev pub invariant-loop-at : goal.invariant-loop-at
invariant-loop-at l = Gathering number_bytes l.attr l.initial.path l.path l.end.to l.end.last l.at

abbrev pub decreases-loop-at : goal.decreases-loop-at
decreases-loop-at l = length l.attr - l.at
