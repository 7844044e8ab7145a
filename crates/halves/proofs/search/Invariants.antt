use lib.ListN.{get_or}
use Rattle.halves.specs.Halves.{key_of, before_in, size}
use Rattle.halves.proofs.Searches.{Left}
use Rattle.halves.proofs.search.Given as goal

abbrev pub invariant-loop-range : goal.invariant-loop-range
invariant-loop-range l = Left (before_in l.width l.words (key_of l.key)) (get_or l.words 0 0) l.from l.range

abbrev pub decreases-loop-range : goal.decreases-loop-range
decreases-loop-range l = size l.range
