use Rattle.std.proofs.Common.{◌≡◌, ◌≤◌, length}
use Rattle.replies.specs.Texts.{without_zeros}
use Rattle.replies.proofs.without_zeros.Given as goal

abbrev pub invariant-loop-rest : goal.invariant-loop-rest
invariant-loop-rest l = (without_zeros l.rest ≡ without_zeros l.table) × (length l.rest ≤ length l.table)

abbrev pub decreases-loop-rest : goal.decreases-loop-rest
decreases-loop-rest l = length l.rest
