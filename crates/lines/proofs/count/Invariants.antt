use Rattle.std.proofs.Common.{◌≡◌, ◌+◌, ◌≤◌, take}
use Rattle.std.specs.List.{count_by}
use lib.Dec.{eqb}
use Rattle.lines.proofs.count.Given as goal

abbrev pub invariant-loop-b : goal.invariant-loop-b
invariant-loop-b l = (l.n ≡ count_by (λ b. eqb b 32) (take l.b-index l.line) + 1) × (l.n ≤ l.b-index + 1)
