use Rattle.std.proofs.Common.{◌≡◌, ◌&&◌, drop}
use Rattle.table.specs.Table.{all_zero}
use Rattle.table.proofs.all_zero.Given as goal

-- The flag, and the words that are left, give the result.
abbrev pub invariant-loop-x : goal.invariant-loop-x
invariant-loop-x l = (l.zeros && all_zero (drop l.x-index l.words)) ≡ all_zero l.words
