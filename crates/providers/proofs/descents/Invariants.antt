use Rattle.std.proofs.Common.{◌≡◌, ◌+◌, ◌-◌, ◌≤◌, ◌<◌, length, get_or, drop}
use Rattle.providers.specs.Helpers.{descents_from, descents_in}
use Rattle.providers.proofs.descents.Given as goal

abbrev pub invariant-loop-i : goal.invariant-loop-i
invariant-loop-i l = (l.many < l.i) × (l.many ≤ length l.list) × (l.many + descents_from (get_or l.list (l.i - 1) 0) (drop l.i l.list) ≡ descents_in l.list)
