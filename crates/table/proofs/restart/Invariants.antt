use Rattle.std.proofs.Common.{◌≡◌, ◌++◌, ◌+◌, ◌-◌, ◌*◌, ◌<◌, ◌^◌, take, drop}
use Rattle.table.specs.Table.{width}
use Rattle.table.specs.Helpers.{restarted, counts}
use Rattle.table.proofs.restart.Given as goal

-- What is left to do makes of the slice what was to be made of it at the start.
abbrev pub invariant-loop-i : goal.invariant-loop-i
invariant-loop-i l =
    let slot = l.at + l.i * width l.layout.head l.layout.tail in
    let anew = restarted l.layout.head l.layout.tail in
    record {
      counted : l.next + counts l.layout.head l.layout.tail (l.m - l.i) (drop slot l.s) < 2 ^ 32;
      same : take slot l.s ++ anew (l.m - l.i) l.next (drop slot l.s) ≡ take l.at l.initial.s ++ anew l.m l.o (drop l.at l.initial.s);
    }
