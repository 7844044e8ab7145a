use Rattle.table.proofs.Clearing.{Thinned}
use Rattle.table.proofs.pack_slots.Given as goal

abbrev pub invariant-loop-i : goal.invariant-loop-i
invariant-loop-i l = Thinned l.initial.s l.layout.head l.layout.tail l.column l.value l.n l.s l.m l.next l.i
