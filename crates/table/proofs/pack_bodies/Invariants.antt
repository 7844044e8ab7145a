use Rattle.table.proofs.Staying.{Packed}
use Rattle.table.proofs.pack_bodies.Given as goal

abbrev pub invariant-loop-i : goal.invariant-loop-i
invariant-loop-i l = Packed l.initial.s l.layout.head l.layout.tail l.column l.value l.n l.end l.s l.from l.to l.i
