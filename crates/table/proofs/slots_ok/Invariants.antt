use Rattle.std.proofs.Common.{◌≡◌, ◌≤◌, ◌/◌, length}
use Rattle.std.specs.Slice.Iter.{chunks_exact_rest, chunks_exact_size}
use Rattle.table.specs.Table.{width, slots_ok}
use Rattle.table.proofs.slots_ok.Given as goal

-- The check of the slots that are left gives the result.
abbrev pub invariant-loop-slot : goal.invariant-loop-slot
invariant-loop-slot l =
    let rest = chunks_exact_rest l.slot-iterator in
    let w = width l.layout.head l.layout.tail in
    let ok = slots_ok l.layout.head l.layout.tail in
    record {
      wide : chunks_exact_size l.slot-iterator ≡ w;
      within : l.next ≤ l.b;
      same : ok (length rest / w) l.next l.b rest ≡ ok (length l.slots / w) 0 l.b l.slots;
    }
