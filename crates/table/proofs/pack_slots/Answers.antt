-- `table::pack_slots` meets its contract. The invariant is `Thinned`: the slots from i on are left to do.
use Rattle.std.proofs.Common.{arith}
use Rattle.table.proofs.Clearing.{thin_counts, thin_in, thin_out, thin_done}
use Rattle.table.proofs.pack_slots.Goals as goal
use Rattle.table.proofs.pack_slots.Goals.{then-s-slot, else-s-slot}

pub overflow_add-next : goal.overflow_add-next
overflow_add-next c = rw c.slot-slot.ensures (omega (arith, thin_counts c.loop-i.invariant c.loop-i-test.true))

pub loop-i-preserved : goal.loop-i-preserved
loop-i-preserved c =
    let l = c.loop-i in
    let turn = c.loop-i-test.true in
    let slot = c.slot-slot.ensures in
    elim c.if-s-slot.branch [
      | then-s-slot w ↦ rw (w.s-is, w.m-is, w.next-is, w.slot-at.ensures, slot)
          (thin_in l.invariant turn (rw slot at w.if-s-slot.true) _ (rw (w.slot-at.ensures, slot, w.width.ensures) at w.copy_down.ensures))
      | else-s-slot w ↦ rw (w.s-is, w.m-is, w.next-is) (thin_out l.invariant turn (rw slot at w.if-s-slot.false))
    ]

pub returns : goal.returns
returns c = thin_done c.loop-i.invariant c.loop-i-test.false
