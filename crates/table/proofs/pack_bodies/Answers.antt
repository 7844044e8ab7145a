-- `table::pack_bodies` meets its contract. The invariant is `Packed`: the entries from i on are left to do.
use Rattle.std.proofs.Common.{arith}
use Rattle.table.proofs.Staying.{packed, pack_reach, pack_in, pack_out, pack_done}
use Rattle.table.proofs.pack_bodies.Goals as goal
use Rattle.table.proofs.pack_bodies.Goals.{then-s-slot, else-s-slot}

pub loop-i-init : goal.loop-i-init
loop-i-init c = rw c.slot-end.ensures (packed _ _ _ _ c.args.value _ c.requires c.word-n.ensures.0)

pub copy_down-requires : goal.copy_down-requires
copy_down-requires c =
    let read = rw c.slot-slot.ensures at c.word-count.ensures.0 in
    let reach = pack_reach c.loop-i.invariant c.loop-i-test.true _ read in omega arith

pub overflow_add-to : goal.overflow_add-to
overflow_add-to c =
    let read = rw c.slot-slot.ensures at c.word-count.ensures.0 in
    let reach = pack_reach c.loop-i.invariant c.loop-i-test.true _ read in omega arith

pub overflow_add-from : goal.overflow_add-from
overflow_add-from c =
    let read = rw c.slot-slot.ensures at c.word-count.ensures.0 in
    let reach = pack_reach c.loop-i.invariant c.loop-i-test.true _ read in omega arith

pub loop-i-preserved : goal.loop-i-preserved
loop-i-preserved c =
    let l = c.loop-i in
    let turn = c.loop-i-test.true in
    let slot = c.slot-slot.ensures in
    let read = rw slot at c.word-count.ensures.0 in
    elim c.if-s-slot.branch [
      | then-s-slot w ↦ rw (w.s-is, w.to-is) (pack_in l.invariant turn _ read (rw slot at w.if-s-slot.true) _ w.copy_down.ensures)
      | else-s-slot w ↦ rw (w.s-is, w.to-is) (pack_out l.invariant turn _ read (rw slot at w.if-s-slot.false))
    ]

pub returns : goal.returns
returns c = pack_done c.loop-i.invariant c.loop-i-test.false
