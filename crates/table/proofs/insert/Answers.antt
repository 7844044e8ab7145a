-- `table::insert` meets its contract.
use Rattle.std.proofs.Common.{arith}
use Rattle.table.proofs.Inserting.{known, nums, step_1, step_2, step_3, step_4, step_counts}
use Rattle.table.proofs.insert.Goals as goal

pub overflow_add-end : goal.overflow_add-end
overflow_add-end c = omega (arith, nums (known c.requires c.word-n.ensures.0 c.word-b.ensures.0 c.start_of-start.ensures))

pub splice-requires : goal.splice-requires
splice-requires c = omega (arith, nums (known c.requires c.word-n.ensures.0 c.word-b.ensures.0 c.start_of-start.ensures))

pub overflow_cast-start : goal.overflow_cast-start
overflow_cast-start c = omega (arith, nums (known c.requires c.word-n.ensures.0 c.word-b.ensures.0 c.start_of-start.ensures))

pub put_slot-requires : goal.put_slot-requires
put_slot-requires c = omega (arith, nums (known c.requires c.word-n.ensures.0 c.word-b.ensures.0 c.start_of-start.ensures))

pub overflow_sub-n : goal.overflow_sub-n
overflow_sub-n c = omega (arith, nums (known c.requires c.word-n.ensures.0 c.word-b.ensures.0 c.start_of-start.ensures))

pub overflow_add-start : goal.overflow_add-start
overflow_add-start c = omega (arith, nums (known c.requires c.word-n.ensures.0 c.word-b.ensures.0 c.start_of-start.ensures))

pub overflow_cast-start-2 : goal.overflow_cast-start-2
overflow_cast-start-2 c = omega (arith, nums (known c.requires c.word-n.ensures.0 c.word-b.ensures.0 c.start_of-start.ensures))

pub overflow_cast-s : goal.overflow_cast-s
overflow_cast-s c = omega (arith, nums (known c.requires c.word-n.ensures.0 c.word-b.ensures.0 c.start_of-start.ensures))

pub overflow_cast-s-2 : goal.overflow_cast-s-2
overflow_cast-s-2 c = omega (arith, nums (known c.requires c.word-n.ensures.0 c.word-b.ensures.0 c.start_of-start.ensures))

pub restart-requires : goal.restart-requires
restart-requires c =
    let K = known c.requires c.word-n.ensures.0 c.word-b.ensures.0 c.start_of-start.ensures in
    let at = c.slot-at.ensures in
    let end = c.slot-end.ensures in
    let spliced = step_1 K _ (rw end at c.splice.ensures) in
    let put = step_2 K _ _ spliced (rw (at, end) at c.put_slot.ensures) in
    rw (at, c.width.ensures) (omega (arith, nums K), step_counts K _ put)

pub returns : goal.returns
returns c =
    let K = known c.requires c.word-n.ensures.0 c.word-b.ensures.0 c.start_of-start.ensures in
    let at = c.slot-at.ensures in
    let end = c.slot-end.ensures in
    let spliced = step_1 K _ (rw end at c.splice.ensures) in
    let put = step_2 K _ _ spliced (rw (at, end) at c.put_slot.ensures) in
    step_4 K _ (step_3 K _ _ put (rw (at, c.width.ensures) at c.restart.ensures))
