-- `table::remove` meets its contract.
use Rattle.std.proofs.Common.{arith}
use Rattle.table.proofs.Removing.{known, fits, step_1, step_2, step_3, step_4, step_counts}
use Rattle.table.proofs.remove.Goals as goal

pub close_room-requires : goal.close_room-requires
close_room-requires c =
    let K = known c.requires c.word-n.ensures.0 c.word-b.ensures.0 c.slot-at.ensures c.word-start.ensures.0 c.word-k.ensures.0 in
    omega (arith, fits K)

pub overflow_sub-end : goal.overflow_sub-end
overflow_sub-end c =
    let K = known c.requires c.word-n.ensures.0 c.word-b.ensures.0 c.slot-at.ensures c.word-start.ensures.0 c.word-k.ensures.0 in
    omega (arith, fits K)

pub close_room-requires-2 : goal.close_room-requires-2
close_room-requires-2 c =
    let K = known c.requires c.word-n.ensures.0 c.word-b.ensures.0 c.slot-at.ensures c.word-start.ensures.0 c.word-k.ensures.0 in
    omega (arith, fits K)

pub overflow_sub-n : goal.overflow_sub-n
overflow_sub-n c =
    let K = known c.requires c.word-n.ensures.0 c.word-b.ensures.0 c.slot-at.ensures c.word-start.ensures.0 c.word-k.ensures.0 in
    omega (arith, fits K)

pub overflow_sub-n-2 : goal.overflow_sub-n-2
overflow_sub-n-2 c =
    let K = known c.requires c.word-n.ensures.0 c.word-b.ensures.0 c.slot-at.ensures c.word-start.ensures.0 c.word-k.ensures.0 in
    omega (arith, fits K)

pub overflow_sub-s : goal.overflow_sub-s
overflow_sub-s c =
    let K = known c.requires c.word-n.ensures.0 c.word-b.ensures.0 c.slot-at.ensures c.word-start.ensures.0 c.word-k.ensures.0 in
    omega (arith, fits K)

pub overflow_sub-s-2 : goal.overflow_sub-s-2
overflow_sub-s-2 c =
    let K = known c.requires c.word-n.ensures.0 c.word-b.ensures.0 c.slot-at.ensures c.word-start.ensures.0 c.word-k.ensures.0 in
    omega (arith, fits K)

pub restart-requires : goal.restart-requires
restart-requires c =
    let at = c.slot-at.ensures in
    let end = c.slot-end.ensures in
    let K = known c.requires c.word-n.ensures.0 c.word-b.ensures.0 c.slot-at.ensures c.word-start.ensures.0 c.word-k.ensures.0 in
    let body = step_1 K _ (rw end at c.close_room.ensures) in
    let slot = step_2 K _ _ body (rw (at, end, c.width.ensures) at c.close_room-2.ensures) in
    rw at (omega (arith, fits K), step_counts K _ slot)

pub returns : goal.returns
returns c =
    let at = c.slot-at.ensures in
    let end = c.slot-end.ensures in
    let K = known c.requires c.word-n.ensures.0 c.word-b.ensures.0 c.slot-at.ensures c.word-start.ensures.0 c.word-k.ensures.0 in
    let body = step_1 K _ (rw end at c.close_room.ensures) in
    let slot = step_2 K _ _ body (rw (at, end, c.width.ensures) at c.close_room-2.ensures) in
    step_4 K _ (step_3 K _ _ slot (rw at at c.restart.ensures))
