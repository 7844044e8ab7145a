-- `table::clear` meets its contract.
use Rattle.std.proofs.Common.{sym, ◌∙◌, arith}
use Rattle.table.proofs.Clearing.{known, sizes, all_sizes, some_entry, slots_may, many_kept, clear_none, clear_done}
use Rattle.table.proofs.clear.Goals as goal

pub returns-then-n-eq0 : goal.returns-then-n-eq0
returns-then-n-eq0 c = clear_none _ _ _ c.args.value _ c.requires (sym c.word-n.ensures.0 ∙ c.if-n-eq0.true)

pub slot-end-requires : goal.slot-end-requires
slot-end-requires c = omega (arith, sizes (known c.requires c.word-n.ensures.0 c.word-b.ensures.0 c.if-n-eq0.false c.args.value))

pub pack_bodies-k-requires : goal.pack_bodies-k-requires
pack_bodies-k-requires c =
    let K = known c.requires c.word-n.ensures.0 c.word-b.ensures.0 c.if-n-eq0.false c.args.value in
    (c.requires, some_entry K)

pub pack_slots-m-requires : goal.pack_slots-m-requires
pack_slots-m-requires c =
    let K = known c.requires c.word-n.ensures.0 c.word-b.ensures.0 c.if-n-eq0.false c.args.value in
    slots_may K _ c.pack_bodies-k.ensures.0

pub slot-kept-requires : goal.slot-kept-requires
slot-kept-requires c =
    let K = known c.requires c.word-n.ensures.0 c.word-b.ensures.0 c.if-n-eq0.false c.args.value in
    omega (arith, all_sizes K c.pack_bodies-k.ensures c.pack_slots-m.ensures)

pub copy_down-requires : goal.copy_down-requires
copy_down-requires c =
    let K = known c.requires c.word-n.ensures.0 c.word-b.ensures.0 c.if-n-eq0.false c.args.value in
    omega (arith, all_sizes K c.pack_bodies-k.ensures c.pack_slots-m.ensures)

pub overflow_add-kept : goal.overflow_add-kept
overflow_add-kept c =
    let K = known c.requires c.word-n.ensures.0 c.word-b.ensures.0 c.if-n-eq0.false c.args.value in
    omega (arith, all_sizes K c.pack_bodies-k.ensures c.pack_slots-m.ensures)

pub overflow_add-end : goal.overflow_add-end
overflow_add-end c =
    let K = known c.requires c.word-n.ensures.0 c.word-b.ensures.0 c.if-n-eq0.false c.args.value in
    omega (arith, all_sizes K c.pack_bodies-k.ensures c.pack_slots-m.ensures)

pub zero-requires : goal.zero-requires
zero-requires c =
    let K = known c.requires c.word-n.ensures.0 c.word-b.ensures.0 c.if-n-eq0.false c.args.value in
    omega (arith, all_sizes K c.pack_bodies-k.ensures c.pack_slots-m.ensures)

pub overflow_cast-s : goal.overflow_cast-s
overflow_cast-s c =
    let K = known c.requires c.word-n.ensures.0 c.word-b.ensures.0 c.if-n-eq0.false c.args.value in
    omega (arith, all_sizes K c.pack_bodies-k.ensures c.pack_slots-m.ensures)

pub overflow_cast-s-2 : goal.overflow_cast-s-2
overflow_cast-s-2 c =
    let K = known c.requires c.word-n.ensures.0 c.word-b.ensures.0 c.if-n-eq0.false c.args.value in
    omega (arith, all_sizes K c.pack_bodies-k.ensures c.pack_slots-m.ensures)

pub overflow_sub-result : goal.overflow_sub-result
overflow_sub-result c =
    let K = known c.requires c.word-n.ensures.0 c.word-b.ensures.0 c.if-n-eq0.false c.args.value in
    omega (arith, all_sizes K c.pack_bodies-k.ensures c.pack_slots-m.ensures)

pub returns : goal.returns
returns c =
    let K = known c.requires c.word-n.ensures.0 c.word-b.ensures.0 c.if-n-eq0.false c.args.value in
    let many = many_kept K _ c.pack_bodies-k.ensures.0 _ c.pack_slots-m.ensures.1 in
    let moved = rw (c.slot-kept.ensures, c.slot-end.ensures) at c.copy_down.ensures in
    let zeros = rw (c.slot-kept.ensures, c.slot-end.ensures) at c.zero.ensures in
    clear_done K _ c.pack_bodies-k.ensures.0 _ _ many c.pack_bodies-k.ensures.1 _ _ _ c.pack_slots-m.ensures.0 moved zeros
