-- `routes::slot` meets its contract. Assumes nothing.
use native.Mathlib.Omega.{arith}
use Rattle.routes.proofs.Slots.{slot_fits, slot_is}
use Rattle.routes.proofs.slot.Goals as goal

pub overflow_mul-from : goal.overflow_mul-from
overflow_mul-from c = omega (arith, slot_fits c.requires)

pub overflow_add-from : goal.overflow_add-from
overflow_add-from c = omega (arith, slot_fits c.requires)

pub overflow_add-result : goal.overflow_add-result
overflow_add-result c = omega (arith, slot_fits c.requires)

pub offset_bounds-led-from : goal.offset_bounds-led-from
offset_bounds-led-from c = omega (arith, slot_fits c.requires)

pub slice_bounds-result-end : goal.slice_bounds-result-end
slice_bounds-result-end c = omega (arith, slot_fits c.requires)

pub returns : goal.returns
returns c = slot_is c.requires (omega arith)
