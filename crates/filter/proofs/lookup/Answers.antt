-- `filter::lookup` meets its contract. Assumes nothing.
use native.Mathlib.Omega.{arith}
use Rattle.registers.specs.Registers.{lent}
use Rattle.effects.proofs.Looking.{cut_order, cut_small, cut_within, cut_list}
use Rattle.filter.proofs.lookup.Goals as goal

pub offset_bounds-register-part : goal.offset_bounds-register-part
offset_bounds-register-part c =
    let a = c.args in
    omega (
      arith,
      cut_order (lent a.public.now a.overrides.now) a.source a.customer.0 c.find_list-part.ensures c.choose-register.ensures,
      cut_small (lent a.public.now a.overrides.now) a.source a.customer.0 c.find_list-part.ensures c.choose-register.ensures,
    )

pub slice_bounds-result-count : goal.slice_bounds-result-count
slice_bounds-result-count c =
    let a = c.args in
    omega (arith, cut_order (lent a.public.now a.overrides.now) a.source a.customer.0 c.find_list-part.ensures c.choose-register.ensures)

pub slice_bounds-result-start : goal.slice_bounds-result-start
slice_bounds-result-start c =
    let a = c.args in
    cut_order (lent a.public.now a.overrides.now) a.source a.customer.0 c.find_list-part.ensures c.choose-register.ensures

pub slice_bounds-result-end : goal.slice_bounds-result-end
slice_bounds-result-end c =
    let a = c.args in
    cut_within (lent a.public.now a.overrides.now) a.source a.customer.0 c.find_list-part.ensures c.choose-register.ensures

pub returns : goal.returns
returns c =
    let a = c.args in
    cut_list (lent a.public.now a.overrides.now) a.source a.customer.0 c.find_list-part.ensures c.choose-register.ensures
