-- `filter::find_list` meets its contract. Assumes nothing.
use Rattle.std.proofs.Common.{◌≡◌, ◌∙◌, ap}
use Rattle.registers.specs.Registers.{lent, part_in}
use Rattle.effects.proofs.Looking.{part_none, part_found}
use Rattle.filter.proofs.find_list.Goals as goal

pub returns-in-Ok : goal.returns-in-Ok
returns-in-Ok c =
    let a = c.args in
    let q = c.in-Ok.ensures in
    part_found (lent a.public.now a.overrides.now) a.source a.customer.0 q.1
    (c.find_list.ensures ∙ ap (λ r. part_in r a.source a.customer.0) q.0)

pub returns-in-Err : goal.returns-in-Err
returns-in-Err c = let a = c.args in part_none (lent a.public.now a.overrides.now) a.source a.customer.0 c.in-Err.ensures
