-- `check` meets its contract.
use Rattle.std.proofs.Common.{sym, ◌∙◌}
use Rattle.registers.specs.Registers.{lent}
use Rattle.registers.proofs.Choosing.{public_ok, overrides_ok}
use Rattle.registers.proofs.check.Goals as goal

pub invariant_of-plain : goal.invariant_of-plain
invariant_of-plain c =
    record { well_formed = public_ok (lent c.args.public.now c.args.overrides.now) (sym c.are_registers.ensures ∙ c.if-not-are_registers.false) }

pub invariant_of-plain-2 : goal.invariant_of-plain-2
invariant_of-plain-2 c =
    record { well_formed = overrides_ok (lent c.args.public.now c.args.overrides.now) (sym c.are_registers.ensures ∙ c.if-not-are_registers.false) }
