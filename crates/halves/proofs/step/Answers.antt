-- `halves::step` meets its contract.
use mathlib.Core.Path.{refl}
use Rattle.halves.specs.Halves.{stepped}
use Rattle.halves.proofs.Steps.{does}
use Rattle.halves.proofs.step.Goals as goal

pub returns-then-is_before : goal.returns-then-is_before
unfolding stepped
returns-then-is_before c = does _ _ _ c.requires (rw (c.middle_of-middle.ensures, ← c.is_before.ensures, c.if-is_before.true) refl)

pub returns-else-is_before : goal.returns-else-is_before
unfolding stepped
returns-else-is_before c = does _ _ _ c.requires (rw (c.middle_of-middle.ensures, ← c.is_before.ensures, c.if-is_before.false) refl)
