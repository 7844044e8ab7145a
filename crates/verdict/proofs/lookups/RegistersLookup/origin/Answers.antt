-- `verdict::lookups::RegistersLookup::origin` meets its contract. Assumes nothing.
use mathlib.Core.Path.{◌∙◌}
use Rattle.verdict.proofs.Naming.{by_customer}
use Rattle.verdict.proofs.lookups.RegistersLookup.origin.Goals as goal

pub returns : goal.returns
returns c = λ y h. c.origin_for.ensures ∙ by_customer _ _ _ y h
