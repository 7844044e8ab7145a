-- `verdict::lookups::HintedLookup::origin` meets its contract. Assumes nothing.
use Rattle.verdict.proofs.Naming.{by_register}
use Rattle.verdict.proofs.lookups.HintedLookup.origin.Goals as goal

pub returns : goal.returns
returns c = by_register _ _ _
