-- `c_api::aspa_keep` meets its contract. Assumes nothing.
use mathlib.Core.Path.{ap}
use Rattle.c_api.proofs.Tellings.{keep_below}
use Rattle.c_api.proofs.aspa_keep.Goals as goal

pub tell-requires : goal.tell-requires
tell-requires c = rw (ap (λ s. s.answer) c.keep.ensures) (keep_below _ _ _)
