-- `c_api::aspa_write` meets its contract. Assumes nothing.
use mathlib.Core.Path.{ap}
use Rattle.c_api.proofs.Tellings.{write_below}
use Rattle.c_api.proofs.aspa_write.Goals as goal

pub tell_written-requires : goal.tell_written-requires
tell_written-requires c = rw (ap (λ s. s.answer) c.write.ensures) (write_below _ _ _)
