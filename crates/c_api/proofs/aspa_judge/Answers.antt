-- `c_api::aspa_judge` meets its contract. Assumes nothing.
use Rattle.c_api.proofs.Tellings.{judge_below}
use Rattle.c_api.proofs.aspa_judge.Goals as goal

pub tell-requires : goal.tell-requires
tell-requires c = rw c.judge.ensures (judge_below _ _ _ _)
