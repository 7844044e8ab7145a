-- `runs::open_room` meets its contract.
use Rattle.std.proofs.Common.{◌∙◌, arith}
use Rattle.runs.proofs.Laws.{opened_by_copy}
use Rattle.runs.proofs.open_room.Goals as goal

pub returns : goal.returns
returns c =
    let a = c.args in
    c.copy_within.ensures.after ∙ opened_by_copy a.s.now a.at a.k a.used (omega arith)
