-- `runs::close_room` meets its contract.
use Rattle.std.proofs.Common.{◌-◌, ◌∙◌, ap, arith}
use Rattle.runs.specs.Words.{zeroed}
use Rattle.runs.proofs.Laws.{closed_by_copy}
use Rattle.runs.proofs.close_room.Goals as goal

pub returns : goal.returns
returns c =
    let a = c.args in
    c.zero.ensures
    ∙ ap (λ l. zeroed l (a.used - a.k) a.used) c.copy_within.ensures.after
    ∙ closed_by_copy a.s.now a.at a.k a.used (omega arith) (omega arith)
