-- `table::all_zero` meets its contract.
use Rattle.std.proofs.Common.{sym, ap, ◌∙◌, ◌&&◌}
use Rattle.std.proofs.Math.Bool.{and_assoc, and-true}
use Rattle.table.proofs.Checking.{zero_peel, zero_none}
use Rattle.table.proofs.all_zero.Goals as goal

pub loop-x-preserved : goal.loop-x-preserved
loop-x-preserved c =
    let l = c.loop-x in
    let ws = c.args.words.now in
    and_assoc l.zeros _ _ ∙ ap (λ b. l.zeros && b) (sym (zero_peel ws l.x-index c.loop-x-test.true)) ∙ l.invariant

pub returns : goal.returns
returns c =
    let l = c.loop-x in
    sym (and-true l.zeros) ∙ ap (λ b. l.zeros && b) (sym (zero_none c.args.words.now l.x-index c.loop-x-test.false)) ∙ l.invariant
