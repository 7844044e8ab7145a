-- `filing::clear` meets its contract. Assumes nothing.
use native.Mathlib.Omega.{arith}
use Rattle.std.proofs.lemmas.Result.{err_from_is_err_and}
use Rattle.table.specs.Table.{decode}
use Rattle.table.proofs.Staying.{went}
use Rattle.register.specs.Register.{record_head, record_tail, source_word}
use Rattle.register.proofs.Filing.{passes, clear_early, clear_may, gone_few, clear_done}
use Rattle.filing.proofs.clear.Goals as goal

pub returns-in_err-check : goal.returns-in_err-check
returns-in_err-check c =
    let p = err_from_is_err_and c.from_residual.result c.from_residual.ensures.1 in
    rw (p.1, p.2) (clear_early c.args.reg.now c.args.source _ c.in_err-check.ensures)

pub clear-gone-requires : goal.clear-gone-requires
clear-gone-requires c = let p = passes c.args.reg.now c.args.source c.in_ok-check.ensures.1 in clear_may c.args.reg.now c.args.source p.long p.ok

pub overflow_cast-result : goal.overflow_cast-result
overflow_cast-result c = let a = c.args in let p = passes a.reg.now a.source c.in_ok-check.ensures.1 in
    omega (arith, gone_few a.reg.now a.source p.long p.ok (went source_word a.source (decode record_head record_tail a.reg.now) c.clear-gone.ensures.1))

pub returns : goal.returns
returns c = let a = c.args in
    clear_done a.reg.now a.source (passes _ _ c.in_ok-check.ensures.1)
    (went source_word a.source (decode record_head record_tail a.reg.now) c.clear-gone.ensures.1) c.clear-gone.ensures.0
