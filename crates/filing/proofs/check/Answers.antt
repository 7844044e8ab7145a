-- `filing::check` meets its contract. Assumes nothing.
use Rattle.std.proofs.lemmas.Result.{err_from_is_err_and}
use Rattle.register.proofs.Filing.{rows_length, rows_malformed, rows_source, rows_pass}
use Rattle.filing.proofs.check.Goals as goal

pub returns-then-reg-ne-WORDS : goal.returns-then-reg-ne-WORDS
returns-then-reg-ne-WORDS c = rows_length c.args.reg.now c.args.source c.if-reg-ne-WORDS.true

pub returns-in_err-register : goal.returns-in_err-register
returns-in_err-register c =
    let p = err_from_is_err_and c.from_residual.result c.from_residual.ensures.1 in
    let q = c.in_err-register.ensures in
    rw (p.1, p.2, q.0) (rows_malformed c.args.reg.now c.args.source c.if-reg-ne-WORDS.false q.1)

pub returns-then-source-gt-LAST_SOURCE : goal.returns-then-source-gt-LAST_SOURCE
returns-then-source-gt-LAST_SOURCE c =
    rows_source c.args.reg.now c.args.source c.if-reg-ne-WORDS.false c.in_ok-register.ensures.1 c.if-source-gt-LAST_SOURCE.true

pub returns : goal.returns
returns c =
    let q = c.in_ok-register.ensures in
    (q.0, rows_pass c.args.reg.now c.args.source c.if-reg-ne-WORDS.false q.1 c.if-source-gt-LAST_SOURCE.false)
