-- `filing::withdraw` meets its contract. Assumes nothing.
use Rattle.std.proofs.Common.{sym, ◌∙◌, ap}
use Rattle.std.proofs.lemmas.Result.{err_from_is_err_and}
use Rattle.register.specs.Register.{records_of, position_of}
use Rattle.register.specs.Calls.{holds_record}
use Rattle.register.proofs.Filing.{passes, withdraw_early, withdraw_customer, withdraw_none, withdraw_goes, withdraw_done}
use Rattle.filing.proofs.withdraw.Goals as goal

pub returns-in_err-register : goal.returns-in_err-register
returns-in_err-register c =
    let p = err_from_is_err_and c.from_residual.result c.from_residual.ensures.1 in
    rw (p.1, p.2) (withdraw_early c.args.reg.now c.args.source c.args.customer.0 _ c.in_err-register.ensures)

pub returns-then-customer-eq0 : goal.returns-then-customer-eq0
returns-then-customer-eq0 c =
    let a = c.args in
    withdraw_customer a.reg.now a.source a.customer.0 (passes _ _ c.in_ok-register.ensures.1) c.if-customer-eq0.true

pub returns-then-not-is_at : goal.returns-then-not-is_at
returns-then-not-is_at c =
    let a = c.args in
    let q = c.in_ok-register.ensures in
    withdraw_none a.reg.now a.source a.customer.0 (passes _ _ q.1) c.if-customer-eq0.false
    (ap (λ ws. holds_record a.customer.0 a.source (records_of ws)) (sym q.0) ∙ sym c.is_at.ensures ∙ c.if-not-is_at.true)

pub remove-requires : goal.remove-requires
remove-requires c =
    let a = c.args in
    let q = c.in_ok-register.ensures in
    withdraw_goes a.reg.now a.source a.customer.0 (passes _ _ q.1) c.if-customer-eq0.false
    (ap (λ ws. holds_record a.customer.0 a.source (records_of ws)) (sym q.0) ∙ sym c.is_at.ensures ∙ c.if-not-is_at.false)
    (c.find-position.ensures.0 ∙ ap (λ ws. position_of a.customer.0 a.source (records_of ws)) q.0)

pub returns : goal.returns
returns c =
    let a = c.args in
    let q = c.in_ok-register.ensures in
    withdraw_done a.reg.now a.source a.customer.0 (passes _ _ q.1) c.if-customer-eq0.false
    (ap (λ ws. holds_record a.customer.0 a.source (records_of ws)) (sym q.0) ∙ sym c.is_at.ensures ∙ c.if-not-is_at.false)
    (c.find-position.ensures.0 ∙ ap (λ ws. position_of a.customer.0 a.source (records_of ws)) q.0) c.remove.ensures
