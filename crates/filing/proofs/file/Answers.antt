-- `filing::file` meets its contract. Assumes nothing.
use Rattle.std.proofs.Common.{sym, ◌∙◌, ap}
use Rattle.std.proofs.lemmas.Result.{err_from_is_err_and}
use Rattle.register.specs.Register.{records_of, position_of}
use Rattle.register.specs.Calls.{holds_record}
use Rattle.register.proofs.Filing.{passes, file_early, file_customer, file_list, file_passed}
use Rattle.filing.proofs.file.Goals as goal

pub returns-in_err-register : goal.returns-in_err-register
returns-in_err-register c =
    let p = err_from_is_err_and c.from_residual.result c.from_residual.ensures.1 in
    rw (p.1, p.2) (file_early c.args.reg.now c.args.source c.args.customer.0 c.args.list.now _ c.in_err-register.ensures)

pub returns-then-customer-eq0 : goal.returns-then-customer-eq0
returns-then-customer-eq0 c =
    let a = c.args in
    file_customer a.reg.now a.source a.customer.0 a.list.now (passes _ _ c.in_ok-register.ensures.1) c.if-customer-eq0.true

pub returns-then-not-is_list : goal.returns-then-not-is_list
returns-then-not-is_list c =
    let a = c.args in
    file_list a.reg.now a.source a.customer.0 a.list.now (passes _ _ c.in_ok-register.ensures.1) c.if-customer-eq0.false
    (sym c.is_list.ensures ∙ c.if-not-is_list.true)

pub replace-requires : goal.replace-requires
replace-requires c =
    let a = c.args in
    let q = c.in_ok-register.ensures in (
      file_passed a.reg.now a.source a.customer.0 a.list.now (passes _ _ q.1) c.if-customer-eq0.false
          (sym c.is_list.ensures ∙ c.if-not-is_list.false)
          (c.find-position.ensures.0 ∙ ap (λ ws. position_of a.customer.0 a.source (records_of ws)) q.0),
      ap (λ ws. holds_record a.customer.0 a.source (records_of ws)) (sym q.0) ∙ sym c.is_at.ensures ∙ c.if-is_at.true,
    )

pub add-requires : goal.add-requires
add-requires c =
    let a = c.args in
    let q = c.in_ok-register.ensures in (
      file_passed a.reg.now a.source a.customer.0 a.list.now (passes _ _ q.1) c.if-customer-eq0.false
          (sym c.is_list.ensures ∙ c.if-not-is_list.false)
          (c.find-position.ensures.0 ∙ ap (λ ws. position_of a.customer.0 a.source (records_of ws)) q.0),
      ap (λ ws. holds_record a.customer.0 a.source (records_of ws)) (sym q.0) ∙ sym c.is_at.ensures ∙ c.if-is_at.false,
    )
