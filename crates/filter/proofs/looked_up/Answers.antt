-- `filter::looked_up` meets its contract. Assumes nothing.
use Rattle.std.proofs.Common.{◌≡◌, ◌∙◌}
use Rattle.std.proofs.lemmas.Result.{err_from_is_err_and}
use Rattle.registers.specs.Registers.{lent}
use Rattle.effects.proofs.Looking.{look_length, look_malformed, look_source, look_customer, look_passed}
use Rattle.filter.proofs.looked_up.Goals as goal

pub returns-in_err-check_lengths : goal.returns-in_err-check_lengths
returns-in_err-check_lengths c =
    let a = c.args in
    let p = err_from_is_err_and c.from_residual.result c.from_residual.ensures.1 in
    let q = c.in_err-check_lengths.ensures in
    rw (p.1, p.2, q.0) (look_length (lent a.public.now a.overrides.now) a.source a.customer.0 q.1)

pub returns-in_err-registers : goal.returns-in_err-registers
returns-in_err-registers c =
    let a = c.args in
    let p = err_from_is_err_and c.from_residual-in_err-registers.result c.from_residual-in_err-registers.ensures.1 in
    let q = c.in_err-registers.ensures in
    rw (p.1, p.2, q.0) (look_malformed (lent a.public.now a.overrides.now) a.source a.customer.0 c.in_ok-check_lengths.ensures q.1)

pub returns-then-source-gt-LAST_SOURCE : goal.returns-then-source-gt-LAST_SOURCE
returns-then-source-gt-LAST_SOURCE c =
    let a = c.args in
    look_source (lent a.public.now a.overrides.now) a.source a.customer.0 c.in_ok-check_lengths.ensures c.in_ok-registers.ensures.1
    c.if-source-gt-LAST_SOURCE.true

pub returns-then-customer-eq0 : goal.returns-then-customer-eq0
returns-then-customer-eq0 c =
    let a = c.args in
    look_customer (lent a.public.now a.overrides.now) a.source a.customer.0 c.in_ok-check_lengths.ensures c.in_ok-registers.ensures.1
    c.if-source-gt-LAST_SOURCE.false c.if-customer-eq0.true

pub returns : goal.returns
returns c =
    let a = c.args in
    let q = c.in_ok-registers.ensures in (
      q.0,
      look_passed (lent a.public.now a.overrides.now) a.source a.customer.0 c.in_ok-check_lengths.ensures q.1
          c.if-source-gt-LAST_SOURCE.false c.if-customer-eq0.false,
    )
