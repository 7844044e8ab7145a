-- `filter::rejudge` meets its contract. Assumes nothing.
use Rattle.std.proofs.Common.{◌≡◌, sym, ◌∙◌, ap}
use Rattle.std.proofs.lemmas.Result.{err_from_is_err_and}
use Rattle.registers.specs.Registers.{lent}
use native.Mathlib.Omega.{arith}
use Rattle.registers.specs.Registers.{hop_in}
use Rattle.rejudge.specs.Rejudging.{rejudged_effect}
use Rattle.effects.proofs.Rejudgings.{rejudge_register_length, rejudge_ledger_length, rejudge_register_malformed, rejudge_ledger_malformed, few_changed, rejudge_done}
use Rattle.filter.proofs.rejudge.Goals as goal

pub returns-in_err-check_lengths : goal.returns-in_err-check_lengths
returns-in_err-check_lengths c =
    let a = c.args in
    let p = err_from_is_err_and c.from_residual.result c.from_residual.ensures.1 in
    let q = c.in_err-check_lengths.ensures in
    rw (p.1, p.2, q.0) (rejudge_register_length (lent a.public.now a.overrides.now) a.led.now q.1)

pub returns-then-led-ne-WORDS : goal.returns-then-led-ne-WORDS
returns-then-led-ne-WORDS c =
    let a = c.args in
    rejudge_ledger_length (lent a.public.now a.overrides.now) a.led.now c.in_ok-check_lengths.ensures c.if-led-ne-WORDS.true

pub returns-in_err-registers : goal.returns-in_err-registers
returns-in_err-registers c =
    let a = c.args in
    let p = err_from_is_err_and c.from_residual-in_err-registers.result c.from_residual-in_err-registers.ensures.1 in
    let q = c.in_err-registers.ensures in
    rw (p.1, p.2, q.0)
    (rejudge_register_malformed (lent a.public.now a.overrides.now) a.led.now c.in_ok-check_lengths.ensures c.if-led-ne-WORDS.false q.1)

pub returns-then-not-is_ledger : goal.returns-then-not-is_ledger
returns-then-not-is_ledger c =
    let a = c.args in
    rejudge_ledger_malformed (lent a.public.now a.overrides.now) a.led.now c.in_ok-check_lengths.ensures c.if-led-ne-WORDS.false
    c.in_ok-registers.ensures.1 (sym c.is_ledger.ensures ∙ c.if-not-is_ledger.true)

pub overflow_cast-result : goal.overflow_cast-result
overflow_cast-result c =
    let a = c.args in
    let q = c.in_ok-registers.ensures in
    omega (
      arith,
      few_changed (lent a.public.now a.overrides.now) a.led.now c.in_ok-check_lengths.ensures c.if-led-ne-WORDS.false q.1
          (sym c.is_ledger.ensures ∙ c.if-not-is_ledger.false)
          (ap (λ s. s.answer) c.rejudge_all-changed.ensures ∙ ap (λ r. (rejudged_effect (hop_in r) a.led.now).answer) q.0),
    )

pub returns : goal.returns
returns c =
    let a = c.args in
    let q = c.in_ok-registers.ensures in
    rejudge_done (lent a.public.now a.overrides.now) a.led.now c.in_ok-check_lengths.ensures c.if-led-ne-WORDS.false q.1
    (sym c.is_ledger.ensures ∙ c.if-not-is_ledger.false)
    (c.rejudge_all-changed.ensures ∙ ap (λ r. rejudged_effect (hop_in r) a.led.now) q.0)
