-- `filter::keep` meets its contract. Assumes nothing.
use Rattle.std.proofs.Common.{◌≡◌, sym, ◌∙◌}
use Rattle.std.proofs.lemmas.Result.{err_from_is_err_and}
use Rattle.registers.specs.Registers.{lent}
use Rattle.effects.specs.Calls.{keeping, keep_effect}
use Rattle.registers.specs.Registers.{hop_in}
use Rattle.filter.proofs.Knowing.{known_neighbour, judged_refused}
use Rattle.effects.proofs.Keepings.{keep_register_length, keep_ledger_length, keep_register_malformed, keep_ledger_malformed, keep_refused}
use Rattle.filter.proofs.keep.Goals as goal

pub returns-in_err-check_lengths : goal.returns-in_err-check_lengths
returns-in_err-check_lengths c =
    let a = c.args in
    let p = err_from_is_err_and c.from_residual.result c.from_residual.ensures.1 in
    let q = c.in_err-check_lengths.ensures in
    rw (p.1, p.2, q.0)
    (keep_register_length (lent a.public.now a.overrides.now) a.led.now (keeping a.number.0 a.role a.neighbour.0 a.attribute.now) q.1)

pub returns-then-led-ne-WORDS : goal.returns-then-led-ne-WORDS
returns-then-led-ne-WORDS c =
    let a = c.args in
    keep_ledger_length (lent a.public.now a.overrides.now) a.led.now (keeping a.number.0 a.role a.neighbour.0 a.attribute.now)
    c.in_ok-check_lengths.ensures c.if-led-ne-WORDS.true

pub returns-in_err-registers : goal.returns-in_err-registers
returns-in_err-registers c =
    let a = c.args in
    let p = err_from_is_err_and c.from_residual-in_err-registers.result c.from_residual-in_err-registers.ensures.1 in
    let q = c.in_err-registers.ensures in
    rw (p.1, p.2, q.0)
    (keep_register_malformed (lent a.public.now a.overrides.now) a.led.now (keeping a.number.0 a.role a.neighbour.0 a.attribute.now)
    c.in_ok-check_lengths.ensures c.if-led-ne-WORDS.false q.1)

pub returns-then-not-is_ledger : goal.returns-then-not-is_ledger
returns-then-not-is_ledger c =
    let a = c.args in
    keep_ledger_malformed (lent a.public.now a.overrides.now) a.led.now (keeping a.number.0 a.role a.neighbour.0 a.attribute.now)
    c.in_ok-check_lengths.ensures c.if-led-ne-WORDS.false c.in_ok-registers.ensures.1 (sym c.is_ledger.ensures ∙ c.if-not-is_ledger.true)

pub returns-in_err-neighbour : goal.returns-in_err-neighbour
returns-in_err-neighbour c =
    let a = c.args in
    let reg = lent a.public.now a.overrides.now in
    let p = err_from_is_err_and c.from_residual-in_err-neighbour.result c.from_residual-in_err-neighbour.ensures.1 in
    rw (p.1, p.2)
    (keep_refused reg a.led.now (keeping a.number.0 a.role a.neighbour.0 a.attribute.now) c.in_ok-check_lengths.ensures c.if-led-ne-WORDS.false
    c.in_ok-registers.ensures.1 (sym c.is_ledger.ensures ∙ c.if-not-is_ledger.false)
    (judged_refused (hop_in reg) a.role a.neighbour.0 a.attribute.now _ (sym c.in_err-neighbour.ensures)))

pub keep_known-requires : goal.keep_known-requires
keep_known-requires c =
    let a = c.args in
    let q = c.in_ok-registers.ensures in
    let k = known_neighbour a.role a.neighbour.0 a.attribute.now _ (sym c.in_ok-neighbour.ensures) in
    rw (q.0, k.1, k.2) (record {
      long = c.in_ok-check_lengths.ensures;
      ok = q.1;
      long_ledger = c.if-led-ne-WORDS.false;
      ok_ledger = sym c.is_ledger.ensures ∙ c.if-not-is_ledger.false;
      argued = k.0;
    })

pub returns : goal.returns
returns c =
    let a = c.args in
    let q = c.in_ok-registers.ensures in
    let k = known_neighbour a.role a.neighbour.0 a.attribute.now _ (sym c.in_ok-neighbour.ensures) in
    c.keep_known.ensures
    ∙ (λ i. keep_effect (q.0 i) a.led.now (keeping a.number.0 (k.1 i) (k.2 i) a.attribute.now))
