-- `snapshot::write` meets its contract. Assumes nothing.
use mathlib.Core.Path.{sym, ◌∙◌}
use Rattle.snapshot.proofs.Writing.{tables, short, written_whole}
use Rattle.snapshot.proofs.write.Goals as goal

pub returns-then-out-bytes : goal.returns-then-out-bytes
returns-then-out-bytes c =
    let t = tables _ _ c.if-reg-ne-WORDS.false c.if-led-ne-WORDS.false c.in_ok-check.ensures.1 (sym c.is_ledger.ensures ∙ c.if-not-is_ledger.false) in
    short _ _ _ t c.used-r.ensures c.used-l.ensures c.if-out-bytes.true

pub returns : goal.returns
returns c =
    let t = tables _ _ c.if-reg-ne-WORDS.false c.if-led-ne-WORDS.false c.in_ok-check.ensures.1 (sym c.is_ledger.ensures ∙ c.if-not-is_ledger.false) in
    written_whole _ _ _ t c.used-r.ensures c.used-l.ensures c.if-out-bytes.false _ c.emit.ensures
