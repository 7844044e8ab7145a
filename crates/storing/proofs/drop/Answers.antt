-- `storing::drop` meets its contract. Assumes nothing.
use mathlib.Core.Path.{sym, ◌∙◌}
use Rattle.ledger.proofs.Storing.{drop-length, drop_malformed, drop_none, drop_goes, drop_done}
use Rattle.storing.proofs.drop.Goals as goal

pub returns-then-led-ne-WORDS : goal.returns-then-led-ne-WORDS
returns-then-led-ne-WORDS c = sym (drop-length _ _ c.if-led-ne-WORDS.true)

pub returns-then-not-is_ledger : goal.returns-then-not-is_ledger
returns-then-not-is_ledger c = sym (drop_malformed _ _ c.if-led-ne-WORDS.false (sym c.is_ledger.ensures ∙ c.if-not-is_ledger.true))

pub returns-then-not-is_at : goal.returns-then-not-is_at
returns-then-not-is_at c = sym (drop_none _ _ c.if-led-ne-WORDS.false (sym c.is_ledger.ensures ∙ c.if-not-is_ledger.false)
    (sym c.is_at.ensures ∙ c.if-not-is_at.true))

pub remove-requires : goal.remove-requires
remove-requires c = drop_goes _ _ c.if-led-ne-WORDS.false (sym c.is_ledger.ensures ∙ c.if-not-is_ledger.false)
    (sym c.is_at.ensures ∙ c.if-not-is_at.false) c.find-position.ensures.0

pub returns : goal.returns
returns c = drop_done _ _ c.if-led-ne-WORDS.false (sym c.is_ledger.ensures ∙ c.if-not-is_ledger.false)
    (sym c.is_at.ensures ∙ c.if-not-is_at.false) c.find-position.ensures.0 c.remove.ensures
