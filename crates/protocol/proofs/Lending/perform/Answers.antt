-- `protocol::Lending::perform` meets its contract. Assumes nothing.
use mathlib.Core.Path.{refl, sym, ◌∙◌}
use Rattle.lines.specs.Words.{words_of}
use Rattle.commands.proofs.Choosing.{is_resize, is_empty, is_lent}
use Rattle.protocol.proofs.Holding.{lent_length, lends_changed}
use Rattle.protocol.proofs.Performing.{carries}
use Rattle.protocol.proofs.Lending.perform.Goals as goal

pub returns-then-is_word : goal.returns-then-is_word
returns-then-is_word c =
    rw (c.unwrap_or.ensures, is_resize (words_of c.args.line.bytes.now) (sym c.is_word.ensures ∙ c.if-is_word.true)) c.resize.ensures

pub returns-then-is_word-2 : goal.returns-then-is_word-2
returns-then-is_word-2 c =
    let other = sym c.is_word.ensures ∙ c.if-is_word.false in
    rw
    (c.unwrap_or-then-is_word-2.ensures, is_empty (words_of c.args.line.bytes.now) other (sym c.is_word-else-is_word.ensures ∙ c.if-is_word-2.true))
    c.empty.ensures

pub returns-else-is_word-2 : goal.returns-else-is_word-2
returns-else-is_word-2 c =
    let held = c.requires.1 in
    let run = c.run in
    carries _ _ _ _ (record { register = refl; overrides = refl; ledger = refl })
    (lends_changed _ _ _ held.register_held (run.auto.register ∙ sym (lent_length held.register_held)))
    (lends_changed _ _ _ held.overrides_held (run.auto.overrides ∙ sym (lent_length held.overrides_held)))
    (lends_changed _ _ _ held.ledger_held (run.auto.ledger ∙ sym (lent_length held.ledger_held)))
    (is_lent (words_of c.args.line.bytes.now) (sym c.is_word.ensures ∙ c.if-is_word.false) (sym c.is_word-else-is_word.ensures ∙ c.if-is_word-2.false))
    run.ensures
