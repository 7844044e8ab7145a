-- `finding::is_register` meets its contract. Assumes nothing.
use mathlib.Core.Path.{sym, ◌∙◌}
use native.Mathlib.Omega.{arith}
use Rattle.register.specs.Register.{record_head, record_tail}
use Rattle.table.proofs.Exact.{passes_sound}
use Rattle.finding.proofs.Checking.{not_formed, records_over, lists_over, records_decide}
use Rattle.finding.proofs.is_register.Goals as goal

pub returns-then-not-well_formed : goal.returns-then-not-well_formed
returns-then-not-well_formed c = not_formed _ (sym c.well_formed-2.ensures ∙ c.if-not-well_formed.true)

pub word-requires : goal.word-requires
word-requires c = omega (arith, (passes_sound record_head record_tail _ (sym c.well_formed-2.ensures ∙ c.if-not-well_formed.false)).fits)

pub returns-then-word-gt-MOST_RECORDS : goal.returns-then-word-gt-MOST_RECORDS
returns-then-word-gt-MOST_RECORDS c =
    records_over _ (sym c.well_formed-2.ensures ∙ c.if-not-well_formed.false) (omega arith)

pub word-requires-2 : goal.word-requires-2
word-requires-2 c =
    omega (arith, (passes_sound record_head record_tail _ (sym c.well_formed-2.ensures ∙ c.if-not-well_formed.false)).fits)

pub returns-then-word-gt-MOST_LISTED : goal.returns-then-word-gt-MOST_LISTED
returns-then-word-gt-MOST_LISTED c =
    lists_over _ (sym c.well_formed-2.ensures ∙ c.if-not-well_formed.false) (omega arith) (omega arith)

pub are_records-requires : goal.are_records-requires
are_records-requires c =
    (passes_sound record_head record_tail _ (sym c.well_formed-2.ensures ∙ c.if-not-well_formed.false), omega arith)

pub returns : goal.returns
returns c =
    c.are_records.ensures
    ∙ records_decide _ (sym c.well_formed-2.ensures ∙ c.if-not-well_formed.false) (omega arith) (omega arith)
