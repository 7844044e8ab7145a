-- `table::well_formed` meets its contract.
use Rattle.std.proofs.Common.{sym, refl, ◌∙◌, arith}
use Rattle.table.proofs.Checking.{wf_short, wf_outside, wf_parts}
use Rattle.table.proofs.well_formed.Goals as goal

pub returns-then-s-lt-COUNTERS : goal.returns-then-s-lt-COUNTERS
returns-then-s-lt-COUNTERS c = wf_short _ _ _ c.if-s-lt-COUNTERS.true

pub returns-then-s-end : goal.returns-then-s-end
returns-then-s-end c =
    wf_outside _ _ _ _ _ c.word.ensures.0 c.word-2.ensures.0 (omega arith) _ c.slot-bodies.ensures c.if-s-end.true

pub returns-then-slots_ok : goal.returns-then-slots_ok
returns-then-slots_ok c =
    wf_parts _ _ _ _ _ c.word.ensures.0 c.word-2.ensures.0 (omega arith) _ c.slot-bodies.ensures c.if-s-end.false
    (sym c.if-slots_ok.true ∙ c.slots_ok.ensures) c.all_zero.ensures

pub returns-else-slots_ok : goal.returns-else-slots_ok
returns-else-slots_ok c =
    c.if-slots_ok.false
    ∙ wf_parts _ _ _ _ _ c.word.ensures.0 c.word-2.ensures.0 (omega arith) _ c.slot-bodies.ensures c.if-s-end.false
    (sym c.if-slots_ok.false ∙ c.slots_ok.ensures) refl
