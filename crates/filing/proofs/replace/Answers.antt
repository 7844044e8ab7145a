-- `filing::replace` meets its contract. Assumes nothing.
use native.Mathlib.Omega.{arith}
use mathlib.Core.Path.{sym}
use Rattle.register.proofs.Filing.{body_word, few, little, position_under, old_slot, old_word, old_within, full_over, old_goes, over_fits, over_done}
use Rattle.filing.proofs.replace.Goals as goal

pub overflow_mul-position : goal.overflow_mul-position
overflow_mul-position c = omega (arith, position_under c.requires.0 c.requires.1, few c.requires.0)

pub overflow_add-position : goal.overflow_add-position
overflow_add-position c = omega (arith, position_under c.requires.0 c.requires.1, few c.requires.0)

pub overflow_add-position-2 : goal.overflow_add-position-2
overflow_add-position-2 c = omega (arith, position_under c.requires.0 c.requires.1, few c.requires.0)

pub word-requires-2 : goal.word-requires-2
word-requires-2 c = omega (arith, old_slot c.requires.0 c.requires.1)

pub overflow_sub-others : goal.overflow_sub-others
overflow_sub-others c = let p = c.requires in
    omega (arith, body_word p.0, old_word p.0 p.1, old_within p.0 p.1, c.word-2.ensures.0, c.word.ensures.0)

pub overflow_sub-others-2 : goal.overflow_sub-others-2
overflow_sub-others-2 c = let p = c.requires in
    omega (arith, body_word p.0, little p.0, c.word.ensures.0)

pub returns-then-others-list : goal.returns-then-others-list
returns-then-others-list c = let p = c.requires in
    sym (full_over p.0 p.1 (omega (arith, body_word p.0, old_word p.0 p.1, c.word-2.ensures.0, c.word.ensures.0)))

pub remove-requires : goal.remove-requires
remove-requires c = old_goes c.requires.0 c.requires.1

pub insert-requires : goal.insert-requires
insert-requires c = let p = c.requires in
    over_fits p.0 p.1 (omega (arith, body_word p.0, old_word p.0 p.1, c.word-2.ensures.0, c.word.ensures.0)) c.remove.ensures c.remove.auto.s

pub returns : goal.returns
returns c = let p = c.requires in
    over_done p.0 p.1 (omega (arith, body_word p.0, old_word p.0 p.1, c.word-2.ensures.0, c.word.ensures.0)) c.remove.ensures c.remove.auto.s c.insert.ensures
