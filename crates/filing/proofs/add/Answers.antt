-- `filing::add` meets its contract. Assumes nothing.
use native.Mathlib.Omega.{arith}
use mathlib.Core.Path.{sym}
use Rattle.register.proofs.Filing.{count-word, body_word, little, full_records, full_lists, new_fits, new_done}
use Rattle.filing.proofs.add.Goals as goal

pub returns-then-word-ge-MOST_RECORDS : goal.returns-then-word-ge-MOST_RECORDS
returns-then-word-ge-MOST_RECORDS c = let p = c.requires in
    sym (full_records p.0 p.1 (omega (arith, count-word p.0, c.word.ensures.0)))

pub overflow_sub-word : goal.overflow_sub-word
overflow_sub-word c = omega (arith, body_word c.requires.0, little c.requires.0, c.word-2.ensures.0)

pub returns-then-word-list : goal.returns-then-word-list
returns-then-word-list c = let p = c.requires in
    sym (full_lists p.0 p.1 (omega (arith, body_word p.0, c.word-2.ensures.0)))

pub insert-requires : goal.insert-requires
insert-requires c = let p = c.requires in
    new_fits p.0 p.1 (omega (arith, count-word p.0, c.word.ensures.0)) (omega (arith, body_word p.0, c.word-2.ensures.0))

pub returns : goal.returns
returns c = let p = c.requires in
    new_done p.0 p.1 (omega (arith, count-word p.0, c.word.ensures.0)) (omega (arith, body_word p.0, c.word-2.ensures.0)) c.insert.ensures
