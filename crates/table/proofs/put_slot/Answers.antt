-- `table::put_slot` meets its contract: the gap is written over with the head, the start, the count and the tail. Assumes nothing.
use mathlib.Core.Path.{ap, ◌∙◌}
use mathlib.Core.List.{List}
use Prim.Native.Nat.{ℕ, ◌+◌}
use native.Mathlib.Omega.{arith}
use lib.ListN.{length, set}
use Rattle.runs.specs.Words.{pasted}
use Rattle.table.proofs.Laws.{put_slot_done}
use Rattle.table.specs.Table.{span}
use Rattle.table.proofs.put_slot.Goals as goal

pub returns : goal.returns
returns c =
    let a = c.args in
    let h : ℕ = length a.head.now in
    let opened = c.open_room in
    let paste = c.paste in
    c.paste-2.ensures
    ∙ ap (λ (l : List ℕ). pasted (set (set l (a.at + h) a.start) (a.at + h + 1) a.count) (a.at + h + span) a.tail.now)
    (paste.ensures ∙ ap (λ (l : List ℕ). pasted l a.at a.head.now) opened.ensures)
    ∙ put_slot_done a.s.now a.head.now a.tail.now a.at a.used a.start a.count (omega arith)
