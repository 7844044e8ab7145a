-- `words::splice` meets its contract: what `open_room` and `paste` ensure, one after the other. Assumes nothing.
use mathlib.Core.Path.{ap, ◌∙◌}
use mathlib.Core.List.{List}
use Prim.Native.Nat.{ℕ}
use native.Mathlib.Omega.{arith}
use Rattle.runs.specs.Words.{pasted}
use Rattle.runs.proofs.Laws.{splice_done}
use Rattle.runs.proofs.splice.Goals as goal

pub returns : goal.returns
returns c =
    let paste = c.paste in
    let a = c.args in
    paste.ensures
    ∙ ap (λ (l : List ℕ). pasted l a.at a.src.now) c.open_room.ensures
    ∙ splice_done a.s.now a.src.now a.at a.used (omega arith)
