-- `runs::paste` meets its contract: the laws of `lib.Seq`'s `paste`. Assumes nothing.
use mathlib.Core.Path.{sym, ap, ◌∙◌}
use mathlib.Core.List.{List}
use Prim.Native.Nat.{ℕ, ◌+◌}
use native.Mathlib.Omega.{arith}
use native.Mathlib.Numerals.{add-one}
use lib.ListN.{length-set, set, get_or}
use lib.Seq.{paste, paste-suc}
use Rattle.runs.proofs.Laws.{paste_done}
use Rattle.runs.proofs.paste.Goals as goal

pub loop-j-preserved : goal.loop-j-preserved
loop-j-preserved c =
    let a = c.args in
    let j = c.loop-j.j in (
      omega arith,
      simp length-set c.loop-j.invariant.1,
      ap (λ (l : List ℕ). set l (a.at + j) (get_or a.src.now j 0)) c.loop-j.invariant.2
          ∙ paste-suc a.s.now a.at a.src.now j 0 (omega arith) (omega arith)
          ∙ ap (λ (n : ℕ). paste a.s.now a.at a.src.now n) (sym (add-one j)),
    )

pub returns : goal.returns
returns c =
    let a = c.args in
    c.loop-j.invariant.2 ∙ paste_done a.s.now a.src.now a.at c.loop-j.j (omega arith)
