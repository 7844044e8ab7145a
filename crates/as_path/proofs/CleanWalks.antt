-- The walk over an attribute without a fault, as an induction: each offset with its whole segment, up to the end. Assumes nothing.
use Prim.Native.Nat.{ℕ, zero, suc, ◌+◌, ◌≤◌}
use mathlib.Core.Path.{◌≡◌, refl}
use mathlib.Core.Bool.{Bool, true, false, cond}
use mathlib.Core.List.{List, [], ◌∷◌}
use native.Mathlib.Omega.{arith}
use borrow.Author.Tests.{leb-true}
use lib.Dec.{leb}
use lib.ListN.{length}
use Rattle.as_path.specs.Segments.{end_of, starts_from, starts}
use Rattle.as_path.specs.Faults.{fault_among, first_fault}
use Rattle.as_path.proofs.Walking.{Whole, whole}
use Rattle.std.specs.Prelude.{None}

-- From offset p on, the starts are these: at each a whole segment, and the next offset where it ends.
pub data Walked (w : ℕ) (a : List ℕ) : ℕ → List ℕ → Type 0 where
  done : {p : ℕ} → p ≡ length a → Walked w a p []
  step : {p : ℕ} {ps : List ℕ} → Whole w a p (fault_among w a ps) → Walked w a (end_of w a p) ps → Walked w a p (p ∷ ps)

-- From offset p on, with enough fuel, an attribute without a fault is walked to its end.
pub walked_from : (w : ℕ) (a : List ℕ) (f p : ℕ) → p ≤ length a → length a ≤ p + f → fault_among w a (starts_from f w a p) ≡ None
    → Walked w a p (starts_from f w a p)
unfolding starts_from fault_among
walked_from w a zero p h enough e = done {p = p} (omega arith)
walked_from w a (suc f) p h enough e = go (walked_from w a f (end_of w a p)) (leb (length a) p) refl e
  where
    ps : List ℕ
    ps = starts_from f w a (end_of w a p)

    go : (end_of w a p ≤ length a → length a ≤ end_of w a p + f → fault_among w a ps ≡ None → Walked w a (end_of w a p) ps)
        → (b : Bool) → leb (length a) p ≡ b → fault_among w a (cond b [] (p ∷ ps)) ≡ None → Walked w a p (cond b [] (p ∷ ps))
    go ih true t e = done {p = p} (omega (arith, leb-true))
    go ih false t e = let s = whole w a p _ e in step s (ih s.body (omega arith) s.rest)

-- An attribute without a fault is walked to its end.
pub walked : (w : ℕ) (a : List ℕ) → first_fault w a ≡ None → Walked w a 0 (starts w a)
unfolding first_fault starts
walked w a e = walked_from w a (length a) 0 (omega arith) (omega arith) e
