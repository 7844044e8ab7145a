-- Runs of a list merged: lists one after the other, a number beside itself, and a list in which none is. Assumes nothing.
use Prim.Native.Nat.{ℕ, suc, ◌+◌, ◌<◌}
use mathlib.Core.Path.{◌≡◌, refl, sym, ◌∙◌, ap}
use mathlib.Core.Bool.{Bool, true, false, cond}
use mathlib.Core.List.{List, [], ◌∷◌, ◌++◌}
use native.Mathlib.Omega.{arith}
use native.Mathlib.Numerals.{add-one}
use borrow.Author.Tests.{eqb-true, eq-eqb, ne_eqb}
use lib.Dec.{eqb}
use lib.ListN.{length, get_or}
use Rattle.as_path.specs.Merging.{runs_after, merge_runs}
use Rattle.as_path.specs.Helpers.{last_after}

-- A run goes on from one list into the next.
pub runs_append : (x : ℕ) (l m : List ℕ) → runs_after x (l ++ m) ≡ runs_after x l ++ runs_after (last_after x l) m
unfolding runs_after last_after
runs_append x [] m = refl
runs_append x (y ∷ l) m = go (eqb y x) refl (runs_append x l m) (runs_append y l m)
  where
    go : (b : Bool) → eqb y x ≡ b → runs_after x (l ++ m) ≡ runs_after x l ++ runs_after (last_after x l) m
        → runs_after y (l ++ m) ≡ runs_after y l ++ runs_after (last_after y l) m
        → cond b (runs_after x (l ++ m)) (y ∷ runs_after y (l ++ m)) ≡ cond b (runs_after x l) (y ∷ runs_after y l) ++ runs_after (last_after y l) m
    go true e same other = same ∙ ap (λ z. runs_after x l ++ runs_after (last_after z l) m) (sym (eqb-true y x e))
    go false e same other = ap (λ k. y ∷ k) other

-- A number beside itself is dropped once.
pub runs_beside : (x y : ℕ) (m : List ℕ) → runs_after x (y ∷ y ∷ m) ≡ runs_after x (y ∷ m)
unfolding runs_after
runs_beside x y m = go (eqb y x) refl
  where
    go : (b : Bool) → eqb y x ≡ b → cond b (cond b (runs_after x m) (y ∷ runs_after y m)) (y ∷ cond (eqb y y) (runs_after y m) (y ∷ runs_after y m))
        ≡ cond b (runs_after x m) (y ∷ runs_after y m)
    go true e = refl
    go false e = rw (eq-eqb y y refl)

pub merged_beside : (l m : List ℕ) (x : ℕ) → merge_runs (l ++ x ∷ x ∷ m) ≡ merge_runs (l ++ x ∷ m)
unfolding merge_runs runs_after
merged_beside [] m x = rw (eq-eqb x x refl)
merged_beside (y ∷ l) m x =
    ap (λ k. y ∷ k)
    (runs_append y l (x ∷ x ∷ m) ∙ ap (λ k. runs_after y l ++ k) (runs_beside (last_after y l) x m) ∙ sym (runs_append y l (x ∷ m)))

-- A list in which no number stands beside itself is left as it is.
pub runs_left : (x : ℕ) (l : List ℕ) → ((i : ℕ) → i < length l → get_or (x ∷ l) i 0 ≡ get_or l i 0 → ⊥) → runs_after x l ≡ l
unfolding runs_after
runs_left x [] h = refl
runs_left x (y ∷ l) h = rw (ne_eqb y x (λ e. h 0 (omega arith) (sym e))) (ap (λ k. y ∷ k) (runs_left y l (λ i k. h (suc i) (omega arith))))

pub merged_left : (l : List ℕ) → ((i : ℕ) → i + 1 < length l → get_or l i 0 ≡ get_or l (i + 1) 0 → ⊥) → merge_runs l ≡ l
unfolding merge_runs
merged_left [] h = refl
merged_left (x ∷ l) h = ap (λ k. x ∷ k) (runs_left x l (λ i k. rw (add-one i) at (h i (omega arith))))
