-- A number sought in a list: each turn of the loop over it, and two lists together. Assumes nothing.
use Prim.Native.Nat.{ℕ, ◌+◌, ◌≤◌, ◌<◌}
use mathlib.Core.Path.{◌≡◌, refl, sym, ◌∙◌, ap}
use mathlib.Core.Bool.{Bool, true, false, ◌||◌, or-false, or_assoc}
use mathlib.Core.List.{List, [], ◌∷◌, ◌++◌}
use native.Mathlib.Numerals.{add-one}
use lib.Dec.{eqb}
use lib.ListN.{length, get_or, drop, drop_of_length-le}
use lib.Seq.{drop-cons}
use Rattle.rules.specs.Records.{is_in}

-- The flag and the list from i on say whether y is in the list.
pub record Seeking (y : ℕ) (l : List ℕ) (has : Bool) (i : ℕ) : Type 0 where
  pub says : (has || is_in y (drop i l)) ≡ is_in y l

module _ {y : ℕ} {l : List ℕ} {has : Bool} {i : ℕ} (s : Seeking y l has i) where
  -- One number more.
  pub turns : i < length l → {next : Bool} → next ≡ (has || eqb (get_or l i 0) y) → Seeking y l next (i + 1)
  unfolding is_in
  turns h e =
      record { says = rw (e, or_assoc has (eqb (get_or l i 0) y) (is_in y (drop (i + 1) l))) (ap (λ b. has || b) here ∙ s.says) }
    where
      here : (eqb (get_or l i 0) y || is_in y (drop (i + 1) l)) ≡ is_in y (drop i l)
      here = rw (add-one, drop-cons l i 0 h)

  -- The list is through.
  pub ended : length l ≤ i → has ≡ is_in y l
  unfolding is_in
  ended h = sym (or-false has) ∙ ap (λ k. has || is_in y k) (sym (drop_of_length-le l h)) ∙ s.says

-- A number is in two lists together if and only if it is in one of them.
pub in_append : (y : ℕ) (k l : List ℕ) → is_in y (k ++ l) ≡ (is_in y k || is_in y l)
unfolding is_in
in_append y [] l = refl
in_append y (x ∷ k) l = go (eqb x y) (in_append y k l)
  where
    go : (b : Bool) → is_in y (k ++ l) ≡ (is_in y k || is_in y l) → (b || is_in y (k ++ l)) ≡ ((b || is_in y k) || is_in y l)
    go true ih = refl
    go false ih = ih
