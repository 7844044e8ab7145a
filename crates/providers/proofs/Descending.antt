-- Descents of a list: each turn of the loop that counts them, lists end to end, and that a list ascends if it has none. Assumes nothing.
use Prim.Native.Nat.{ℕ, suc, ◌+◌, ◌-◌, ◌≤◌, ◌<◌}
use mathlib.Core.Path.{◌≡◌, refl, sym}
use mathlib.Core.Bool.{Bool, true, false, cond, ◌&&◌}
use mathlib.Core.List.{List, [], ◌∷◌, ◌++◌}
use native.Mathlib.Omega.{arith}
use native.Mathlib.Nat.{add-zero}
use native.Mathlib.Numerals.{add-one}
use borrow.Author.Tests.{lt-ltb, le-ltb, eq-eqb, ne_eqb, eqb-true, eqb-false}
use lib.Dec.{ltb, eqb}
use lib.ListN.{length, get_or, take, drop, length-take, length-drop, drop_of_length-le}
use lib.Seq.{drop-cons, drop-drop, take-add, get_or-take, get_or-drop}
use Rattle.providers.specs.Lists.{rises, rises_from}
use Rattle.providers.specs.Helpers.{descents_from, descents_in}

-- What a number adds to the descents, behind another.
abbrev pub fall : ℕ → ℕ → ℕ
fall x y = cond (ltb x y) 0 1

-- A number above the one before it adds nothing.
pub no_fall : {x y : ℕ} → x < y → fall x y ≡ 0
no_fall {x} {y} h = rw (lt-ltb x y h)

-- Any other adds one.
pub one_fall : {x y : ℕ} → y ≤ x → fall x y ≡ 1
one_fall {x} {y} h = rw (le-ltb x y h)

-- None adds more.
pub fall_small : (x y : ℕ) → fall x y ≤ 1
fall_small x y = go (ltb x y)
  where
    go : (b : Bool) → cond b 0 1 ≤ 1
    go true = omega arith
    go false = omega arith

-- The first number of a list, and the others.
descents_next : (x y : ℕ) (l : List ℕ) → descents_from x (y ∷ l) ≡ fall x y + descents_from y l
unfolding descents_from
descents_next x y l = go (ltb x y)
  where
    go : (b : Bool) → cond b (descents_from y l) (descents_from y l + 1) ≡ cond b 0 1 + descents_from y l
    go true = omega arith
    go false = omega arith

-- ---- the loop over a list

-- The loop starts behind the first number.
pub descents_first : (l : List ℕ) → 0 + descents_from (get_or l (1 - 1) 0) (drop 1 l) ≡ descents_in l
unfolding descents_from descents_in
descents_first [] = refl
descents_first (x ∷ l) = omega arith

module _ (l : List ℕ) (i : ℕ) where
  -- One number more.
  pub descents_on : i < length l
      → descents_from (get_or l (i - 1) 0) (drop i l) ≡ fall (get_or l (i - 1) 0) (get_or l i 0) + descents_from (get_or l (i + 1 - 1) 0) (drop (i + 1) l)
  descents_on h =
      let z : i + 1 - 1 ≡ i = omega arith in
      rw (z, add-one i, drop-cons l i 0 h) (descents_next (get_or l (i - 1) 0) (get_or l i 0) (drop (suc i) l))

  -- No number is left.
  pub descents_whole : length l ≤ i → descents_from (get_or l (i - 1) 0) (drop i l) ≡ 0
  unfolding descents_from
  descents_whole h = rw (drop_of_length-le l h)

-- The loop's turns.
pub ruleset counting = (no_fall, one_fall, descents_first, descents_on, descents_whole)

-- ---- lists that ascend, and lists end to end

-- The numbers behind another ascend if nothing descends.
rises_behind : (x : ℕ) (l : List ℕ) → rises_from x l ≡ eqb (descents_from x l) 0
unfolding rises_from descents_from
rises_behind x [] = refl
rises_behind x (y ∷ l) = go (rises_behind y l) (ltb x y)
  where
    go : rises_from y l ≡ eqb (descents_from y l) 0 → (b : Bool) → (b && rises_from y l) ≡ eqb (cond b (descents_from y l) (descents_from y l + 1)) 0
    go e true = e
    go e false = sym (ne_eqb (descents_from y l + 1) 0 (omega arith))

-- A list ascends if nothing descends in it.
pub rises_is : (l : List ℕ) → rises l ≡ eqb (descents_in l) 0
unfolding rises descents_in
rises_is [] = refl
rises_is (x ∷ l) = rises_behind x l

-- Numbers behind another, and a list behind them.
join_behind : (x : ℕ) (d : List ℕ) (y : ℕ) (l : List ℕ)
    → descents_from x (d ++ (y ∷ l)) ≡ descents_from x d + fall (get_or (x ∷ d) (length d) 0) y + descents_from y l
unfolding descents_from
join_behind x [] y l = omega (arith, descents_next x y l)
join_behind x (z ∷ d) y l = omega (arith, descents_next x z (d ++ (y ∷ l)), descents_next x z d, join_behind z d y l)

-- A list behind another, whose last number stands at j.
join : (d l : List ℕ) (j : ℕ) → length d ≡ suc j → 1 ≤ length l → descents_in (d ++ l) ≡ descents_in d + fall (get_or d j 0) (get_or l 0 0) + descents_in l
unfolding descents_in
join [] l j e h = absurd (omega arith)
join (x ∷ d) [] j e h = absurd (omega arith)
join (x ∷ d) (y ∷ l) j e h = let z : j ≡ length d = omega arith in rw z (join_behind x d y l)

-- Words from b on, to from, and m words from there.
module _ (ws : List ℕ) (b from m : ℕ) (h : b ≤ from) where
  -- All of them.
  parts : take (from + m - b) (drop b ws) ≡ take (from - b) (drop b ws) ++ take m (drop from ws)
  parts =
      let z : from + m - b ≡ from - b + m = omega arith in
      let y : b + (from - b) ≡ from = omega arith in
      rw (z, take-add (from - b) m (drop b ws), drop-drop (from - b) b ws, y)

  -- No words before from: the first list.
  pub join_first : from ≤ b
      → descents_in (take (from + m - b) (drop b ws)) ≡ descents_in (take (from - b) (drop b ws)) + 0 + descents_in (take m (drop from ws))
  unfolding descents_in
  join_first k = let z : from - b ≡ 0 = omega arith in rw (parts, z) (omega arith)

  -- A list behind others: where it begins, one number more may descend.
  pub join_next : b < from → 1 ≤ m → from + m ≤ length ws
      → descents_in (take (from + m - b) (drop b ws))
      ≡ descents_in (take (from - b) (drop b ws)) + fall (get_or ws (from - 1) 0) (get_or ws from 0) + descents_in (take m (drop from ws))
  join_next k l w =
      rw (parts, ← last_is, ← first_is)
      (join (take (from - b) (drop b ws)) (take m (drop from ws)) (from - b - 1) (simp (length-take, length-drop) (omega arith))
      (simp (length-take, length-drop) (omega arith)))
    where
      last_is : get_or (take (from - b) (drop b ws)) (from - b - 1) 0 ≡ get_or ws (from - 1) 0
      last_is = let z : b + (from - b - 1) ≡ from - 1 = omega arith in rw (get_or-take (from - b) (drop b ws) (from - b - 1) 0 (omega arith), get_or-drop, z)

      first_is : get_or (take m (drop from ws)) 0 0 ≡ get_or ws from 0
      first_is = rw (get_or-take, get_or-drop, add-zero)

-- Before a list d numbers descended and c of them were counted; where it begins, e more of both. All are counted if they were before it and it ascends.
pub counts_add : (d c e : ℕ) (l : List ℕ) → c ≤ d → eqb (d + e + descents_in l) (c + e) ≡ (rises l && eqb d c)
counts_add d c e l h = rw (rises_is l) (go (eqb (descents_in l) 0) refl (eqb d c) refl)
  where
    go : (s : Bool) → eqb (descents_in l) 0 ≡ s → (t : Bool) → eqb d c ≡ t → eqb (d + e + descents_in l) (c + e) ≡ (s && t)
    go true p true q = eq-eqb (d + e + descents_in l) (c + e) (omega (arith, eqb-true (descents_in l) 0 p, eqb-true d c q))
    go true p false q = ne_eqb (d + e + descents_in l) (c + e) (λ z. eqb-false d c q (omega (arith, eqb-true (descents_in l) 0 p)))
    go false p t q = ne_eqb (d + e + descents_in l) (c + e) (λ z. eqb-false (descents_in l) 0 p (omega arith))
