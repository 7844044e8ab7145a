-- The numbers of a list by their indices: that it ascends, and that it holds a number. Assumes nothing.
use Prim.Native.Nat.{ℕ, zero, suc, ◌≤◌, ◌<◌}
use mathlib.Core.Path.{◌≡◌, refl}
use mathlib.Core.Bool.{Bool, true, false, ◌&&◌, ◌||◌}
use mathlib.Core.List.{List, [], ◌∷◌}
use native.Mathlib.Omega.{arith}
use borrow.Author.Tests.{ltb-true, ltb-false, eq-eqb, eqb-true}
use lib.Dec.{ltb, eqb}
use lib.ListN.{length, get_or}
use Rattle.types.proofs.Clashes.{clash}
use Rattle.keyed.proofs.Orders.{both_left, both_right}
use Rattle.rules.specs.Records.{is_in}
use Rattle.providers.specs.Lists.{rises, rises_from}

-- ---- a list that ascends, and one that does not

-- Every number of a list that ascends behind x is above x.
from_above : (x : ℕ) (l : List ℕ) → rises_from x l ≡ true → (i : ℕ) → i < length l → x < get_or l i 0
unfolding rises_from
from_above x [] e i h = absurd (omega arith)
from_above x (y ∷ l) e zero h = ltb-true x y (both_left (ltb x y) (rises_from y l) e)
from_above x (y ∷ l) e (suc i) h =
    let a : x < y = ltb-true x y (both_left (ltb x y) (rises_from y l) e) in
    let b : y < get_or l i 0 = from_above y l (both_right (ltb x y) (rises_from y l) e) i (omega arith) in
    omega arith

from_rises : (x : ℕ) (l : List ℕ) → rises_from x l ≡ true → rises l ≡ true
unfolding rises_from rises
from_rises x [] e = refl
from_rises x (y ∷ l) e = both_right (ltb x y) (rises_from y l) e

-- A later number is above an earlier one.
pub rises_at : (l : List ℕ) → rises l ≡ true → (i j : ℕ) → i < j → j < length l → get_or l i 0 < get_or l j 0
unfolding rises
rises_at [] e i j h k = absurd (omega arith)
rises_at (x ∷ l) e i zero h k = absurd (omega arith)
rises_at (x ∷ l) e zero (suc j) h k = from_above x l e j (omega arith)
rises_at (x ∷ l) e (suc i) (suc j) h k = rises_at l (from_rises x l e) i j (omega arith) (omega arith)

-- A number that does not stand above the one before it.
pub record Falls (l : List ℕ) : Type 0 where
  pub at : ℕ
  pub within : suc at < length l
  pub not_above : get_or l (suc at) 0 ≤ get_or l at 0

-- A list that does not ascend behind x has one, or begins with it.
falls_from : (x : ℕ) (l : List ℕ) → rises_from x l ≡ false → Falls (x ∷ l)
unfolding rises_from
falls_from x [] e = clash (cc)
falls_from x (y ∷ l) e = go (ltb x y) refl e (falls_from y l)
  where
    go : (b : Bool) → ltb x y ≡ b → (b && rises_from y l) ≡ false → (rises_from y l ≡ false → Falls (y ∷ l)) → Falls (x ∷ (y ∷ l))
    go true t f ih = let s = ih f in record { at = suc s.at; within = omega (arith, s.within); not_above = s.not_above }
    go false t f ih = record { at = 0; within = omega arith; not_above = ltb-false x y t }

pub falls_at : (l : List ℕ) → rises l ≡ false → Falls l
unfolding rises
falls_at [] e = clash (cc)
falls_at (x ∷ l) e = falls_from x l e

-- ---- a list holds a number exactly when it stands at an index

pub at_in : (y : ℕ) (l : List ℕ) (i : ℕ) → i < length l → get_or l i 0 ≡ y → is_in y l ≡ true
unfolding is_in
at_in y [] i h e = absurd (omega arith)
at_in y (x ∷ l) zero h e = rw (eq-eqb x y e)
at_in y (x ∷ l) (suc i) h e = either (eqb x y) (at_in y l i (omega arith) e)
  where
    either : (b : Bool) → is_in y l ≡ true → (b || is_in y l) ≡ true
    either true q = refl
    either false q = q

pub record Stands (y : ℕ) (l : List ℕ) : Type 0 where
  pub at : ℕ
  pub within : at < length l
  pub here : get_or l at 0 ≡ y

pub in_at : (y : ℕ) (l : List ℕ) → is_in y l ≡ true → Stands y l
unfolding is_in
in_at y [] e = clash (cc)
in_at y (x ∷ l) e = go (eqb x y) refl e (in_at y l)
  where
    go : (b : Bool) → eqb x y ≡ b → (b || is_in y l) ≡ true → (is_in y l ≡ true → Stands y l) → Stands y (x ∷ l)
    go true t f ih = record { at = 0; within = omega arith; here = eqb-true x y t }
    go false t f ih = let s = ih f in record { at = suc s.at; within = omega (arith, s.within); here = s.here }
