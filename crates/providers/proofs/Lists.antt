-- Lists that ascend, number by number, and the tests of a list that may be filed. Assumes nothing.
use Prim.Native.Nat.{ℕ, ◌+◌, ◌≤◌, ◌<◌}
use mathlib.Core.Path.{◌≡◌, refl}
use mathlib.Core.Bool.{Bool, true, false, not, ◌&&◌}
use mathlib.Core.List.{List, [], ◌∷◌}
use native.Mathlib.Omega.{arith}
use native.Mathlib.Numerals.{add-one}
use borrow.Author.Tests.{lt-ltb, le-ltb, le-leb, lt-leb}
use lib.Dec.{ltb}
use lib.ListN.{length, get_or, drop, drop_of_length-le}
use lib.Seq.{drop-cons}
use Rattle.rules.specs.Records.{is_in}
use Rattle.providers.specs.Lists.{most_providers, rises, rises_from, list_ok}

-- The empty list ascends.
pub rises_empty : (l : List ℕ) → length l ≡ 0 → true ≡ rises l
unfolding rises
rises_empty [] e = refl
rises_empty (x ∷ l) e = absurd (omega arith)

-- Behind the first number.
pub rises_first : (l : List ℕ) → (length l ≡ 0 → ⊥) → rises_from (get_or l 0 0) (drop 1 l) ≡ rises l
unfolding rises
rises_first [] e = absurd (e refl)
rises_first (x ∷ l) e = refl

module _ (l : List ℕ) (x i : ℕ) (same : rises_from x (drop i l) ≡ rises l) where
  module _ (h : i < length l) where
    -- What is left begins with the number at i.
    opened : rises_from x (drop i l) ≡ (ltb x (get_or l i 0) && rises_from (get_or l i 0) (drop (i + 1) l))
    unfolding rises_from
    opened = rw (add-one, drop-cons l i 0)

    -- A number that is not above the one before it.
    pub falls : get_or l i 0 ≤ x → false ≡ rises l
    falls k = rw (opened, le-ltb x (get_or l i 0) k) at same

    -- One number more.
    pub rises_on : x < get_or l i 0 → rises_from (get_or l i 0) (drop (i + 1) l) ≡ rises l
    rises_on k = rw (opened, lt-ltb x (get_or l i 0) k) at same

  -- No number is left.
  pub rises_whole : length l ≤ i → true ≡ rises l
  unfolding rises_from
  rises_whole h = rw (drop_of_length-le l h) at same

module _ (customer : ℕ) (l : List ℕ) where
  -- No number.
  pub list_empty : length l < 1 → false ≡ list_ok customer l
  unfolding list_ok
  list_empty h = rw (lt-leb 1 (length l) h)

  -- Too many numbers.
  pub list_long : 1 ≤ length l → most_providers < length l → false ≡ list_ok customer l
  unfolding list_ok
  list_long h k = rw (le-leb 1 (length l) h, lt-leb (length l) most_providers k)

  module _ (h : 1 ≤ length l) (k : length l ≤ most_providers) where
    -- Numbers out of order.
    pub list_falls : rises l ≡ false → false ≡ list_ok customer l
    unfolding list_ok
    list_falls e = rw (le-leb 1 (length l) h, le-leb (length l) most_providers k, e)

    -- Otherwise it is asked for its customer.
    pub list_own : rises l ≡ true → {own : Bool} → own ≡ is_in customer l → not own ≡ list_ok customer l
    unfolding list_ok
    list_own e f = rw (le-leb 1 (length l) h, le-leb (length l) most_providers k, e, f)
