-- The digits of a number, the last first: each turn of the loop, and its end. Assumes nothing.
use Prim.Native.Nat.{ℕ, suc, ◌+◌, ◌-◌, ◌/◌, ◌%◌, ◌≤◌, ◌<◌}
use mathlib.Core.Path.{◌≡◌, refl, sym, ap, ◌∙◌}
use mathlib.Core.List.{List, ◌∷◌}
use native.Mathlib.Omega.{arith}
use borrow.Author.Tests.{lt-ltb, le-ltb}
use lib.ListN.{length, drop, set, length-set, length-drop}
use borrow.Rule.Slice.PartMut.{mid_of}
use lib.Seq.{drop-cons, drop-set-lt, get_or-set_same, take_all}
use Rattle.text.specs.Numbers.{digits_before, decimal_of}

last_digit : (most n : ℕ) (after : List ℕ) → n < 10 → digits_before (suc most) n after ≡ (48 + n % 10) ∷ after
unfolding digits_before
last_digit most n after h = rw (lt-ltb n 10 h) refl

one_digit : (most n : ℕ) (after : List ℕ) → 10 ≤ n → digits_before (suc most) n after ≡ digits_before most (n / 10) ((48 + n % 10) ∷ after)
unfolding digits_before
one_digit most n after h = rw (le-ltb n 10 h) refl

no_digits : (n : ℕ) (after : List ℕ) → digits_before 0 n after ≡ after
unfolding digits_before
no_digits n after = refl

-- The digits from index i on are written, and those of `rest` are left.
pub record Spelling (n : ℕ) (digits : List ℕ) (i rest : ℕ) : Type 0 where
  pub within : i ≤ 20
  pub same_length : length digits ≡ 20
  pub left : digits_before i rest (drop i digits) ≡ decimal_of n

module _ {n : ℕ} {digits : List ℕ} {i rest : ℕ} (g : Spelling n digits i rest) where
  module _ (h : 0 < i) where
    abbrev spelt : List ℕ
    spelt = set digits (i - 1) (48 + rest % 10)

    after : drop (i - 1) spelt ≡ (48 + rest % 10) ∷ drop i digits
    after =
        let l : i - 1 < length digits = omega (arith, g.within, g.same_length) in
        let k : i - 1 < length spelt = omega (arith, length-set digits (i - 1) (48 + rest % 10)) in
        let z : suc (i - 1) ≡ i = omega arith in
        drop-cons spelt (i - 1) 0 k
        ∙ (λ p. get_or-set_same digits (i - 1) (48 + rest % 10) 0 l p ∷ drop-set-lt (suc (i - 1)) digits (i - 1) (48 + rest % 10) (omega arith) p)
        ∙ ap (λ m. (48 + rest % 10) ∷ drop m digits) z

    left' : digits_before (suc (i - 1)) rest (drop i digits) ≡ decimal_of n
    left' =
        let z : suc (i - 1) ≡ i = omega arith in
        rw z g.left

    pub is_last : rest < 10 → mid_of (i - 1) (20 - (i - 1)) spelt ≡ decimal_of n
    is_last l =
        let k : length spelt ≡ 20 = length-set digits (i - 1) (48 + rest % 10) ∙ g.same_length in
        take_all (20 - (i - 1)) (drop (i - 1) spelt) (omega (arith, length-drop (i - 1) spelt))
        ∙ after ∙ sym (last_digit (i - 1) rest (drop i digits) l) ∙ left'

    pub goes_on : 10 ≤ rest → Spelling n spelt (i - 1) (rest / 10)
    goes_on l =
        record {
          within = omega (arith, g.within);
          same_length = length-set digits (i - 1) (48 + rest % 10) ∙ g.same_length;
          left = ap (digits_before (i - 1) (rest / 10)) after ∙ sym (one_digit (i - 1) rest (drop i digits) l) ∙ left';
        }

  pub no_room : i ≤ 0 → digits ≡ decimal_of n
  no_room h =
      let z : i ≡ 0 = omega arith in
      sym (no_digits rest digits) ∙ (rw z at g.left)
