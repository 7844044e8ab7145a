-- A number read digit by digit: each turn of the loop, and each way out. Assumes nothing.
use Prim.Native.Nat.{ℕ, ◌+◌, ◌-◌, ◌*◌, ◌≤◌, ◌<◌}
use mathlib.Core.Path.{◌≡◌, refl, sym, ap, ◌∙◌}
use mathlib.Core.Bool.{Bool, true, false, cond}
use mathlib.Core.List.{List, [], ◌∷◌}
use native.Mathlib.Omega.{arith}
use native.Mathlib.Numerals.{add-one}
use borrow.Author.Tests.{lt-ltb, le-ltb}
use lib.ListN.{length, get_or, drop}
use lib.Seq.{drop-cons, drop-length}
use Rattle.std.proofs.Common.{Option, Some, None}
use Rattle.std.specs.Char.{is_ascii_digit}
use Rattle.std.proofs.lemmas.Bool.Decides.{nat_tests}
use Rattle.text.specs.Numbers.{value_from, is_digit, all_digits, number_from}

-- The library's test of a digit.
digit_is : (b : ℕ) → is_ascii_digit b ≡ is_digit b
digit_is b = grind (arith, nat_tests)

-- Digits only add to a number.
grows : (sum : ℕ) (bs : List ℕ) → sum ≤ value_from sum bs
unfolding value_from
grows sum [] = omega arith
grows sum (b ∷ bs) = omega (arith, grows (sum * 10 + (b - 48)) bs)

either : (b : Bool) → cond {A = Option ℕ} b None None ≡ None
either true = refl
either false = refl

bad_first : (sum b : ℕ) (bs : List ℕ) → is_digit b ≡ false → number_from sum (b ∷ bs) ≡ None
unfolding number_from all_digits
bad_first sum b bs e = rw e refl

good_first : (sum b : ℕ) (bs : List ℕ) → is_digit b ≡ true → number_from sum (b ∷ bs) ≡ number_from (sum * 10 + (b - 48)) bs
unfolding number_from all_digits value_from
good_first sum b bs e = rw e refl

too_large : (sum : ℕ) (bs : List ℕ) → 4294967295 < sum → number_from sum bs ≡ None
unfolding number_from
too_large sum bs h =
    let l : 4294967295 < value_from sum bs = omega (arith, grows sum bs) in
    rw (lt-ltb 4294967295 (value_from sum bs) l) (either (all_digits bs))

-- The digits up to i are read, and `sum` is their value.
pub record Reading (word : List ℕ) (sum i : ℕ) : Type 0 where
  pub small : sum < 4294967296
  pub rest : number_from sum (drop i word) ≡ number_from 0 word

module _ {word : List ℕ} {sum i : ℕ} (g : Reading word sum i) where
  module _ (h : i < length word) where
    abbrev b : ℕ
    b = get_or word i 0

    opened : drop i word ≡ b ∷ drop (i + 1) word
    opened = rw add-one (drop-cons word i 0 h)

    module _ {t : Bool} (d : t ≡ is_ascii_digit b) where
      is : (v : Bool) → t ≡ v → is_digit b ≡ v
      is v e = sym (digit_is b) ∙ sym d ∙ e

      pub no_digit : t ≡ false → None ≡ number_from 0 word
      no_digit e = sym (bad_first sum b (drop (i + 1) word) (is false e)) ∙ ap (number_from sum) (sym opened) ∙ g.rest

      module _ (e : t ≡ true) where
        next : number_from (sum * 10 + (b - 48)) (drop (i + 1) word) ≡ number_from 0 word
        next = sym (good_first sum b (drop (i + 1) word) (is true e)) ∙ ap (number_from sum) (sym opened) ∙ g.rest

        pub past : 4294967295 < sum * 10 + (b - 48) → None ≡ number_from 0 word
        past n = sym (too_large (sum * 10 + (b - 48)) (drop (i + 1) word) n) ∙ next

        pub goes_on : {more : ℕ} → more ≡ sum * 10 + (b - 48) → more < 4294967296 → Reading word more (i + 1)
        goes_on q n = record { small = n; rest = rw q next }

  pub ends : i ≡ length word → Some sum ≡ number_from 0 word
  unfolding number_from all_digits value_from
  ends z =
      let s : sum ≤ 4294967295 = omega (arith, g.small) in
      let f : number_from sum [] ≡ Some sum = rw (le-ltb 4294967295 sum s) refl in
      let e : drop i word ≡ [] = rw z (drop-length word) in
      sym f ∙ ap (number_from sum) (sym e) ∙ g.rest
