-- A number written and read back. Assumes nothing.
use Prim.Native.Nat.{ℕ, zero, suc, ◌+◌, ◌-◌, ◌*◌, ◌/◌, ◌%◌, ◌^◌, ◌≤◌, ◌<◌}
use mathlib.Core.Path.{◌≡◌, refl, ap, ◌∙◌}
use mathlib.Core.Bool.{Bool, true, false, cond}
use mathlib.Core.List.{List, [], ◌∷◌}
use native.Mathlib.Omega.{arith}
use native.Mathlib.Nat.{pow-succ'}
use borrow.Author.Tests.{le-ltb, ne_eqb, ltb-true, ltb-false}
use lib.Dec.{ltb, eqb}
use lib.ListN.{length, get_or}
use Rattle.std.proofs.Common.{Some}
use Rattle.text.proofs.Words.{either}
use Rattle.text.specs.Laws.{DecimalLaws}
use Rattle.text.specs.Numbers.{value_from, all_digits, number_from, number_of, digits_before, decimal_of}

-- `out` is n, spelt before `after`.
record Spelt (n : ℕ) (after out : List ℕ) : Type 0 where
  value : value_from 0 out ≡ value_from n after
  digits : all_digits out ≡ all_digits after
  longer : 0 < n → length after < length out
  first : 0 < n → get_or out 0 0 ≡ 48 → ⊥
  short : (j : ℕ) → n < 10 ^ suc j → length out ≤ suc j + length after

-- Zero needs no digit before others.
nothing : (n : ℕ) (after : List ℕ) → n < 1 → Spelt n after after
nothing n after h =
    let z : 0 ≡ n = omega arith in
    record {
      value = ap (λ m. value_from m after) z;
      digits = refl;
      longer = λ p. absurd (omega arith);
      first = λ p e. absurd (omega arith);
      short = λ j l. omega arith;
    }

-- What is put before `after` is a digit.
digit : (n : ℕ) (after : List ℕ) → all_digits ((48 + n % 10) ∷ after) ≡ all_digits after
unfolding all_digits
digit n after = rw (le-ltb (48 + n % 10) 48 (omega arith), le-ltb 57 (48 + n % 10) (omega arith)) refl

-- The last digit, after what it continues.
continues : (m n : ℕ) (after : List ℕ) → n ≡ m * 10 + n % 10 → value_from m ((48 + n % 10) ∷ after) ≡ value_from n after
unfolding value_from
continues m n after e =
    let z : m * 10 + ((48 + n % 10) - 48) ≡ n = omega arith in
    ap (λ s. value_from s after) z

-- One digit suffices below ten.
alone : (n : ℕ) (after : List ℕ) → n < 10 → Spelt n after ((48 + n % 10) ∷ after)
alone n after h =
    record {
      value = continues 0 n after (omega arith);
      digits = digit n after;
      longer = λ p. omega arith;
      first = λ p e. absurd (omega arith);
      short = λ j l. omega arith;
    }

-- Ten or more: the digits before the last, and the last.
more : (n : ℕ) (after : List ℕ) {out : List ℕ} → 10 ≤ n → Spelt (n / 10) ((48 + n % 10) ∷ after) out → Spelt n after out
more n after {out = out} h s =
    record {
      value = s.value ∙ continues (n / 10) n after (omega arith);
      digits = s.digits ∙ digit n after;
      longer = λ p. omega (arith, s.longer (omega arith));
      first = λ p e. s.first (omega arith) e;
      short = fits;
    }
  where
    fits : (j : ℕ) → n < 10 ^ suc j → length out ≤ suc j + length after
    fits zero l = absurd (omega arith)
    fits (suc j) l = omega (arith, s.short j (omega (arith, pow-succ' 10 (suc j))))

step :
    (k n : ℕ) (after : List ℕ)
    → Spelt (n / 10) ((48 + n % 10) ∷ after) (digits_before k (n / 10) ((48 + n % 10) ∷ after))
    → Spelt n after (digits_before (suc k) n after)
unfolding digits_before
step k n after s = go (ltb n 10) refl
  where
    go : (b : Bool) → ltb n 10 ≡ b → Spelt n after (cond b ((48 + n % 10) ∷ after) (digits_before k (n / 10) ((48 + n % 10) ∷ after)))
    go true e = alone n after (ltb-true n 10 e)
    go false e = more n after (ltb-false n 10 e) s

-- k digits suffice for a number below 10 ^ k.
spelt : (k n : ℕ) (after : List ℕ) → n < 10 ^ k → Spelt n after (digits_before k n after)
unfolding digits_before
spelt zero n after h = nothing n after h
spelt (suc k) n after h = step k n after (spelt k (n / 10) ((48 + n % 10) ∷ after) (omega (arith, pow-succ' 10 k)))

-- What is printed stands for the number; every number below 2 ^ 64 is below 10 ^ 20.
pub decimal_value : (n : ℕ) → n < 10 ^ 20 → value_from 0 (decimal_of n) ≡ n
unfolding value_from
decimal_value n h = (spelt 20 n [] h).value

-- A number below 2 ^ 32 takes at most ten digits.
pub decimal_short : (n : ℕ) → n < 4294967296 → length (decimal_of n) ≤ 10
decimal_short n h = (spelt 20 n [] (omega arith)).short 9 (omega arith)

all-digits : (n : ℕ) → n < 10 ^ 20 → all_digits (decimal_of n) ≡ true
unfolding all_digits
all-digits n h = (spelt 20 n [] h).digits

continued : (n : ℕ) → n < 4294967296 → number_from 0 (decimal_of n) ≡ Some n
unfolding number_from
continued n h =
    rw (all-digits n (omega arith), decimal_value n (omega arith), le-ltb 4294967295 n (omega arith)) refl

-- A word that does not begin with `0`.
no_zero_first : (bs : List ℕ) → 0 < length bs → (get_or bs 0 0 ≡ 48 → ⊥) → number_of bs ≡ number_from 0 bs
no_zero_first bs h f =
    rw (ne_eqb (length bs) 0 (λ e. absurd (omega arith)), ne_eqb (get_or bs 0 0) 48 f) (either (eqb (length bs) 1) (number_from 0 bs))

zero_read : number_of (decimal_of 0) ≡ Some 0
unfolding number_from all_digits value_from digits_before
zero_read = refl

-- A printed number below 2 ^ 32 is read back as itself.
pub decimal_reads : (n : ℕ) → n < 4294967296 → number_of (decimal_of n) ≡ Some n
decimal_reads zero h = zero_read
decimal_reads (suc n) h =
    let s : Spelt (suc n) [] (decimal_of (suc n)) = spelt 20 (suc n) [] (omega arith) in
    no_zero_first (decimal_of (suc n)) (s.longer (omega arith)) (s.first (omega arith)) ∙ continued (suc n) h

pub decimal_laws : DecimalLaws
decimal_laws = record { value = decimal_value; reads = decimal_reads; short = decimal_short }
