-- A word read as a number, and a number as text. Bytes are ASCII: `0` is 48, `9` is 57, `-` is 45.
use Rattle.std.specs.Prelude.{ℕ, zero, suc, ◌+◌, ◌-◌, ◌*◌, ◌/◌, ◌%◌, Bool, true, false, cond, List, [], ◌∷◌, Option, Some, None, ℤ, pos, negsuc, ltb, eqb, length, get_or}

-- The value of digits, after digits whose value is `sum`.
unfoldable pub value_from : ℕ → List ℕ → ℕ
value_from sum [] = sum
value_from sum (b ∷ bs) = value_from (sum * 10 + (b - 48)) bs

abbrev pub is_digit : ℕ → Bool
is_digit b = cond (ltb b 48) false (cond (ltb 57 b) false true)

unfoldable pub all_digits : List ℕ → Bool
all_digits [] = true
all_digits (b ∷ bs) = cond (is_digit b) (all_digits bs) false

-- The number that digits continue, if it is below 2^32.
unfoldable pub number_from : ℕ → List ℕ → Option ℕ
number_from sum bs = cond (all_digits bs) (cond (ltb 4294967295 (value_from sum bs)) None (Some (value_from sum bs))) None

-- At least one digit, the first not `0` unless it is alone.
abbrev pub number_of : List ℕ → Option ℕ
number_of bs =
    cond (eqb (length bs) 0) None
    (cond (eqb (length bs) 1) (number_from 0 bs)
    (cond (eqb (get_or bs 0 0) 48) None (number_from 0 bs)))

-- The last digits of n, at most so many, before `after`.
unfoldable pub digits_before : ℕ → ℕ → List ℕ → List ℕ
digits_before zero n after = after
digits_before (suc most) n after =
    cond (ltb n 10) ((48 + n % 10) ∷ after) (digits_before most (n / 10) ((48 + n % 10) ∷ after))

-- A number below 2^64 has at most 20 digits.
abbrev pub decimal_of : ℕ → List ℕ
decimal_of n = digits_before 20 n []

abbrev pub magnitude : ℤ → ℕ
magnitude (pos n) = n
magnitude (negsuc n) = n + 1

abbrev pub signed_of : ℤ → List ℕ
signed_of (pos n) = decimal_of n
signed_of (negsuc n) = 45 ∷ decimal_of (n + 1)

-- ---- what is made of a number that was read

abbrev pub if_number : {A : Type 0} → Option ℕ → (ℕ → A) → A → A
if_number (Some n) f other = f n
if_number None f other = other
