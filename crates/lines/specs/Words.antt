-- A line's words ("The console"). Single spaces separate them: a line has one word more than spaces, and a word may be empty.
use Rattle.std.specs.Prelude.{ℕ, Bool, true, false, cond, List, [], ◌∷◌, Option, Some, None, eqb, length, get_or}
use Rattle.text.specs.Numbers.{number_of, if_number}

-- The bytes before the first mark; all where there is none.
unfoldable pub before : ℕ → List ℕ → List ℕ
before mark [] = []
before mark (b ∷ bs) = cond (eqb b mark) [] (b ∷ before mark bs)

abbrev pub onto_first : ℕ → List (List ℕ) → List (List ℕ)
onto_first b [] = (b ∷ []) ∷ []
onto_first b (part ∷ parts) = (b ∷ part) ∷ parts

-- The parts that marks separate.
unfoldable pub split : ℕ → List ℕ → List (List ℕ)
split mark [] = [] ∷ []
split mark (b ∷ bs) = cond (eqb b mark) ([] ∷ split mark bs) (onto_first b (split mark bs))

-- A space is 32.
abbrev pub words_of : List ℕ → List (List ℕ)
words_of line = split 32 line

-- Word k, from 0 on; empty past the last.
abbrev pub word_at : List ℕ → ℕ → List ℕ
word_at line k = get_or (words_of line) k []

-- ---- words read as numbers

unfoldable pub all_numbers : List (List ℕ) → Bool
all_numbers [] = true
all_numbers (w ∷ ws) = if_number (number_of w) (λ n. all_numbers ws) false

-- The numbers before the first word that is none.
unfoldable pub numbers_in : List (List ℕ) → List ℕ
numbers_in [] = []
numbers_in (w ∷ ws) = if_number (number_of w) (λ n. n ∷ numbers_in ws) []

abbrev pub list_read : List (List ℕ) → Option ℕ
list_read ws = cond (all_numbers ws) (Some (length ws)) None

abbrev pub list_count : Option ℕ → ℕ
list_count (Some n) = n
list_count None = 0
