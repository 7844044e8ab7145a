-- Refusals in the order of the rows ("Refusals"): a call's rows are listed in order, and the first that is given refuses it.
use Rattle.std.specs.Prelude.{Result, Err, ℕ, ◌≤◌, ◌<◌, ◌≡◌, Bool, not, cond, List, [], ◌∷◌, eqb, length, get_or, None, Option, Some}
use Rattle.types.specs.declared.Refusal.{Refusal}
use Rattle.types.specs.declared.Refusal.TheVariants.{TableLength}
use Rattle.types.specs.Numbers.{refusal_number}

-- A row is given if its test passes.
abbrev pub row_if : Bool → Refusal → Option Refusal
row_if test r = cond test (Some r) None

-- Row 1 for one lent table, which has so many words.
abbrev pub length_row : ℕ → List ℕ → Option Refusal
length_row size ws = row_if (not (eqb (length ws) size)) TableLength

abbrev pub or_else : Option Refusal → Option Refusal → Option Refusal
or_else (Some r) next = Some r
or_else None next = next

unfoldable pub first_given : List (Option Refusal) → Option Refusal
first_given [] = None
first_given (row ∷ rows) = or_else row (first_given rows)

-- Row i is given as r, and no row before it is given.
pub record FirstAt (rows : List (Option Refusal)) (i : ℕ) (r : Refusal) : Type 0 where
  pub given : get_or rows i None ≡ Some r
  pub earlier : (j : ℕ) → j < i → get_or rows j None ≡ None

-- Each row, where it is given, has a number from the first to the second of its pair.
abbrev pub Ranged : List (Option Refusal) → List (ℕ × ℕ) → Type 0
Ranged [] [] = Unit
Ranged [] (n ∷ ns) = ⊥
Ranged (row ∷ rows) [] = ⊥
Ranged (row ∷ rows) (n ∷ ns) = ((r : Refusal) → row ≡ Some r → (n.0 ≤ refusal_number r) × (refusal_number r ≤ n.1)) × Ranged rows ns

-- Each row, where it is given, has its number.
abbrev pub Numbered : List (Option Refusal) → List ℕ → Type 0
Numbered [] [] = Unit
Numbered [] (n ∷ ns) = ⊥
Numbered (row ∷ rows) [] = ⊥
Numbered (row ∷ rows) (n ∷ ns) = ((r : Refusal) → row ≡ Some r → refusal_number r ≡ n) × Numbered rows ns

-- ---- effects

-- What a call answers, and the words that it leaves in the one table that it may change.
pub record Effect (A : Type 0) : Type 0 where
  pub answer : A
  pub words : List ℕ

abbrev pub effect : {A : Type 0} → A → List ℕ → Effect A
effect a ws = record { answer = a; words = ws }

-- A refused call leaves the words.
abbrev pub unless_refused : {A : Type 0} → Option Refusal → List ℕ → Effect (Result A Refusal) → Effect (Result A Refusal)
unless_refused (Some r) ws accepted = record { answer = Err r; words = ws }
unless_refused None ws accepted = accepted
