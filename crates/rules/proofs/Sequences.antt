-- Numbers that are written as a sequence are read as those numbers. Assumes nothing.
use Prim.Native.Nat.{ℕ, suc, ◌+◌, ◌-◌, ◌*◌, ◌/◌, ◌%◌}
use mathlib.Core.Path.{◌≡◌, refl, ◌∙◌, ap}
use mathlib.Core.Bool.{Bool, true, false, ◌||◌}
use mathlib.Core.List.{List, [], ◌∷◌, ◌++◌}
use native.Mathlib.Omega.{arith}
use borrow.Author.Tests.{le-leb, lt-leb, le-ltb, ne_eqb}
use lib.Dec.{eqb}
use lib.ListN.{length}
use Rattle.as_path.specs.Segments.{number_bytes, number_at, numbers_at, starts_from, starts, Segment, segments}
use Rattle.as_path.specs.Faults.{numbers_fault, segment_fault, fault_among, first_fault}
use Rattle.as_path.specs.Laws.{moved}
use Rattle.as_path.proofs.Positions.{numbers_after, numbers_fault_after}
use Rattle.as_path.proofs.Laws.{position_laws}
use Rattle.rules.specs.Records.{is_in}
use Rattle.rules.specs.Vectors.{bytes, sequence}
use Rattle.std.specs.Prelude.{None}

-- Without a fault, and read as these segments.
abbrev pub Read : List ℕ → List Segment → Type 0
Read a ss = (first_fault number_bytes a ≡ None) × (segments number_bytes a ≡ ss)

abbrev pub ones : List ℕ → Segment
ones l = record { kind = 2; numbers = l }

pub none_read : Read [] []
unfolding first_fault segments starts starts_from fault_among
none_read = (refl, refl)

pub read_then : (a b : List ℕ) (ss ts : List Segment) → Read a ss → Read b ts → Read (a ++ b) (ss ++ ts)
read_then a b ss ts e f = (
  position_laws.any_position number_bytes a b e.0 ∙ ap (moved (length a)) f.0,
  position_laws.segments_append number_bytes a b e.0 ∙ (λ i. e.1 i ++ f.1 i),
)

-- The bytes of one number.
abbrev four : ℕ → List ℕ
four x = x / 16777216 ∷ x / 65536 % 256 ∷ x / 256 % 256 ∷ x % 256 ∷ []

number_again : (x : ℕ) (l : List ℕ) → number_at number_bytes (four x ++ l) 0 ≡ x
unfolding number_at
number_again x l = omega arith

length_bytes : (l : List ℕ) → length (bytes l) ≡ number_bytes * length l
unfolding bytes
length_bytes [] = refl
length_bytes (x ∷ l) = omega (arith, length_bytes l)

numbers_again : (l : List ℕ) → numbers_at number_bytes (length l) (bytes l) 0 ≡ l
unfolding bytes numbers_at
numbers_again [] = refl
numbers_again (x ∷ l) = λ i. number_again x (bytes l) i ∷ (numbers_after number_bytes (four x) (bytes l) (length l) 0 ∙ numbers_again l) i

none_zero : (l : List ℕ) → is_in 0 l ≡ false → numbers_fault number_bytes (length l) (bytes l) 0 None ≡ None
unfolding bytes numbers_fault is_in
none_zero [] e = refl
none_zero (x ∷ l) e = go (eqb x 0) refl e (none_zero l)
  where
    go : (b : Bool) → eqb x 0 ≡ b → b || is_in 0 l ≡ false → (is_in 0 l ≡ false → numbers_fault number_bytes (length l) (bytes l) 0 None ≡ None)
        → numbers_fault number_bytes (suc (length l)) (four x ++ bytes l) 0 None ≡ None
    go true f e ih = absurd (let z : ◌≡◌ {A = ℕ} 0 1 = cc in omega arith)
    go false f e ih = rw (number_again x (bytes l), f, numbers_fault_after number_bytes (four x) (bytes l) (length l) 0 None, ih e)

-- One number or more, and none of them 0.
module _ (x : ℕ) (l : List ℕ) where
  abbrev all : List ℕ
  all = x ∷ l

  one_start : starts number_bytes (sequence all) ≡ 0 ∷ []
  unfolding starts starts_from
  one_start =
      rw (lt-leb (length (sequence all)) 0 (omega arith), le-leb (length (sequence all)) (2 + number_bytes * length all) (omega (arith, length_bytes all)))

  pub sequence_read : is_in 0 all ≡ false → Read (sequence all) (ones all ∷ [])
  unfolding first_fault fault_among segment_fault segments
  sequence_read e = (
    rw (
      one_start,
      le-ltb (length (sequence all) - 0) 2 (omega arith),
      ne_eqb (length all) 0 (omega arith),
      le-ltb (length (sequence all)) (2 + number_bytes * length all) (omega (arith, length_bytes all)),
      numbers_fault_after number_bytes (2 ∷ length all ∷ []) (bytes all) (length all) 0 None,
      none_zero all e,
    ),
    rw (one_start, numbers_after number_bytes (2 ∷ length all ∷ []) (bytes all) (length all) 0, numbers_again all),
  )
