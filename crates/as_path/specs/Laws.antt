-- What the documents say of reading an attribute, as statements. proofs/Laws.antt has the proof of each record.
use Rattle.std.specs.Prelude.{ℕ, ◌+◌, ◌*◌, ◌≤◌, ◌<◌, ◌≡◌, List, ◌∷◌, ◌++◌, map, ◌⊎◌, false, length, get_or, None, Option, Some}
use Rattle.types.specs.declared.Fault.{Fault}
use Rattle.types.specs.declared.Fault.TheVariants.{CutShort, UnknownType, Confederation, NoNumbers, ZeroNumber}
use Rattle.as_path.specs.Segments.{number_bytes, number_at, type_at, count_at, end_of, starts, Segment, segments}
use Rattle.as_path.specs.Faults.{first_fault}
use Rattle.as_path.specs.Grounds.{has_set}
use Rattle.as_path.specs.Merging.{numbers_in, merge_runs, merged_path}
use Rattle.as_path.specs.Reading.{content_of}

-- ---- the segment rules at any position

-- A result that names an offset, q bytes further on.
abbrev pub moved : ℕ → Option (Fault × ℕ) → Option (Fault × ℕ)
moved q None = None
moved q (Some (f, p)) = Some (f, q + p)

-- After bytes a without a fault, what follows is read as it is by itself, moved along. w is the width of a number, whatever it is.
pub record PositionLaws : Type 0 where
  pub any_position : (w : ℕ) (a b : List ℕ) → first_fault w a ≡ None → first_fault w (a ++ b) ≡ moved (length a) (first_fault w b)
  pub starts_append : (w : ℕ) (a b : List ℕ) → first_fault w a ≡ None → starts w (a ++ b) ≡ starts w a ++ map (λ p. length a + p) (starts w b)
  pub segments_append : (w : ℕ) (a b : List ℕ) → first_fault w a ≡ None → segments w (a ++ b) ≡ segments w a ++ segments w b

-- ---- what a fault says

-- What holds of the bytes where a fault is: rows 12 to 16.
abbrev pub Meaning : ℕ → List ℕ → Fault → ℕ → Type 0
Meaning w a CutShort p = (p < length a) × ((length a < p + 2) ⊎ (length a < end_of w a p))
Meaning w a UnknownType p = (p + 2 ≤ length a) × ((type_at a p ≡ 0) ⊎ (4 < type_at a p))
Meaning w a Confederation p = (p + 2 ≤ length a) × (2 < type_at a p) × (type_at a p ≤ 4)
Meaning w a NoNumbers p = (p + 2 ≤ length a) × (count_at a p ≡ 0)
Meaning w a ZeroNumber p = (p + w ≤ length a) × (number_at w a p ≡ 0)

-- Bytes that begin with a segment's head: a set or a sequence, and some numbers.
pub record Headed (b : List ℕ) : Type 0 where
  pub head : 2 ≤ length b
  pub typed : 1 ≤ type_at b 0
  pub known : type_at b 0 ≤ 2
  pub counted : count_at b 0 ≡ 0 → ⊥

-- Number k of the first segment is the first that is 0.
pub record FirstZero (w : ℕ) (b : List ℕ) (k : ℕ) : Type 0 where
  pub whole : end_of w b 0 ≤ length b
  pub within : k < count_at b 0
  pub zeroed : number_at w b (2 + w * k) ≡ 0
  pub before : (j : ℕ) → j < k → number_at w b (2 + w * j) ≡ 0 → ⊥

-- What the first fault says of the bytes at its offset, and the other way: bytes b, after a without a fault, whose first segment has the fault.
pub record FaultLaws : Type 0 where
  pub fault_means : (w : ℕ) (a : List ℕ) (f : Fault) (p : ℕ) → first_fault w a ≡ Some (f, p) → Meaning w a f p
  -- The offset lies within the attribute.
  pub fault_within : (w : ℕ) (a : List ℕ) (f : Fault) (p : ℕ) → 1 ≤ w → first_fault w a ≡ Some (f, p) → p < length a
  -- Row 12: one byte, or a body cut short.
  pub one_byte : (w : ℕ) (a b : List ℕ) → first_fault w a ≡ None → length b ≡ 1 → first_fault w (a ++ b) ≡ Some (CutShort, length a)
  pub body_short : (w : ℕ) (a b : List ℕ) → first_fault w a ≡ None → Headed b → length b < end_of w b 0
      → first_fault w (a ++ b) ≡ Some (CutShort, length a)
  -- Rows 13 and 14, whatever the count is.
  pub unknown_type : (w : ℕ) (a b : List ℕ) → first_fault w a ≡ None → 2 ≤ length b → (type_at b 0 ≡ 0) ⊎ (4 < type_at b 0)
      → first_fault w (a ++ b) ≡ Some (UnknownType, length a)
  pub confederation : (w : ℕ) (a b : List ℕ) → first_fault w a ≡ None → 2 ≤ length b → 2 < type_at b 0 → type_at b 0 ≤ 4
      → first_fault w (a ++ b) ≡ Some (Confederation, length a)
  -- Row 15, of a known type.
  pub no_numbers : (w : ℕ) (a b : List ℕ) → first_fault w a ≡ None → 2 ≤ length b → 1 ≤ type_at b 0 → type_at b 0 ≤ 2 → count_at b 0 ≡ 0
      → first_fault w (a ++ b) ≡ Some (NoNumbers, length a)
  -- Row 16, at the number.
  pub zero_number : (w : ℕ) (a b : List ℕ) (k : ℕ) → first_fault w a ≡ None → Headed b → FirstZero w b k
      → first_fault w (a ++ b) ≡ Some (ZeroNumber, length a + (2 + w * k))

-- ---- the merged path

-- Bytes without a fault whose segments are all sequences.
pub record Sequences (a : List ℕ) : Type 0 where
  pub clean : first_fault number_bytes a ≡ None
  pub no_set : has_set (segments number_bytes a) ≡ false

pub record PathLaws : Type 0 where
  -- Of an attribute without a fault: no number is 0;
  pub no-zero : (w : ℕ) (a : List ℕ) → first_fault w a ≡ None → (i : ℕ) → i < length (merged_path (segments w a))
      → get_or (merged_path (segments w a)) i 0 ≡ 0 → ⊥
  -- if it has bytes, its path has numbers, and the first is the attribute's first.
  pub first_number : (w : ℕ) (a : List ℕ) → first_fault w a ≡ None → 0 < length a
      → (0 < length (merged_path (segments w a))) × (get_or (merged_path (segments w a)) 0 0 ≡ number_at w a 2)
  -- No two neighbours are equal, wherever segments end.
  pub no-runs : (ss : List Segment) (i : ℕ) → i + 1 < length (merged_path ss) → get_or (merged_path ss) i 0 ≡ get_or (merged_path ss) (i + 1) 0 → ⊥
  -- The same numbers in the same order are read as the same, however they are cut into sequences.
  pub cut_anyhow : (role neighbour : ℕ) (a b : List ℕ) → Sequences a → Sequences b
      → numbers_in (segments number_bytes a) ≡ numbers_in (segments number_bytes b) → content_of role neighbour a ≡ content_of role neighbour b
  -- A number beside itself is dropped; numbers of which none stands beside itself stay as they are.
  pub beside_itself : (l m : List ℕ) (x : ℕ) → merge_runs (l ++ x ∷ x ∷ m) ≡ merge_runs (l ++ x ∷ m)
  pub left_alone : (l : List ℕ) → ((i : ℕ) → i + 1 < length l → get_or l i 0 ≡ get_or l (i + 1) 0 → ⊥) → merge_runs l ≡ l
  -- It is never longer than the attribute's numbers.
  pub shorter : (ss : List Segment) → length (merged_path ss) ≤ length (numbers_in ss)
