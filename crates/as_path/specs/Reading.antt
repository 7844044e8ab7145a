-- What an attribute is read as: its first fault, else its ground, else its merged path. Row 17 arises only of a merged path.
use Rattle.std.specs.Prelude.{ℕ, List, cond, length, ltb, Option, Some, None, Result, Ok, Err}
use Rattle.std.proofs.lemmas.List.Edits.{sets}
use Rattle.types.specs.declared.Ground.{Ground}
use Rattle.types.specs.declared.Fault.{Fault}
use Rattle.types.specs.declared.Refusal.TheVariants.{Attribute, PathLength}
use Rattle.types.specs.declared.Refusal.{Refusal}
use Rattle.as_path.specs.declared.Reading as reading
use Rattle.as_path.specs.declared.Reading.TheVariants.{Path, OnGround}
use Rattle.as_path.specs.Segments.{number_bytes, segments}
use Rattle.as_path.specs.Faults.{first_fault}
use Rattle.as_path.specs.Grounds.{ground_of}
use Rattle.as_path.specs.Merging.{merged_path}

-- The most numbers of a merged path.
abbrev pub most_numbers : ℕ
most_numbers = 512

pub data Content : Type 0 where
  faulty : Fault → ℕ → Content
  grounded : Ground → Content
  merged : List ℕ → Content

abbrev pub after_ground : Option Ground → List ℕ → Content
after_ground (Some g) path = grounded g
after_ground None path = merged path

abbrev pub after_scan : Option (Fault × ℕ) → Content → Content
after_scan None c = c
after_scan (Some (f, p)) c = faulty f p

unfoldable pub content_of : ℕ → ℕ → List ℕ → Content
content_of role neighbour xs =
    after_scan (first_fault number_bytes xs) (after_ground (ground_of role neighbour (segments number_bytes xs)) (merged_path (segments number_bytes xs)))

-- What the reader answers: the refusal, the ground, or how many numbers the merged path has.
abbrev pub reading_of : Content → Result reading.Reading Refusal
reading_of (faulty f p) = Err (Attribute f p)
reading_of (grounded g) = Ok (OnGround g)
reading_of (merged l) = cond (ltb most_numbers (length l)) (Err PathLength) (Ok (Path (length l)))

-- What it leaves in the buffer: a merged path, as much of it as the buffer holds, and else what was there.
abbrev pub buffer_after : Content → List ℕ → List ℕ
buffer_after (faulty f p) buffer = buffer
buffer_after (grounded g) buffer = buffer
buffer_after (merged l) buffer = sets buffer 0 l
