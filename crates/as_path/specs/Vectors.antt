-- Attributes whose segments are all sequences, by computation: vector O's, and the same numbers in one sequence and in three. The most numbers.
use Rattle.std.specs.Prelude.{ℕ, ◌≡◌, refl, List, [], ◌∷◌, replicate, Ok, Err}
use Rattle.types.specs.declared.Refusal.TheVariants.{PathLength}
use Rattle.as_path.specs.declared.Reading.TheVariants.{Path}
use Rattle.as_path.specs.Segments.{number_bytes, number_at, numbers_at, starts_from, starts, segments}
use Rattle.as_path.specs.Faults.{numbers_fault, segment_fault, fault_among, first_fault}
use Rattle.as_path.specs.Grounds.{has_set}
use Rattle.as_path.specs.Merging.{numbers_in}
use Rattle.as_path.specs.Reading.{merged, reading_of}
use Rattle.as_path.specs.Laws.{Sequences}

-- 20, then 20 10.
abbrev pub o : List ℕ
o = 2 ∷ 1 ∷ 0 ∷ 0 ∷ 0 ∷ 20 ∷ 2 ∷ 2 ∷ 0 ∷ 0 ∷ 0 ∷ 20 ∷ 0 ∷ 0 ∷ 0 ∷ 10 ∷ []

-- 20 20 10.
abbrev pub in_one : List ℕ
in_one = 2 ∷ 3 ∷ 0 ∷ 0 ∷ 0 ∷ 20 ∷ 0 ∷ 0 ∷ 0 ∷ 20 ∷ 0 ∷ 0 ∷ 0 ∷ 10 ∷ []

-- 20, 20, 10.
abbrev pub in_three : List ℕ
in_three = 2 ∷ 1 ∷ 0 ∷ 0 ∷ 0 ∷ 20 ∷ 2 ∷ 1 ∷ 0 ∷ 0 ∷ 0 ∷ 20 ∷ 2 ∷ 1 ∷ 0 ∷ 0 ∷ 0 ∷ 10 ∷ []

pub are_sequences : Sequences o × Sequences in_one × Sequences in_three
unfolding number_at starts_from starts segments numbers_fault segment_fault fault_among first_fault has_set
are_sequences = (record { clean = refl; no_set = refl }, record { clean = refl; no_set = refl }, record { clean = refl; no_set = refl })

pub same_numbers :
    (numbers_in (segments number_bytes o) ≡ 20 ∷ 20 ∷ 10 ∷ []) × (numbers_in (segments number_bytes in_one) ≡ 20 ∷ 20 ∷ 10 ∷ [])
    × (numbers_in (segments number_bytes in_three) ≡ 20 ∷ 20 ∷ 10 ∷ [])
unfolding number_at numbers_at starts_from starts segments numbers_in
same_numbers = (refl, refl, refl)

-- 512 numbers are a path and 513 are not (P5): how many they are decides.
pub up_to_512 : (reading_of (merged (replicate 512 20)) ≡ Ok (Path 512)) × (reading_of (merged (replicate 513 20)) ≡ Err PathLength)
up_to_512 = (refl, refl)
