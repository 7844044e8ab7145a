-- The test vectors A to L of the rules, as one table; O and others with runs over a segment's end; the edges that the rules name. All by computation from the definitions.
use Rattle.std.specs.Prelude.{ℕ, zero, suc, ◌/◌, ◌%◌, ◌≡◌, refl, List, [], ◌∷◌, ◌++◌, map, ℤ, pos, negsuc, length, replicate, Err, Ok, Result}
use Rattle.types.specs.declared.Ground.TheVariants.{Empty, NotNeighbour}
use Rattle.types.specs.declared.Origin.TheVariants.{Public}
use Rattle.types.specs.declared.Origins.TheVariants.{One, Two}
use Rattle.types.specs.declared.Cause.TheVariants.{ByGround, ByHops}
use Rattle.types.specs.declared.Verdict.{Verdict}
use Rattle.types.specs.declared.Verdict.TheVariants.{Valid, Invalid, Unknown}
use Rattle.types.specs.declared.Answer.TheVariants.{Plain, WithGap}
use Rattle.types.specs.declared.Fault.TheVariants.{CutShort}
use Rattle.types.specs.declared.Refusal.TheVariants.{AttributeLength, Attribute, PathLength}
use Rattle.types.specs.Rows.{first_given}
use Rattle.as_path.specs.Segments.{number_at, numbers_at, starts_from, starts, segments}
use Rattle.as_path.specs.Faults.{numbers_fault, segment_fault, fault_among, first_fault}
use Rattle.as_path.specs.Grounds.{has_set, ground_of}
use Rattle.as_path.specs.Merging.{numbers_in, runs_after, merge_runs, merged_path}
use Rattle.as_path.specs.Reading.{most_numbers, content_of}
use Rattle.rules.specs.Hops.{lowest, highest, climb, descend}
use Rattle.rules.specs.Records.{Record, is_in, attested, united, list_of, hop_of, hop_over}
use Rattle.rules.specs.Verdicts.{upstream, downstream, judged}
use Rattle.rules.specs.Judging.{most_bytes, judged_route}
use Rattle.types.specs.declared.Answer.{Answer}
use Rattle.types.specs.declared.Refusal.{Refusal}

-- Four bytes a number, high byte first.
unfoldable pub bytes : List ℕ → List ℕ
bytes [] = []
bytes (x ∷ l) = x / 16777216 ∷ x / 65536 % 256 ∷ x / 256 % 256 ∷ x % 256 ∷ bytes l

-- An attribute of one sequence.
abbrev pub sequence : List ℕ → List ℕ
sequence l = 2 ∷ length l ∷ bytes l

abbrev filed : ℕ → List ℕ → Record
filed customer providers = record { customer = customer; source = 0; providers = providers }

-- Register D, filed by one source.
abbrev pub register_d : List Record
register_d =
    filed 10 (20 ∷ 30 ∷ [])
    ∷ filed 20 (40 ∷ [])
    ∷ filed 40 (0 ∷ [])
    ∷ filed 50 (40 ∷ [])
    ∷ filed 70 (80 ∷ [])
    ∷ filed 80 (70 ∷ [])
    ∷ []

pub record Vector : Type 0 where
  pub role : ℕ
  pub neighbour : ℕ
  pub path : List ℕ
  pub answer : Result Answer Refusal

abbrev vector : ℕ → ℕ → List ℕ → Result Answer Refusal → Vector
vector r n p a = record { role = r; neighbour = n; path = p; answer = a }

abbrev pub plain : Verdict → Result Answer Refusal
plain v = Ok (Plain v)

abbrev pub gapped : Verdict → ℤ → Result Answer Refusal
gapped v g = Ok (WithGap v g)

-- A to L: role, neighbour, path with its left end first, answer.
abbrev pub vectors : List Vector
vectors =
    vector 1 20 (20 ∷ 10 ∷ []) (plain Valid)
    ∷ vector 1 40 (40 ∷ 20 ∷ 10 ∷ []) (plain Valid)
    ∷ vector 1 50 (50 ∷ 20 ∷ 10 ∷ []) (plain (Invalid (ByHops 3 0 (One Public))))
    ∷ vector 2 30 (30 ∷ 60 ∷ 10 ∷ []) (plain (Invalid (ByHops 2 0 (One Public))))
    ∷ vector 1 30 (30 ∷ 60 ∷ []) (plain (Unknown 2 0))
    ∷ vector 3 50 (50 ∷ 40 ∷ 20 ∷ 10 ∷ []) (gapped Valid (pos 0))
    ∷ vector 3 20 (20 ∷ 10 ∷ 30 ∷ []) (gapped (Unknown 1 3) (pos 2))
    ∷ vector 3 20 (20 ∷ 10 ∷ 40 ∷ []) (gapped (Invalid (ByHops 2 2 (Two Public Public))) (pos 2))
    ∷ vector 3 50 (50 ∷ 20 ∷ []) (gapped Valid (pos 1))
    ∷ vector 6 80 (80 ∷ 70 ∷ []) (gapped Valid (negsuc 0))
    ∷ vector 1 30 (20 ∷ 10 ∷ []) (plain (Invalid (ByGround NotNeighbour)))
    ∷ vector 4 30 (20 ∷ 10 ∷ []) (plain Valid)
    ∷ []

abbrev pub wanted : Vector → Result Answer Refusal
wanted v = v.answer

abbrev pub given : Vector → Result Answer Refusal
given v = judged_route (hop_over register_d []) v.role v.neighbour (sequence v.path)

-- Every vector's answer is the definitions' own.
pub starred : map given vectors ≡ map wanted vectors
unfolding judged_route first_given content_of number_at numbers_at starts_from starts segments numbers_fault segment_fault fault_among first_fault has_set ground_of numbers_in runs_after merge_runs merged_path lowest highest climb descend is_in attested united list_of hop_of hop_over upstream downstream judged bytes
starred = refl

-- ---- runs over a segment's end

-- An attribute of several sequences.
abbrev pub sequences : List (List ℕ) → List ℕ
sequences [] = []
sequences (l ∷ ls) = sequence l ++ sequences ls

pub record CutVector : Type 0 where
  pub role : ℕ
  pub neighbour : ℕ
  pub paths : List (List ℕ)
  pub answer : Result Answer Refusal

abbrev cut : ℕ → ℕ → List (List ℕ) → Result Answer Refusal → CutVector
cut r n ps a = record { role = r; neighbour = n; paths = ps; answer = a }

-- O first. Then a run over three ends, in the midst of which two sequences vanish; one that ends at a sequence's end; the places of a path cut so;
-- and a number that comes back after another, which is no run.
abbrev pub cut_vectors : List CutVector
cut_vectors =
    cut 1 20 ((20 ∷ []) ∷ (20 ∷ 10 ∷ []) ∷ []) (plain Valid)
    ∷ cut 1 20 ((20 ∷ 20 ∷ []) ∷ (20 ∷ []) ∷ (20 ∷ 20 ∷ []) ∷ (20 ∷ 10 ∷ []) ∷ []) (plain Valid)
    ∷ cut 1 20 ((20 ∷ 10 ∷ []) ∷ (10 ∷ []) ∷ []) (plain Valid)
    ∷ cut 3 20 ((20 ∷ []) ∷ (20 ∷ 10 ∷ []) ∷ (10 ∷ 30 ∷ []) ∷ []) (gapped (Unknown 1 3) (pos 2))
    ∷ cut 3 20 ((20 ∷ 10 ∷ []) ∷ (20 ∷ 10 ∷ []) ∷ []) (gapped (Invalid (ByHops 3 3 (Two Public Public))) (pos 2))
    ∷ []

abbrev pub wanted_cut : CutVector → Result Answer Refusal
wanted_cut v = v.answer

abbrev pub given_cut : CutVector → Result Answer Refusal
given_cut v = judged_route (hop_over register_d []) v.role v.neighbour (sequences v.paths)

pub starred_cut : map given_cut cut_vectors ≡ map wanted_cut cut_vectors
unfolding judged_route first_given content_of number_at numbers_at starts_from starts segments numbers_fault segment_fault fault_among first_fault has_set ground_of numbers_in runs_after merge_runs merged_path lowest highest climb descend is_in attested united list_of hop_of hop_over upstream downstream judged bytes
starred_cut = refl

-- Vector A's attribute, byte by byte.
pub attribute_a : sequence (20 ∷ 10 ∷ []) ≡ 2 ∷ 2 ∷ 0 ∷ 0 ∷ 0 ∷ 20 ∷ 0 ∷ 0 ∷ 0 ∷ 10 ∷ []
unfolding bytes
attribute_a = refl

-- ---- the edges, over an empty register

unfoldable pub repeated : {A : Type 0} → ℕ → List A → List A
repeated zero l = []
repeated (suc n) l = l ++ repeated n l

-- n segments of the numbers 20 and 30, and what follows them. No number stands beside itself.
abbrev pub pair : List ℕ
pair = sequence (20 ∷ 30 ∷ [])

abbrev pub pairs_then : List ℕ → List ℕ
pairs_then rest = repeated (most_numbers / 2) pair ++ rest

-- Two segments, of 1 and 254 numbers, that have 1,024 bytes; as often as there may be bytes, and what follows them. Merged, each is one number.
abbrev pub two : List ℕ
two = sequence (20 ∷ []) ++ sequence (replicate 254 30)

abbrev pub longest_then : List ℕ → List ℕ
longest_then rest = repeated (most_bytes / length two) two ++ rest

-- Two segments of 255 numbers, the most that one holds, and what follows them: 20 and 30 in turn.
abbrev pub full : List ℕ
full = repeated 127 (20 ∷ 30 ∷ []) ++ (20 ∷ [])

abbrev pub full_next : List ℕ
full_next = 30 ∷ repeated 127 (20 ∷ 30 ∷ [])

abbrev pub full_then : List ℕ → List ℕ
full_then rest = sequence full ++ (sequence full_next ++ rest)

abbrev pub judged_empty : List ℕ → Result Answer Refusal
judged_empty attribute = judged_route (hop_over [] []) 1 20 attribute

-- Written from the limits, and then by number (P5); proofs/Edges.antt has the proof.
pub record Edges : Type 0 where
  -- Nothing, and one byte.
  pub empty : judged_empty [] ≡ plain (Invalid (ByGround Empty))
  pub lone_byte : judged_empty (2 ∷ []) ≡ Err (Attribute CutShort 0)
  -- A path of the most numbers, and of one more.
  pub most-numbers : judged_empty (pairs_then []) ≡ plain (Unknown 2 0)
  pub one_number_more : judged_empty (pairs_then (sequence (20 ∷ []))) ≡ Err PathLength
  -- One number more that goes on with the run before it.
  pub one_repeat_more : judged_empty (pairs_then (sequence (30 ∷ []))) ≡ plain (Unknown 2 0)
  -- An attribute of the most bytes, and of one more.
  pub most-bytes : judged_empty (longest_then []) ≡ plain (Unknown 2 0)
  pub one_byte_more : judged_empty (longest_then (2 ∷ [])) ≡ Err AttributeLength
  -- The most bytes are 4,096.
  pub bytes_are : length (longest_then []) ≡ 4096
  -- 512 numbers in segments of 255, 255 and 2, and 513.
  pub full_segments : judged_empty (full_then (sequence (20 ∷ 30 ∷ []))) ≡ plain (Unknown 2 0)
  pub full_segments_more : judged_empty (full_then (sequence (20 ∷ 30 ∷ 20 ∷ []))) ≡ Err PathLength
