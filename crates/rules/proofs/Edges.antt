-- The edges that the rules name, by the law that what follows bytes without a fault is read as by itself. Assumes nothing.
use Prim.Native.Nat.{ℕ, zero, suc, ◌+◌, ◌-◌, ◌*◌, ◌/◌}
use mathlib.Core.Path.{◌≡◌, refl, ◌∙◌, ap}
use mathlib.Core.Bool.{Bool, true, false, ◌||◌}
use mathlib.Core.List.{List, [], ◌∷◌, ◌++◌}
use native.Mathlib.Omega.{arith}
use lib.Dec.{ltb, eqb}
use lib.ListN.{length, replicate, length-append}
use Rattle.types.specs.declared.Refusal.TheVariants.{AttributeLength}
use Rattle.types.specs.Roles.{is_role}
use Rattle.types.specs.Rows.{first_given}
use Rattle.as_path.specs.Segments.{starts_from, starts, Segment, segments}
use Rattle.as_path.specs.Faults.{segment_fault, fault_among, first_fault}
use Rattle.as_path.specs.Grounds.{has_set, is_not_neighbour, ground_of}
use Rattle.as_path.specs.Merging.{numbers_in, runs_after, merge_runs, merged_path}
use Rattle.as_path.specs.Reading.{most_numbers, merged, content_of}
use Rattle.as_path.proofs.Contents.{content_merged}
use Rattle.as_path.proofs.MergedPaths.{numbers_append}
use Rattle.rules.specs.Hops.{HopFunction, lowest, highest, climb, descend}
use Rattle.rules.specs.Records.{is_in, attested, united, list_of, hop_of, hop_over}
use Rattle.rules.specs.Verdicts.{upstream, downstream, judged}
use Rattle.rules.specs.Judging.{most_bytes, answer_to, judged_route}
use Rattle.rules.specs.Vectors.{bytes, sequence, repeated, pair, pairs_then, two, longest_then, full, full_next, full_then, judged_empty, Edges}
use Rattle.rules.proofs.Sequences.{Read, ones, none_read, read_then, sequence_read}
use Rattle.std.specs.Prelude.{Err}

pub length_repeated : (n : ℕ) (l : List ℕ) → length (repeated n l) ≡ n * length l
unfolding repeated
length_repeated zero l = omega arith
length_repeated (suc n) l = length-append l (repeated n l) ∙ omega (arith, length_repeated n l)

pub length_then : (n : ℕ) (l c : List ℕ) → length (repeated n l ++ c) ≡ n * length l + length c
length_then n l c = length-append (repeated n l) c ∙ ap (λ k. k + length c) (length_repeated n l)

-- Bytes, repeated, are read as their segments, repeated.
repeated_read : (n : ℕ) (b : List ℕ) (ss : List Segment) → Read b ss → Read (repeated n b) (repeated n ss)
unfolding repeated
repeated_read zero b ss r = none_read
repeated_read (suc n) b ss r = read_then b (repeated n b) ss (repeated n ss) r (repeated_read n b ss r)

repeated_numbers : (n : ℕ) (ss : List Segment) → numbers_in (repeated n ss) ≡ repeated n (numbers_in ss)
unfolding repeated numbers_in
repeated_numbers zero ss = refl
repeated_numbers (suc n) ss = numbers_append ss (repeated n ss) ∙ ap (λ l. numbers_in ss ++ l) (repeated_numbers n ss)

set_append : (ss ts : List Segment) → has_set ss ≡ false → has_set ts ≡ false → has_set (ss ++ ts) ≡ false
unfolding has_set
set_append [] ts e f = f
set_append (s ∷ ss) ts e f = go (eqb s.kind 1) (set_append ss ts) e
  where
    go : (b : Bool) → (has_set ss ≡ false → has_set ts ≡ false → has_set (ss ++ ts) ≡ false) → b || has_set ss ≡ false → b || has_set (ss ++ ts) ≡ false
    go true ih e = e
    go false ih e = ih e f

repeated_set : (n : ℕ) (ss : List Segment) → has_set ss ≡ false → has_set (repeated n ss) ≡ false
unfolding repeated has_set
repeated_set zero ss e = refl
repeated_set (suc n) ss e = set_append ss (repeated n ss) e (repeated_set n ss e)

-- What sequences are read as of which the first begins with 20,
read_content : (role : ℕ) (a : List ℕ) (s : Segment) (ss : List Segment) → Read a (s ∷ ss) → is_not_neighbour role 20 s ≡ false → has_set (s ∷ ss) ≡ false
    → content_of role 20 a ≡ merged (merge_runs (numbers_in (s ∷ ss)))
unfolding ground_of merged_path
read_content role a s ss r g h = content_merged role 20 a r.0 (ap (ground_of role 20) r.1 ∙ rw (g, h)) ∙ ap (λ l. merged (merged_path l)) r.1

-- and what such sequences, repeated, and then others.
repeated_content : (role n : ℕ) (b : List ℕ) (s : Segment) (ss : List Segment) (c : List ℕ) (cs : List Segment)
    → Read b (s ∷ ss) → is_not_neighbour role 20 s ≡ false → has_set (s ∷ ss) ≡ false → Read c cs → has_set cs ≡ false
    → content_of role 20 (repeated (suc n) b ++ c) ≡ merged (merge_runs (repeated (suc n) (numbers_in (s ∷ ss)) ++ numbers_in cs))
unfolding repeated
repeated_content role n b s ss c cs r g h t k =
    read_content role (repeated (suc n) b ++ c) s ((ss ++ repeated n (s ∷ ss)) ++ cs)
    (read_then (repeated (suc n) b) c (repeated (suc n) (s ∷ ss)) cs (repeated_read (suc n) b (s ∷ ss) r) t) g
    (set_append (repeated (suc n) (s ∷ ss)) cs (repeated_set (suc n) (s ∷ ss) h) k)
    ∙ ap (λ l. merged (merge_runs l))
    (numbers_append (repeated (suc n) (s ∷ ss)) cs ∙ ap (λ l. l ++ numbers_in cs) (repeated_numbers (suc n) (s ∷ ss)))

-- What is answered for an attribute of a length and a content.
answer_by : (hop : HopFunction) (role : ℕ) (attribute : List ℕ) (n : ℕ) (path : List ℕ) → is_role role ≡ true → length attribute ≡ n → ltb most_bytes n ≡ false
    → content_of role 20 attribute ≡ merged path → judged_route hop role 20 attribute ≡ answer_to hop role (merged path)
unfolding judged_route first_given
answer_by hop role attribute n path r l h e = rw (r, l, h, e)

too_long : (attribute : List ℕ) (n : ℕ) → length attribute ≡ n → ltb most_bytes n ≡ true → judged_empty attribute ≡ Err AttributeLength
unfolding judged_route first_given
too_long attribute n l h = rw (l, h)

-- Pairs, and what follows them, as they are read and judged.
pub pairs_content : (role : ℕ) (c : List ℕ) (cs : List Segment) → is_not_neighbour role 20 (ones (20 ∷ 30 ∷ [])) ≡ false → Read c cs → has_set cs ≡ false
    → content_of role 20 (pairs_then c) ≡ merged (merge_runs (repeated (most_numbers / 2) (20 ∷ 30 ∷ []) ++ numbers_in cs))
unfolding has_set numbers_in is_in
pairs_content role c cs s r g = repeated_content role (most_numbers / 2 - 1) pair (ones (20 ∷ 30 ∷ [])) [] c cs (sequence_read 20 (30 ∷ []) refl) s refl r g

pub pairs_judged : (hop : HopFunction) (role : ℕ) (c : List ℕ) (cs : List Segment) → is_role role ≡ true → is_not_neighbour role 20 (ones (20 ∷ 30 ∷ [])) ≡ false
    → Read c cs → has_set cs ≡ false → ltb most_bytes (most_numbers / 2 * length pair + length c) ≡ false
    → judged_route hop role 20 (pairs_then c) ≡ answer_to hop role (merged (merge_runs (repeated (most_numbers / 2) (20 ∷ 30 ∷ []) ++ numbers_in cs)))
pairs_judged hop role c cs r s e g h =
    answer_by hop role (pairs_then c) _ _ r (length_then (most_numbers / 2) pair c) h (pairs_content role c cs s e g)

-- The same of the most bytes, which they are,
most_long : length (longest_then []) ≡ most_bytes
unfolding bytes
most_long = length_then (most_bytes / length two) two []

long_judged :
    judged_empty (longest_then []) ≡ answer_to (hop_over [] []) 1 (merged (merge_runs (repeated (most_bytes / length two) (numbers_in (ones (20 ∷ []) ∷ ones (replicate 254 30) ∷ [])) ++ [])))
unfolding has_set numbers_in bytes is_in
long_judged =
    answer_by (hop_over [] []) 1 (longest_then []) _ _ refl (length_then (most_bytes / length two) two []) refl
    (repeated_content 1 (most_bytes / length two - 1) two (ones (20 ∷ [])) (ones (replicate 254 30) ∷ []) [] []
    (read_then (sequence (20 ∷ [])) (sequence (replicate 254 30)) _ _ (sequence_read 20 [] refl) (sequence_read 30 (replicate 253 30) refl)) refl refl none_read refl)

-- and of full segments.
full_judged : (x : ℕ) (l : List ℕ) → is_in 0 (x ∷ l) ≡ false → ltb most_bytes (length (full_then (sequence (x ∷ l)))) ≡ false
    → judged_empty (full_then (sequence (x ∷ l))) ≡ answer_to (hop_over [] []) 1 (merged (merge_runs (full ++ (full_next ++ (x ∷ l ++ [])))))
unfolding has_set numbers_in repeated is_in
full_judged x l e h =
    answer_by (hop_over [] []) 1 (full_then (sequence (x ∷ l))) _ _ refl refl h
    (read_content 1 (full_then (sequence (x ∷ l))) (ones full) (ones full_next ∷ ones (x ∷ l) ∷ [])
    (read_then (sequence full) (sequence full_next ++ sequence (x ∷ l)) _ _ (sequence_read 20 _ refl)
    (read_then (sequence full_next) (sequence (x ∷ l)) _ _ (sequence_read 30 _ refl) (sequence_read x l e))) refl refl)

pub edges : Edges
unfolding bytes repeated judged_route first_given content_of starts_from starts segments segment_fault fault_among first_fault has_set ground_of numbers_in runs_after merge_runs merged_path lowest highest climb descend is_in attested united list_of hop_of hop_over upstream downstream judged
edges =
    record {
      empty = refl;
      lone_byte = refl;
      most-numbers = pairs_judged (hop_over [] []) 1 [] [] refl refl none_read refl refl ∙ refl;
      one_number_more = pairs_judged (hop_over [] []) 1 (sequence (20 ∷ [])) _ refl refl (sequence_read 20 [] refl) refl refl ∙ refl;
      one_repeat_more = pairs_judged (hop_over [] []) 1 (sequence (30 ∷ [])) _ refl refl (sequence_read 30 [] refl) refl refl ∙ refl;
      most-bytes = long_judged ∙ refl;
      one_byte_more = too_long (longest_then (2 ∷ [])) _ (length_then (most_bytes / length two) two (2 ∷ [])) refl;
      bytes_are = most_long;
      full_segments = full_judged 20 (30 ∷ []) refl refl ∙ refl;
      full_segments_more = full_judged 20 (30 ∷ 20 ∷ []) refl refl ∙ refl;
    }
