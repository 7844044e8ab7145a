-- What a merged path is. Assumes nothing.
use Prim.Native.Nat.{ℕ, zero, suc, ◌+◌, ◌<◌}
use mathlib.Core.Path.{◌≡◌, refl, sym, ◌∙◌, ap}
use mathlib.Core.Bool.{Bool, true, false, cond}
use mathlib.Core.List.{List, [], ◌∷◌, ◌++◌, map, append_assoc}
use native.Mathlib.Omega.{arith}
use native.Mathlib.Numerals.{add-one}
use borrow.Author.Tests.{eqb-false, ne_eqb}
use lib.Dec.{eqb}
use lib.ListN.{length, get_or}
use Rattle.as_path.specs.Segments.{number_at, numbers_at, count_at, starts, Segment, segment_at, segments}
use Rattle.as_path.specs.Faults.{numbers_fault, first_fault}
use Rattle.as_path.specs.Merging.{numbers_in, runs_after, merge_runs, merged_path}
use Rattle.as_path.proofs.Walking.{clean_test, left, first, next, none_left, one_more, whole_here}
use Rattle.as_path.proofs.CleanWalks.{Walked, walked}
use Rattle.as_path.proofs.CleanWalks.Walked.{done, step}
use Rattle.std.specs.Prelude.{None, Option}
use Rattle.types.specs.declared.Fault.{Fault}

-- A list without the number 0.
pub data NoZero : List ℕ → Type 0 where
  none : NoZero []
  more : {x : ℕ} {l : List ℕ} → (x ≡ 0 → ⊥) → NoZero l → NoZero (x ∷ l)

-- No element of such a list is 0.
pub no_zero_at : {l : List ℕ} → NoZero l → (i : ℕ) → i < length l → get_or l i 0 ≡ 0 → ⊥
no_zero_at none i h = absurd (omega arith)
no_zero_at (more n r) zero h = n
no_zero_at (more n r) (suc i) h = no_zero_at r i (omega arith)

-- Two such lists joined are such a list.
pub no_zero_append : {l m : List ℕ} → NoZero l → NoZero m → NoZero (l ++ m)
no_zero_append none s = s
no_zero_append (more n r) s = more n (no_zero_append r s)

-- What is left after x of a list without 0 has none.
pub no_zero_after : {l : List ℕ} → NoZero l → (x : ℕ) → NoZero (runs_after x l)
unfolding runs_after
no_zero_after none x = none
no_zero_after (more {x = y} n r) x = go (eqb y x) (no_zero_after r x) (more n (no_zero_after r y))
  where
    go : (t : Bool) {k m : List ℕ} → NoZero k → NoZero m → NoZero (cond t k m)
    go true r s = r
    go false r s = s

-- Merging runs brings in no 0.
pub no_zero_runs : {l : List ℕ} → NoZero l → NoZero (merge_runs l)
unfolding merge_runs
no_zero_runs none = none
no_zero_runs (more {x} n r) = more n (no_zero_after r x)

-- Where no number is 0, none repeats one that would stand before the first.
pub none_before : {l : List ℕ} → NoZero l → merge_runs l ≡ runs_after 0 l
unfolding merge_runs runs_after
none_before none = refl
none_before (more {x} n r) = rw (ne_eqb x 0 n)

-- Numbers without a fault are not 0.
pub no_zero_numbers : (w n : ℕ) (a : List ℕ) (p : ℕ) (rest : Option (Fault × ℕ)) → numbers_fault w n a p rest ≡ None → NoZero (numbers_at w n a p)
unfolding numbers_fault numbers_at
no_zero_numbers w zero a p rest e = none
no_zero_numbers w (suc n) a p rest e =
    let t = clean_test (eqb (number_at w a p) 0) _ _ _ e in
    more (eqb-false _ _ t.0) (no_zero_numbers w n a (p + w) rest t.1)

-- The numbers of segments one after the other.
pub numbers_append : (ss ts : List Segment) → numbers_in (ss ++ ts) ≡ numbers_in ss ++ numbers_in ts
unfolding numbers_in
numbers_append [] ts = refl
numbers_append (s ∷ ss) ts = ap (λ l. s.numbers ++ l) (numbers_append ss ts) ∙ sym (append_assoc s.numbers (numbers_in ss) (numbers_in ts))

-- Whole segments have no number 0.
pub no_zero_walked : {w : ℕ} {a : List ℕ} {p : ℕ} {ps : List ℕ} → Walked w a p ps → NoZero (numbers_in (map (segment_at w a) ps))
unfolding numbers_in
no_zero_walked (done e) = none
no_zero_walked (step s r) = no_zero_append (no_zero_numbers _ _ _ _ _ s.numbers) (no_zero_walked r)

-- The merged path of an attribute without a fault has no number 0.
pub merged_no_zero : (w : ℕ) (a : List ℕ) → first_fault w a ≡ None → (i : ℕ) → i < length (merged_path (segments w a))
    → get_or (merged_path (segments w a)) i 0 ≡ 0 → ⊥
unfolding segments merged_path
merged_no_zero w a e = no_zero_at (no_zero_runs (no_zero_walked (walked w a e)))

-- After x, the list has no two equal neighbours, nor does it begin with x.
abbrev pub NoRuns : ℕ → List ℕ → Type 0
NoRuns x l = (i : ℕ) → i < length l → get_or (x ∷ l) i 0 ≡ get_or l i 0 → ⊥

-- What is left of a list after x has no two equal neighbours, nor begins with x.
pub no_runs_after : (x : ℕ) (l : List ℕ) → NoRuns x (runs_after x l)
unfolding runs_after
no_runs_after x [] = λ i h e. absurd (omega arith)
no_runs_after x (y ∷ l) = go (no_runs_after x l) (no_runs_after y l) (eqb y x) refl
  where
    go : NoRuns x (runs_after x l) → NoRuns y (runs_after y l) → (t : Bool) → eqb y x ≡ t → NoRuns x (cond t (runs_after x l) (y ∷ runs_after y l))
    go same other true t i h e = same i h e
    go same other false t zero h e = eqb-false y x t (sym e)
    go same other false t (suc i) h e = other i (omega arith) e

-- Merged runs have no two equal neighbours.
pub merged_no_runs : (l : List ℕ) (i : ℕ) → i + 1 < length (merge_runs l) → get_or (merge_runs l) i 0 ≡ get_or (merge_runs l) (i + 1) 0 → ⊥
unfolding merge_runs
merged_no_runs [] i h e = absurd (omega arith)
merged_no_runs (x ∷ l) i h e = no_runs_after x l i (omega arith) (rw add-one at e)

-- No bytes, no segment.
pub segments_none : (w : ℕ) (a : List ℕ) → length a ≡ 0 → segments w a ≡ []
unfolding segments starts
segments_none w a e = rw (none_left (first w a) (omega arith))

-- Where there are bytes, the first segment is the one at offset 0.
pub segments_some : (w : ℕ) (a : List ℕ) → 0 < length a → segments w a ≡ segment_at w a 0 ∷ map (segment_at w a) (left (next (first w a)))
unfolding segments starts
segments_some w a h = rw (one_more (first w a) h)

-- The merged path of an attribute with bytes and without a fault is not empty, and begins with the first segment's first number.
pub merged_first : (w : ℕ) (a : List ℕ) → first_fault w a ≡ None → 0 < length a
    → (0 < length (merged_path (segments w a))) × (get_or (merged_path (segments w a)) 0 0 ≡ number_at w a 2)
unfolding first_fault starts merged_path numbers_in merge_runs numbers_at
merged_first w a e h = rw (segments_some w a h) (go (count_at a 0) (whole_here (first w a) h e).some _)
  where
    go : (n : ℕ) → (n ≡ 0 → ⊥) → (m : List ℕ)
        → (0 < length (merge_runs (numbers_at w n a 2 ++ m))) × (get_or (merge_runs (numbers_at w n a 2 ++ m)) 0 0 ≡ number_at w a 2)
    go zero s m = absurd (omega arith)
    go (suc n) s m = (omega arith, refl)
