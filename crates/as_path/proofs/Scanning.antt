-- The search for the first fault: one segment's, and the walk from segment to segment. Assumes nothing.
use Prim.Native.Nat.{ℕ, zero, suc, ◌+◌, ◌-◌, ◌*◌, ◌/◌, ◌≤◌, ◌<◌}
use mathlib.Core.Path.{◌≡◌, refl, sym, ◌∙◌, ap}
use mathlib.Core.Bool.{Bool, true, false, cond}
use mathlib.Core.List.{List}
use native.Mathlib.Omega.{arith}
use native.Mathlib.Nat.{add_assoc}
use lib.Dec.{ltb, eqb}
use lib.ListN.{length, get_or, take, drop, length-take, length-drop}
use lib.Seq.{get_or-take, get_or-drop, drop-drop}
use Rattle.types.specs.declared.Fault.{Fault}
use Rattle.types.specs.declared.Fault.TheVariants.{ZeroNumber}
use Rattle.as_path.specs.Segments.{number_bytes, number_at, numbers_at, type_at, count_at, end_of, starts}
use Rattle.as_path.specs.Faults.{numbers_fault, segment_fault, fault_among, first_fault}
use Rattle.as_path.proofs.Walking.{Whole, whole, Stand, left, first, next, none_left, one_more}
use Rattle.std.specs.Int.{w32, from_be_bytes}
use Rattle.std.specs.Prelude.{None, Option, Some}
use Rattle.std.specs.Simd.{first_chunks}

-- ---- the numbers of a part

-- The numbers of a part are the whole's, at the part's start.
pub number_part : (w : ℕ) (xs : List ℕ) (s n i : ℕ) → i + w ≤ n → number_at w (take n (drop s xs)) i ≡ number_at w xs (s + i)
unfolding number_at
number_part zero xs s n i h = refl
number_part (suc w) xs s n i h =
    rw (byte, number_part w xs s n (i + 1) (omega arith), add_assoc s i 1)
  where
    byte : get_or (take n (drop s xs)) i 0 ≡ get_or xs (s + i) 0
    byte = rw (get_or-take n (drop s xs) i 0 (omega arith), get_or-drop s xs i 0)

pub numbers_part : (w n : ℕ) (xs : List ℕ) (s m i : ℕ) → i + w * n ≤ m → numbers_at w n (take m (drop s xs)) i ≡ numbers_at w n xs (s + i)
unfolding numbers_at
numbers_part w zero xs s m i h = refl
numbers_part w (suc n) xs s m i h =
    let e : w * suc n ≡ w * n + w = omega arith in
    rw (number_part w xs s m i (omega arith), numbers_part w n xs s m (i + w) (omega arith), add_assoc s i w)

-- Part k of a list that is cut into parts of w elements.
pub chunk_at :
    {X : Type 0} (w n : ℕ) (xs : List X) (k : ℕ) (d : List X) → k < length (first_chunks w n xs)
    → get_or (first_chunks w n xs) k d ≡ take w (drop (w * k) xs)
chunk_at w zero xs k d h = absurd (omega arith)
chunk_at w (suc n) xs zero d h = let z : w * 0 ≡ 0 = omega arith in rw z refl
chunk_at w (suc n) xs (suc k) d h =
    let z : w * suc k ≡ w + w * k = omega arith in
    chunk_at w n (drop w xs) k d (omega arith) ∙ rw (z, drop-drop (w * k) w xs) refl

-- The number of four bytes, high byte first.
four_bytes : (xs : List ℕ) (p : ℕ) → from_be_bytes w32 (take number_bytes (drop p xs)) ≡ number_at number_bytes xs p
unfolding number_at
four_bytes xs p =
    let z : p + 0 ≡ p = omega arith in
    rw (byte 0 (omega arith), byte 1 (omega arith), byte 2 (omega arith), byte 3 (omega arith), add_assoc p 1 1, add_assoc p 2 1, z) (omega arith)
  where
    byte : (i : ℕ) → i < number_bytes → get_or (take number_bytes (drop p xs)) i 0 ≡ get_or xs (p + i) 0
    byte i h = rw (get_or-take number_bytes (drop p xs) i 0 h, get_or-drop p xs i 0)

-- Number k of bytes that are cut into numbers.
pub number_is :
    (bytes d : List ℕ) {k x : ℕ} {numbers : List (List ℕ)}
    → numbers ≡ first_chunks number_bytes (length bytes / number_bytes) bytes → k < length numbers → x ≡ from_be_bytes w32 (get_or numbers k d)
    → x ≡ number_at number_bytes bytes (number_bytes * k)
number_is bytes d {k} e h ex =
    ex
    ∙ ap (λ ns. from_be_bytes w32 (get_or ns k d)) e
    ∙ ap (from_be_bytes w32) (chunk_at number_bytes (length bytes / number_bytes) bytes k d (rw e at h))
    ∙ four_bytes bytes (number_bytes * k)

-- A segment's body is cut into as many numbers as its count says, and they are the attribute's.
pub segment_count :
    (xs : List ℕ) (p : ℕ) {end n : ℕ}
    → end ≡ end_of number_bytes xs p → end ≤ length xs → n ≡ length (take (end - (p + 2)) (drop (p + 2) xs)) / number_bytes → n ≡ count_at xs p
segment_count xs p {end} e fits en =
    let long : length (take (end - (p + 2)) (drop (p + 2) xs)) ≡ end - (p + 2) = simp (length-take, length-drop) (omega arith) in
    omega arith

pub segment_number :
    (xs : List ℕ) (p : ℕ) (d : List ℕ) {end k x : ℕ} {numbers : List (List ℕ)}
    → end ≡ end_of number_bytes xs p → end ≤ length xs
    → numbers ≡ first_chunks number_bytes (length (take (end - (p + 2)) (drop (p + 2) xs)) / number_bytes) (take (end - (p + 2)) (drop (p + 2) xs))
    → length numbers ≡ count_at xs p → k < length numbers → x ≡ from_be_bytes w32 (get_or numbers k d)
    → x ≡ number_at number_bytes xs (p + 2 + number_bytes * k)
segment_number xs p d {end} {k} e fits en l h ex =
    number_is _ d en h ex ∙ number_part number_bytes xs (p + 2) (end - (p + 2)) (number_bytes * k) (omega arith)

-- ---- one segment

-- Number k of n decides, or else what follows it.
pub number_decides :
    (w n : ℕ) (xs : List ℕ) (from k : ℕ) (rest : Option (Fault × ℕ)) → k < n
    → numbers_fault w (n - k) xs (from + w * k) rest
    ≡ cond (eqb (number_at w xs (from + w * k)) 0) (Some (ZeroNumber, from + w * k)) (numbers_fault w (n - (k + 1)) xs (from + w * (k + 1)) rest)
unfolding numbers_fault
number_decides w n xs from k rest h =
    let z : n - k ≡ suc (n - (k + 1)) = omega arith in
    let y : from + w * (k + 1) ≡ from + w * k + w = omega arith in
    rw (z, y)

pub none_decides :
    (w n : ℕ) (xs : List ℕ) (from k : ℕ) (rest : Option (Fault × ℕ)) → n ≤ k
    → numbers_fault w (n - k) xs (from + w * k) rest ≡ rest
unfolding numbers_fault
none_decides w n xs from k rest h =
    let z : n - k ≡ 0 = omega arith in
    rw z refl

-- A fault, or else what follows.
abbrev or : Option (Fault × ℕ) → Option (Fault × ℕ) → Option (Fault × ℕ)
or (Some f) rest = Some f
or None rest = rest

test_or :
    (b : Bool) (f : Fault × ℕ) {x : Option (Fault × ℕ)} (y rest : Option (Fault × ℕ))
    → x ≡ or y rest → cond b (Some f) x ≡ or (cond b (Some f) y) rest
test_or true f y rest e = refl
test_or false f y rest e = e

numbers_or : (w n : ℕ) (xs : List ℕ) (p : ℕ) (rest : Option (Fault × ℕ)) → numbers_fault w n xs p rest ≡ or (numbers_fault w n xs p None) rest
unfolding numbers_fault
numbers_or w zero xs p rest = refl
numbers_or w (suc n) xs p rest = test_or _ _ _ _ (numbers_or w n xs (p + w) rest)

segment_or : (w : ℕ) (xs : List ℕ) (p : ℕ) (rest : Option (Fault × ℕ)) → segment_fault w xs p rest ≡ or (segment_fault w xs p None) rest
unfolding segment_fault
segment_or w xs p rest =
    test_or (ltb (length xs - p) 2) _ _ _ (test_or (eqb (type_at xs p) 0) _ _ _ (test_or (ltb 4 (type_at xs p)) _ _ _ (test_or (ltb 2 (type_at xs p)) _ _ _
    (test_or (eqb (count_at xs p) 0) _ _ _ (test_or (ltb (length xs) (end_of w xs p)) _ _ _ (numbers_or w (count_at xs p) xs (p + 2) rest))))))

-- ---- the walk

-- What is left to find is what the definition has left.
pub record Outer (w : ℕ) (xs : List ℕ) (at : ℕ) : Type 0 where
  pub stand : Stand w xs at
  pub within : at ≤ length xs
  pub same : first_fault w xs ≡ fault_among w xs (left stand)

pub start : (w : ℕ) (xs : List ℕ) → Outer w xs 0
unfolding first_fault starts
start w xs = record { stand = first w xs; within = omega arith; same = refl }

module _ {w : ℕ} {xs : List ℕ} {p : ℕ} (o : Outer w xs p) where
  pub ends : length xs ≤ p → None ≡ first_fault w xs
  unfolding fault_among
  ends h = sym (o.same ∙ ap (fault_among w xs) (none_left o.stand h))

  module _ (h : p < length xs) where
    enter : first_fault w xs ≡ or (segment_fault w xs p None) (fault_among w xs (left (next o.stand)))
    unfolding fault_among
    enter = o.same ∙ ap (fault_among w xs) (one_more o.stand h) ∙ segment_or w xs p _

    pub found : {f : Fault × ℕ} → Some f ≡ segment_fault w xs p None → Some f ≡ first_fault w xs
    found e = sym (enter ∙ ap (λ s. or s (fault_among w xs (left (next o.stand)))) (sym e))

    module _ (e : None ≡ segment_fault w xs p None) where
      pub here : Whole w xs p None
      here = whole w xs p None (sym e)

      pub goes_on : {q : ℕ} → q ≡ end_of w xs p → Outer w xs q
      goes_on eq =
          rw eq (record {
            stand = next o.stand;
            within = here.body;
            same = enter ∙ ap (λ s. or s (fault_among w xs (left (next o.stand)))) (sym e);
          })
