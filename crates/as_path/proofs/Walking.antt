-- A walk over the segments, once for every loop over them: which starts are left, and what a segment without a fault shows. Assumes nothing.
use Prim.Native.Nat.{ℕ, zero, suc, pred, ◌+◌, ◌-◌, ◌≤◌, ◌<◌}
use mathlib.Core.Path.{◌≡◌, refl}
use mathlib.Core.Bool.{Bool, true, false, cond}
use mathlib.Core.List.{List, [], ◌∷◌}
use native.Mathlib.Omega.{arith}
use borrow.Author.Tests.{le-leb, lt-leb, ltb-false, eqb-false}
use lib.Dec.{ltb, eqb}
use lib.ListN.{length}
use Rattle.types.specs.declared.Fault.{Fault}
use Rattle.as_path.specs.Segments.{number_at, type_at, count_at, end_of, starts_from}
use Rattle.as_path.specs.Faults.{numbers_fault, segment_fault, fault_among}
use Rattle.std.specs.Prelude.{None, Option, Some}

-- A test whose fault was not found did not pass.
pub clean_test : (b : Bool) (f : Fault) (p : ℕ) (x : Option (Fault × ℕ)) → cond b (Some (f, p)) x ≡ None → (b ≡ false) × (x ≡ None)
clean_test true f p x e = let z : ◌≡◌ {A = ℕ} 0 1 = cc in absurd (omega arith)
clean_test false f p x e = (refl, e)

pub clean_numbers : (w n : ℕ) (xs : List ℕ) (p : ℕ) (next : Option (Fault × ℕ)) → numbers_fault w n xs p next ≡ None → next ≡ None
unfolding numbers_fault
clean_numbers w zero xs p next e = e
clean_numbers w (suc n) xs p next e =
    clean_numbers w n xs (p + w) next (clean_test (eqb (number_at w xs p) 0) _ _ _ e).1

-- What a segment at p without a fault shows.
pub record Whole (w : ℕ) (xs : List ℕ) (p : ℕ) (next : Option (Fault × ℕ)) : Type 0 where
  pub head : p + 2 ≤ length xs
  pub typed : type_at xs p ≡ 0 → ⊥
  pub known : type_at xs p ≤ 2
  pub some : count_at xs p ≡ 0 → ⊥
  pub body : end_of w xs p ≤ length xs
  pub numbers : numbers_fault w (count_at xs p) xs (p + 2) next ≡ None
  pub rest : next ≡ None

pub whole : (w : ℕ) (xs : List ℕ) (p : ℕ) (next : Option (Fault × ℕ)) → segment_fault w xs p next ≡ None → Whole w xs p next
unfolding segment_fault
whole w xs p next e =
    let t1 = clean_test (ltb (length xs - p) 2) _ _ _ e in
    let t2 = clean_test (eqb (type_at xs p) 0) _ _ _ t1.1 in
    let t3 = clean_test (ltb 4 (type_at xs p)) _ _ _ t2.1 in
    let t4 = clean_test (ltb 2 (type_at xs p)) _ _ _ t3.1 in
    let t5 = clean_test (eqb (count_at xs p) 0) _ _ _ t4.1 in
    let t6 = clean_test (ltb (length xs) (end_of w xs p)) _ _ _ t5.1 in
    let h : 2 ≤ length xs - p = ltb-false _ _ t1.0 in
    record {
      head = omega arith;
      typed = eqb-false _ _ t2.0;
      known = ltb-false _ _ t4.0;
      some = eqb-false _ _ t5.0;
      body = ltb-false _ _ t6.0;
      numbers = t6.1;
      rest = clean_numbers _ _ _ _ _ t6.1;
    }

-- A walk that has come to `at`, with enough fuel for what is left.
pub record Stand (w : ℕ) (xs : List ℕ) (at : ℕ) : Type 0 where
  pub fuel : ℕ
  pub enough : length xs ≤ at + fuel

abbrev pub left : {w : ℕ} {xs : List ℕ} {at : ℕ} → Stand w xs at → List ℕ
left {w} {xs} {at} s = starts_from s.fuel w xs at

abbrev pub first : (w : ℕ) (xs : List ℕ) → Stand w xs 0
first w xs = record { fuel = length xs; enough = omega arith }

abbrev pub next : {w : ℕ} {xs : List ℕ} {at : ℕ} → Stand w xs at → Stand w xs (end_of w xs at)
next s = record { fuel = pred s.fuel; enough = omega (arith, s.enough) }

module _ {w : ℕ} {xs : List ℕ} {at : ℕ} (s : Stand w xs at) where
  pub none_left : length xs ≤ at → left s ≡ []
  unfolding starts_from
  none_left h = go s.fuel
    where
      go : (f : ℕ) → starts_from f w xs at ≡ []
      go zero = refl
      go (suc f) = rw (le-leb (length xs) at h)

  pub one_more : at < length xs → left s ≡ at ∷ left (next s)
  unfolding starts_from
  one_more h = go s.fuel s.enough
    where
      go : (f : ℕ) → length xs ≤ at + f → starts_from f w xs at ≡ at ∷ starts_from (pred f) w xs (end_of w xs at)
      go zero e = absurd (omega arith)
      go (suc f) e = rw (lt-leb (length xs) at h)

  pub whole_here : at < length xs → fault_among w xs (left s) ≡ None → Whole w xs at (fault_among w xs (left (next s)))
  unfolding fault_among
  whole_here h e = whole w xs at _ (rw (one_more h) at e)
