-- The laws of reading an attribute, gathered. Assumes nothing.
use Prim.Native.Nat.{ℕ, zero, suc, ◌+◌, ◌-◌, ◌*◌, ◌≤◌, ◌<◌}
use mathlib.Core.Path.{◌≡◌, refl, ◌∙◌, ap}
use mathlib.Core.Bool.{cond}
use mathlib.Core.List.{List, ◌++◌}
use mathlib.Core.Logic.{◌⊎◌, inl, inr}
use native.Mathlib.Omega.{arith}
use borrow.Author.Tests.{lt-ltb, le-ltb, eq-eqb, ne_eqb}
use lib.Dec.{ltb, eqb}
use lib.ListN.{length}
use Rattle.types.specs.declared.Fault.{Fault}
use Rattle.types.specs.declared.Fault.TheVariants.{CutShort, UnknownType, Confederation, NoNumbers, ZeroNumber}
use Rattle.as_path.specs.Segments.{number_at, type_at, count_at, end_of, starts}
use Rattle.as_path.specs.Faults.{numbers_fault, segment_fault, fault_among, first_fault}
use Rattle.as_path.specs.Merging.{numbers_in, merged_path}
use Rattle.as_path.specs.Laws.{moved, PositionLaws, Meaning, Headed, FirstZero, FaultLaws, PathLaws}
use Rattle.as_path.proofs.Walking.{first, one_more}
use Rattle.as_path.proofs.Positions.{starts_append, any_position, segments_append}
use Rattle.as_path.proofs.Meanings.{fault_means}
use Rattle.as_path.proofs.MergedPaths.{merged_no_zero, merged_no_runs, merged_first}
use Rattle.as_path.proofs.Runs.{merged_beside, merged_left}
use Rattle.as_path.proofs.Storing.{merged_shorter}
use Rattle.as_path.proofs.Cuts.{cut_anyhow}
use Rattle.std.specs.Prelude.{None, Option, Some}

-- ---- positions

pub position_laws : PositionLaws
position_laws = record { any_position = any_position; starts_append = starts_append; segments_append = segments_append }

-- ---- faults

-- The offset of a fault lies within the attribute.
pub within : (w : ℕ) (a : List ℕ) (f : Fault) (p : ℕ) → 1 ≤ w → Meaning w a f p → p < length a
within w a CutShort p one m = m.0
within w a UnknownType p one m = omega (arith, m.0)
within w a Confederation p one m = omega (arith, m.0)
within w a NoNumbers p one m = omega (arith, m.0)
within w a ZeroNumber p one m = omega (arith, m.0)

-- After bytes without a fault, the first segment of what follows decides, if it has a fault.
pub at_start : (w : ℕ) (a b : List ℕ) (f : Fault) (p : ℕ) → first_fault w a ≡ None → 1 ≤ length b
    → ((x : Option (Fault × ℕ)) → segment_fault w b 0 x ≡ Some (f, p)) → first_fault w (a ++ b) ≡ Some (f, length a + p)
unfolding first_fault starts fault_among
at_start w a b f p e some h = any_position w a b e ∙ ap (moved (length a)) (ap (fault_among w b) (one_more (first w b) some) ∙ h _)

-- The same, at the segment's own start.
at_head : (w : ℕ) (a b : List ℕ) (f : Fault) → first_fault w a ≡ None → 1 ≤ length b → ((x : Option (Fault × ℕ)) → segment_fault w b 0 x ≡ Some (f, 0))
    → first_fault w (a ++ b) ≡ Some (f, length a)
at_head w a b f e some h = at_start w a b f 0 e some h ∙ ap (λ (n : ℕ). Some (f, n)) (omega arith)

-- The first of n numbers from p on that is 0.
pub zero_among : (w n : ℕ) (b : List ℕ) (p k : ℕ) (x : Option (Fault × ℕ)) → k < n → number_at w b (p + w * k) ≡ 0
    → ((j : ℕ) → j < k → number_at w b (p + w * j) ≡ 0 → ⊥) → numbers_fault w n b p x ≡ Some (ZeroNumber, p + w * k)
unfolding numbers_fault
zero_among w zero b p k x h z f = absurd (omega arith)
zero_among w (suc n) b p zero x h z f =
    let y : p + w * 0 ≡ p = omega arith in
    rw (y, eq-eqb (number_at w b p) 0 (rw y at z))
zero_among w (suc n) b p (suc k) x h z f =
    let y : p + w * suc k ≡ p + w + w * k = omega arith in
    let y₀ : p + w * 0 ≡ p = omega arith in
    rw (ne_eqb (number_at w b p) 0 (rw y₀ at (f 0 (omega arith))), y)
    (zero_among w n b (p + w) k x (omega arith) (rw y at z) (λ j l. further j l))
  where
    further : (j : ℕ) → j < k → number_at w b (p + w + w * j) ≡ 0 → ⊥
    further j l =
        let y : p + w * suc j ≡ p + w + w * j = omega arith in
        rw y at (f (suc j) (omega arith))

module _ (w : ℕ) (a b : List ℕ) (e : first_fault w a ≡ None) where
  one_byte : length b ≡ 1 → first_fault w (a ++ b) ≡ Some (CutShort, length a)
  unfolding segment_fault
  one_byte l = at_head w a b CutShort e (omega arith) (λ x. rw (lt-ltb (length b - 0) 2 (omega arith)))

  unknown_type : 2 ≤ length b → (type_at b 0 ≡ 0) ⊎ (4 < type_at b 0) → first_fault w (a ++ b) ≡ Some (UnknownType, length a)
  unfolding segment_fault
  unknown_type l (inl z) = at_head w a b UnknownType e (omega arith) (λ x. rw (le-ltb (length b - 0) 2 (omega arith), eq-eqb (type_at b 0) 0 z))
  unknown_type l (inr h) =
      at_head w a b UnknownType e (omega arith)
      (λ x. rw (le-ltb (length b - 0) 2 (omega arith), ne_eqb (type_at b 0) 0 (λ z. omega arith), lt-ltb 4 (type_at b 0) h))

  confederation : 2 ≤ length b → 2 < type_at b 0 → type_at b 0 ≤ 4 → first_fault w (a ++ b) ≡ Some (Confederation, length a)
  unfolding segment_fault
  confederation l h k =
      at_head w a b Confederation e (omega arith)
      (λ x. rw (le-ltb (length b - 0) 2 (omega arith), ne_eqb (type_at b 0) 0 (λ z. omega arith), le-ltb 4 (type_at b 0) k, lt-ltb 2 (type_at b 0) h))

  -- A head of a known type is passed on to the tests of its count and body.
  known : (x : Option (Fault × ℕ)) → 2 ≤ length b → 1 ≤ type_at b 0 → type_at b 0 ≤ 2 → segment_fault w b 0 x
      ≡ cond (eqb (count_at b 0) 0) (Some (NoNumbers, 0))
      (cond (ltb (length b) (end_of w b 0)) (Some (CutShort, 0))
      (numbers_fault w (count_at b 0) b (0 + 2) x))
  unfolding segment_fault
  known x l t k =
      rw (
        le-ltb (length b - 0) 2 (omega arith),
        ne_eqb (type_at b 0) 0 (λ z. omega arith),
        le-ltb 4 (type_at b 0) (omega arith),
        le-ltb 2 (type_at b 0) k,
      )

  no_numbers : 2 ≤ length b → 1 ≤ type_at b 0 → type_at b 0 ≤ 2 → count_at b 0 ≡ 0 → first_fault w (a ++ b) ≡ Some (NoNumbers, length a)
  no_numbers l t k z = at_head w a b NoNumbers e (omega arith) (λ x. known x l t k ∙ rw (eq-eqb (count_at b 0) 0 z) refl)

  module _ (h : Headed b) where
    body_short : length b < end_of w b 0 → first_fault w (a ++ b) ≡ Some (CutShort, length a)
    body_short s =
        at_head w a b CutShort e (omega (arith, h.head))
        (λ x. known x h.head h.typed h.known ∙ rw (ne_eqb (count_at b 0) 0 h.counted, lt-ltb (length b) (end_of w b 0) s) refl)

    zero_number : (k : ℕ) → FirstZero w b k → first_fault w (a ++ b) ≡ Some (ZeroNumber, length a + (2 + w * k))
    zero_number k z =
        at_start w a b ZeroNumber (2 + w * k) e (omega (arith, h.head))
        (λ x. known x h.head h.typed h.known
        ∙ rw (ne_eqb (count_at b 0) 0 h.counted, le-ltb (length b) (end_of w b 0) z.whole)
        (zero_among w (count_at b 0) b 2 k x z.within z.zeroed z.before))

pub fault_laws : FaultLaws
fault_laws =
    record {
      fault_means = fault_means;
      fault_within = λ w a f p one e. within w a f p one (fault_means w a f p e);
      one_byte = one_byte;
      body_short = body_short;
      unknown_type = unknown_type;
      confederation = confederation;
      no_numbers = no_numbers;
      zero_number = λ w a b k e h. zero_number w a b e h k;
    }

-- ---- the merged path

pub path_laws : PathLaws
unfolding merged_path
path_laws =
    record {
      no-zero = merged_no_zero;
      first_number = merged_first;
      no-runs = λ ss. merged_no_runs (numbers_in ss);
      cut_anyhow = cut_anyhow;
      beside_itself = merged_beside;
      left_alone = merged_left;
      shorter = λ ss. merged_shorter (numbers_in ss);
    }
