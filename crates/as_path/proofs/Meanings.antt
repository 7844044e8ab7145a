-- What a fault says of the bytes at its offset. Assumes nothing.
use Prim.Native.Nat.{ℕ, zero, suc, ◌+◌, ◌-◌, ◌*◌, ◌≤◌, ◌<◌}
use mathlib.Core.Path.{◌≡◌, refl, ap}
use mathlib.Core.Bool.{Bool, true, false, cond}
use mathlib.Core.List.{List, [], ◌∷◌}
use mathlib.Core.Logic.{inl, inr}
use native.Mathlib.Omega.{arith}
use borrow.Author.Tests.{ltb-true, ltb-false, leb-false, eqb-true}
use lib.Dec.{leb, ltb, eqb}
use lib.ListN.{length}
use Rattle.types.specs.declared.Fault.{Fault}
use Rattle.as_path.specs.Segments.{number_at, type_at, count_at, end_of, starts_from, starts}
use Rattle.as_path.specs.Faults.{numbers_fault, segment_fault, fault_among, first_fault}
use Rattle.as_path.specs.Laws.{Meaning}
use Rattle.std.specs.Prelude.{Option, Some}

-- A fault found by a test is that test's, or it is found further on.
pub by_test : (P : Fault → ℕ → Type 0) (t : Bool) (f : Fault) (p : ℕ) (x : Option (Fault × ℕ)) {g : Fault} {q : ℕ} → cond t (Some (f, p)) x ≡ Some (g, q)
    → (t ≡ true → P f p) → (t ≡ false → x ≡ Some (g, q) → P g q) → P g q
by_test P true f p x {g} {q} e here further =
    let z : ◌≡◌ {A = Fault × ℕ} (f, p) (g, q) = cc in
    let u : f ≡ g = ap (λ (x : Fault × ℕ). x.0) z in
    let v : p ≡ q = ap (λ (x : Fault × ℕ). x.1) z in
    rw (← u, ← v) (here refl)
by_test P false f p x e here further = further refl e

module _ (w : ℕ) (a : List ℕ) (g : Fault) (q : ℕ) where
  -- A fault among the numbers of a body that is there is a number 0, or it is found further on.
  pub numbers_mean : (n p : ℕ) (x : Option (Fault × ℕ)) → p + w * n ≤ length a → (x ≡ Some (g, q) → Meaning w a g q) → numbers_fault w n a p x ≡ Some (g, q)
      → Meaning w a g q
  unfolding numbers_fault
  numbers_mean zero p x h rest e = rest e
  numbers_mean (suc n) p x h rest e =
      by_test (Meaning w a) (eqb (number_at w a p) 0) _ _ _ e
      (λ t. (omega arith, eqb-true _ _ t)) (λ t. numbers_mean n (p + w) x (omega arith) rest)

  -- A fault of the segment at p says what its test says, or it is found further on.
  pub segment_means : (p : ℕ) (x : Option (Fault × ℕ)) → p < length a → (x ≡ Some (g, q) → Meaning w a g q) → segment_fault w a p x ≡ Some (g, q)
      → Meaning w a g q
  unfolding segment_fault
  segment_means p x h rest e =
      by_test (Meaning w a) (ltb (length a - p) 2) _ _ _ e (λ t. (h, inl (omega (arith, ltb-true)))) (λ t1 e1.
      let head : 2 ≤ length a - p = ltb-false _ _ t1 in
      by_test (Meaning w a) (eqb (type_at a p) 0) _ _ _ e1 (λ t. (omega arith, inl (eqb-true _ _ t))) (λ t2 e2.
      by_test (Meaning w a) (ltb 4 (type_at a p)) _ _ _ e2 (λ t. (omega arith, inr (ltb-true _ _ t))) (λ t3 e3.
      by_test (Meaning w a) (ltb 2 (type_at a p)) _ _ _ e3 (λ t. (omega arith, ltb-true _ _ t, ltb-false _ _ t3)) (λ t4 e4.
      by_test (Meaning w a) (eqb (count_at a p) 0) _ _ _ e4 (λ t. (omega arith, eqb-true _ _ t)) (λ t5 e5.
      by_test (Meaning w a) (ltb (length a) (end_of w a p)) _ _ _ e5 (λ t. (h, inr (ltb-true _ _ t))) (λ t6.
      numbers_mean (count_at a p) (p + 2) x (ltb-false _ _ t6) rest))))))

  -- A fault found on the walk from p on says what its test says.
  pub walk_means : (f p : ℕ) → fault_among w a (starts_from f w a p) ≡ Some (g, q) → Meaning w a g q
  unfolding starts_from fault_among
  walk_means zero p e = let z : ◌≡◌ {A = ℕ} 0 1 = cc in absurd (omega arith)
  walk_means (suc f) p e = go (walk_means f (end_of w a p)) (leb (length a) p) refl e
    where
      ps : List ℕ
      ps = starts_from f w a (end_of w a p)

      go : (fault_among w a ps ≡ Some (g, q) → Meaning w a g q) → (t : Bool) → leb (length a) p ≡ t
          → fault_among w a (cond t [] (p ∷ ps)) ≡ Some (g, q) → Meaning w a g q
      go rest true t e = let z : ◌≡◌ {A = ℕ} 0 1 = cc in absurd (omega arith)
      go rest false t e = segment_means p _ (leb-false _ _ t) rest e

-- What the first fault says of the bytes at its offset.
pub fault_means : (w : ℕ) (a : List ℕ) (f : Fault) (p : ℕ) → first_fault w a ≡ Some (f, p) → Meaning w a f p
unfolding first_fault starts
fault_means w a f p e = walk_means w a f p (length a) 0 e
