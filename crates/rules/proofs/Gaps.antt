-- The gap L - K as an integer: its two cases, when it is at most one, and its range. Assumes nothing.
use Prim.Native.Nat.{ℕ, zero, suc, ◌+◌, ◌-◌, ◌≤◌, ◌<◌, ◌^◌}
use mathlib.Core.Path.{◌≡◌, refl, ap}
use mathlib.Core.Bool.{Bool, true, false}
use native.Mathlib.Omega.{arith}
use borrow.Author.Tests.{lt-ltb, le-ltb, le-leb, lt-leb, ltb-true, ltb-false}
use lib.Dec.{ltb, le→leb}
use lib.IntN.{pos, negsuc, ◌-ℤ◌}
use lib.Signed.{le_z, ◌≤ℤ◌}
use lib.ListN.{length}
use mathlib.Core.List.{List}
use mir.Syntax.{w32}
use mir.Val.{SFits}
use Rattle.types.specs.declared.Origin.{Origin}
use Rattle.types.specs.declared.Hop.TheVariants.{NoAttestation, ProviderPlus}
use Rattle.rules.specs.Hops.{HopFunction}
use Rattle.rules.specs.Verdicts.{ramp_up, ramp_down, gap_of}
use Rattle.rules.specs.Laws.{RampUp, RampDown}
use Rattle.rules.proofs.Ramps.{ramp_up_is, ramp_up_only, ramp_down_is, ramp_down_only}

-- The ramps do not overlap (K at most L): the gap is a natural number.
pub over : (l k : ℕ) → k ≤ l → pos l -ℤ pos k ≡ pos (l - k)
over l zero h = ap pos (omega arith)
over l (suc k) h = rw (le-ltb l (suc k) h)

-- They overlap (L below K): it is below zero.
pub under : (l k : ℕ) → l < k → pos l -ℤ pos k ≡ negsuc (k - suc l)
under l zero h = absurd (omega arith)
under l (suc k) h = rw (lt-ltb l (suc k) h)

-- L at most K + 1: the test of the downstream verdict, L - K at most 1, passes.
pub near : (l k : ℕ) → l ≤ k + 1 → le_z (pos l -ℤ pos k) (pos 1) ≡ true
near l k h = go (ltb l k) refl
  where
    go : (b : Bool) → ltb l k ≡ b → le_z (pos l -ℤ pos k) (pos 1) ≡ true
    go true e = rw (under l k (ltb-true l k e))
    go false e = rw (over l k (ltb-false l k e)) (le-leb (l - k) 1 (omega arith))

-- L above K + 1: it fails.
pub far : (l k : ℕ) → k + 1 < l → le_z (pos l -ℤ pos k) (pos 1) ≡ false
far l k h = rw (over l k (omega arith)) (lt-leb (l - k) 1 (omega arith))

-- An i32 holds the difference of two indices.
pub fits : (l k : ℕ) → l < 2 ^ 31 → k < 2 ^ 31 → SFits w32 (pos l -ℤ pos k)
fits l k hl hk = go (ltb l k) refl
  where
    go : (b : Bool) → ltb l k ≡ b → SFits w32 (pos l -ℤ pos k)
    go true e = rw (under l k (ltb-true l k e)) (record { sfits = omega arith })
    go false e = rw (over l k (ltb-false l k e)) (record { sfits = omega arith })

-- Two differences compare as their crosswise sums do.
pub crosswise : (l k l' k' : ℕ) → l + k' ≤ l' + k → (pos l -ℤ pos k) ≤ℤ (pos l' -ℤ pos k')
crosswise l k l' k' h = go (ltb l k) (ltb l' k') refl refl
  where
    go : (b b' : Bool) → ltb l k ≡ b → ltb l' k' ≡ b' → (pos l -ℤ pos k) ≤ℤ (pos l' -ℤ pos k')
    go true true e e' =
        let a : l < k = ltb-true l k e in
        let a' : l' < k' = ltb-true l' k' e' in
        rw (under l k a, under l' k' a') (record { le = le→leb (k' - suc l') (k - suc l) (omega arith) })
    go true false e e' = rw (under l k (ltb-true l k e), over l' k' (ltb-false l' k' e')) (record { le = tt })
    go false true e e' = absurd (omega (arith, ltb-false l k e, ltb-true l' k' e'))
    go false false e e' =
        let a : k ≤ l = ltb-false l k e in
        let a' : k' ≤ l' = ltb-false l' k' e' in
        rw (over l k a, over l' k' a') (record { le = le→leb (l - k) (l' - k') (omega arith) })

-- Of a path of at most n numbers.
module _ (hop : HopFunction) (path : List ℕ) (one : 1 ≤ length path) (n : ℕ) (few : length path ≤ n) where
  -- The gap is never below 1 - n.
  pub gap_low : (pos 1 -ℤ pos n) ≤ℤ gap_of hop path
  gap_low =
      let k : RampUp hop path (ramp_up hop path) = ramp_up_is hop path one in
      let l : RampDown hop path (ramp_down hop path) = ramp_down_is hop path one in
      crosswise 1 n (ramp_down hop path) (ramp_up hop path) (omega arith)

  -- And never above n - 1.
  pub gap_high : gap_of hop path ≤ℤ (pos n -ℤ pos 1)
  gap_high =
      let k : RampUp hop path (ramp_up hop path) = ramp_up_is hop path one in
      let l : RampDown hop path (ramp_down hop path) = ramp_down_is hop path one in
      crosswise (ramp_down hop path) (ramp_up hop path) n 1 (omega arith)

module _ (path : List ℕ) (one : 1 ≤ length path) where
  -- Where every hop is Provider+, K is N and L is 1: the least gap, at every N.
  pub gap_least : (o : Origin) (s : ℕ) → gap_of (λ x y. ProviderPlus o s) path ≡ pos 1 -ℤ pos (length path)
  gap_least o s = rw (k, l)
    where
      k : ramp_up (λ x y. ProviderPlus o s) path ≡ length path
      k = ramp_up_only (ramp_up_is (λ x y. ProviderPlus o s) path one)
          (record { low = one; high = omega arith; plus = λ i a b. refl; ends = λ h. absurd (omega arith) })

      l : ramp_down (λ x y. ProviderPlus o s) path ≡ 1
      l = ramp_down_only (ramp_down_is (λ x y. ProviderPlus o s) path one)
          (record { low = omega arith; high = one; plus = λ j a b. refl; ends = λ h. absurd (omega arith) })

  -- Where no AS has a record, K is 1 and L is N: the greatest gap, at every N.
  pub gap_most : gap_of (λ x y. NoAttestation) path ≡ pos (length path) -ℤ pos 1
  gap_most = rw (k, l)
    where
      k : ramp_up (λ x y. NoAttestation) path ≡ 1
      k = ramp_up_only (ramp_up_is (λ x y. NoAttestation) path one)
          (record { low = omega arith; high = one; plus = λ i a b. absurd (omega arith); ends = λ h. refl })

      l : ramp_down (λ x y. NoAttestation) path ≡ length path
      l = ramp_down_only (ramp_down_is (λ x y. NoAttestation) path one)
          (record { low = one; high = omega arith; plus = λ j a b. absurd (omega arith); ends = λ h. refl })
