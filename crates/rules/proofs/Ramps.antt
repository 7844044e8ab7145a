-- What the two ramps are: K and L by their Provider+ hops, and by the first hop that is not. Assumes nothing.
use Prim.Native.Nat.{ℕ, zero, suc, ◌+◌, ◌-◌, ◌≤◌, ◌<◌}
use mathlib.Core.Path.{◌≡◌, refl, sym, ◌∙◌}
use mathlib.Core.List.{List}
use mathlib.Core.Bool.{Bool, true, false, not, true≢false}
use native.Mathlib.Omega.{arith}
use native.Mathlib.Nat.{add-sub_cancel}
use borrow.Author.Tests.{ltb-true, ltb-false, not-true, not-false}
use lib.Dec.{ltb}
use lib.ListN.{length}
use Rattle.rules.specs.Hops.{HopFunction, is_plus, up, down, lowest, highest, climb, descend}
use Rattle.rules.specs.Verdicts.{ramp_up, ramp_down}
use Rattle.rules.specs.Laws.{Lowest, Highest, RampUp, RampDown}
use Rattle.rules.proofs.Searching.{lowest_is, highest_is}

module _ (hop : HopFunction) (path : List ℕ) where
  -- The upward hop to AS(u) is not Provider+.
  abbrev pub up_stops : ℕ → Bool
  up_stops u = not (is_plus (up hop path u))

  -- The downward hop to AS(v) is not Provider+.
  abbrev pub down_stops : ℕ → Bool
  down_stops v = not (is_plus (down hop path v))

  -- A climb from k ends one below the first hop that is not Provider+.
  pub climb_is : (k n : ℕ) → climb hop path k n + 1 ≡ lowest up_stops (k + 1) n
  unfolding climb lowest
  climb_is k zero = refl
  climb_is k (suc n) = go (climb_is (k + 1) n) (is_plus (up hop path (k + 1))) refl
    where
      go : climb hop path (k + 1) n + 1 ≡ lowest up_stops (k + 1 + 1) n
          → (b : Bool) → is_plus (up hop path (k + 1)) ≡ b → climb hop path k (suc n) + 1 ≡ lowest up_stops (k + 1) (suc n)
      go ih true e = rw e ih
      go ih false e = rw e

  -- A descent ends one above the last hop that is not Provider+.
  pub descend_is : (n : ℕ) → descend hop path n ≡ highest down_stops 1 n + 1
  unfolding descend highest
  descend_is zero = refl
  descend_is (suc n) = go (descend_is n) (is_plus (down hop path (n + 1))) refl
    where
      go : descend hop path n ≡ highest down_stops 1 n + 1
          → (b : Bool) → is_plus (down hop path (n + 1)) ≡ b → descend hop path (suc n) ≡ highest down_stops 1 (suc n) + 1
      go ih true e =
          let z : 1 + n ≡ n + 1 = omega arith in
          rw (z, e) ih
      go ih false e =
          let z : 1 + n ≡ n + 1 = omega arith in
          rw (z, e) (omega arith)

  -- K is one below the lowest u of 2..N whose upward hop is not Provider+, or N.
  pub ramp_up_lowest : ramp_up hop path + 1 ≡ lowest up_stops 2 (length path - 1)
  ramp_up_lowest = climb_is 1 (length path - 1)

  -- L is one above the highest v of 1..N-1 whose downward hop is not Provider+, or 1.
  pub ramp_down_highest : ramp_down hop path ≡ highest down_stops 1 (length path - 1) + 1
  ramp_down_highest = descend_is (length path - 1)

  module _ (one : 1 ≤ length path) where
    -- K, the end of the climb, is where the up-ramp ends.
    pub ramp_up_is : RampUp hop path (ramp_up hop path)
    ramp_up_is =
        let found : Lowest up_stops 2 (length path - 1) (ramp_up hop path + 1) = rw ramp_up_lowest (lowest_is up_stops 2 (length path - 1)) in
        record {
          low = omega arith;
          high = omega arith;
          plus = λ i a b. not-false _ (found.first (i + 1) (omega arith) (omega arith));
          ends = λ h. not-true _ (found.passes (omega arith));
        }

    -- L, the end of the descent, is where the down-ramp ends.
    pub ramp_down_is : RampDown hop path (ramp_down hop path)
    ramp_down_is =
        let found : Highest down_stops 1 (length path - 1) (highest down_stops 1 (length path - 1)) = highest_is down_stops 1 (length path - 1) (omega arith) in
        rw ramp_down_highest
        (record {
          low = omega arith;
          high = omega arith;
          plus = λ j a b. not-false _ (found.last j (omega arith) (omega arith));
          ends = λ h. rw (add-sub_cancel (highest down_stops 1 (length path - 1)) 1) (not-true _ (found.passes (omega arith)));
        })

-- There is one K.
pub ramp_up_only : {hop : HopFunction} {path : List ℕ} {k k' : ℕ} → RampUp hop path k → RampUp hop path k' → k ≡ k'
ramp_up_only {hop} {path} x y = omega (arith, before x y, before y x)
  where
    before : {k k' : ℕ} → RampUp hop path k → RampUp hop path k' → k' ≤ k
    before {k} {k'} x y = go (ltb k k') refl
      where
        go : (b : Bool) → ltb k k' ≡ b → k' ≤ k
        go true e =
            let h : k < k' = ltb-true k k' e in
            absurd (true≢false (sym (y.plus k x.low h) ∙ x.ends (omega arith)))
        go false e = ltb-false k k' e

-- There is one L.
pub ramp_down_only : {hop : HopFunction} {path : List ℕ} {l l' : ℕ} → RampDown hop path l → RampDown hop path l' → l ≡ l'
ramp_down_only {hop} {path} x y = omega (arith, before x y, before y x)
  where
    before : {l l' : ℕ} → RampDown hop path l → RampDown hop path l' → l' ≤ l
    before {l} {l'} x y = go (ltb l l') refl
      where
        go : (b : Bool) → ltb l l' ≡ b → l' ≤ l
        go true e =
            let h : l < l' = ltb-true l l' e in
            absurd (true≢false (sym (x.plus (l' - 1) (omega arith) (omega arith)) ∙ y.ends (omega arith)))
        go false e = ltb-false l l' e
