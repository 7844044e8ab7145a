-- The two tests of a downstream verdict exclude each other, so their order is free; and every place lies on the path. Assumes nothing.
use Prim.Native.Nat.{ℕ, ◌+◌, ◌-◌, ◌≤◌, ◌<◌}
use mathlib.Core.Path.{◌≡◌, refl, sym}
use mathlib.Core.List.{List}
use mathlib.Core.Bool.{Bool, true, false, cond, true≢false}
use native.Mathlib.Omega.{arith}
use borrow.Author.Tests.{ltb-true, ltb-false, leb-true}
use lib.Dec.{ltb, leb}
use lib.ListN.{length}
use lib.IntN.{pos}
use lib.Signed.{le_z}
use Rattle.types.specs.declared.Hop.{Hop}
use Rattle.types.specs.declared.Hop.TheVariants.{NoAttestation, ProviderPlus, NotProviderPlus}
use Rattle.types.specs.declared.Verdict.{Verdict}
use Rattle.types.specs.declared.Verdict.TheVariants.{Valid, Invalid, Unknown}
use Rattle.rules.specs.Hops.{HopFunction, is_plus, is_not_plus, up, down}
use Rattle.rules.specs.Verdicts.{lowest_not_plus, lowest_unattested, highest_not_plus, ramp_up, ramp_down, gap_of, down_cause, upstream, downstream}
use Rattle.rules.specs.Laws.{Lowest, Highest, Within}
use Rattle.rules.proofs.Searching.{lowest_is, highest_is}
use Rattle.rules.proofs.Ramps.{ramp_up_is, ramp_down_is}
use Rattle.rules.proofs.Gaps.{far}

-- No hop is both Not Provider+ and Provider+.
pub one_answer {ℓ} : {X : Type ℓ} (h : Hop) → is_not_plus h ≡ true → is_plus h ≡ true → X
one_answer NoAttestation e f = absurd (true≢false (sym e))
one_answer (ProviderPlus o s) e f = absurd (true≢false (sym e))
one_answer (NotProviderPlus o) e f = absurd (true≢false (sym f))

-- Two tests that do not both pass may be made in either order.
pub swapped : (s t : Bool) (x y z : Verdict) → (s ≡ true → t ≡ false) → cond s x (cond t y z) ≡ cond t y (cond s x z)
swapped true t x y z f = rw (f refl)
swapped false t x y z f = refl

module _ (hop : HopFunction) (path : List ℕ) (one : 1 ≤ length path) where
  -- u, as the lowest.
  u_is : Lowest (λ u. is_not_plus (up hop path u)) 2 (length path - 1) (lowest_not_plus hop path)
  u_is = lowest_is _ 2 (length path - 1)

  -- v, as the highest.
  v_is : Highest (λ v. is_not_plus (down hop path v)) 1 (length path - 1) (highest_not_plus hop path)
  v_is = highest_is _ 1 (length path - 1) (omega arith)

  -- u lies above the up-ramp.
  pub u_above : ramp_up hop path < lowest_not_plus hop path
  u_above = go (ltb (ramp_up hop path) (lowest_not_plus hop path)) refl
    where
      go : (b : Bool) → ltb (ramp_up hop path) (lowest_not_plus hop path) ≡ b → ramp_up hop path < lowest_not_plus hop path
      go true e = ltb-true _ _ e
      go false e =
          let h : lowest_not_plus hop path ≤ ramp_up hop path = ltb-false _ _ e in
          let z : lowest_not_plus hop path - 1 + 1 ≡ lowest_not_plus hop path = omega (arith, u_is.low) in
          one_answer (up hop path (lowest_not_plus hop path))
          (u_is.passes (omega (arith, (ramp_up_is hop path one).high)))
          (rw z at ((ramp_up_is hop path one).plus (lowest_not_plus hop path - 1) (omega (arith, u_is.low)) (omega (arith, u_is.low))))

  -- v lies below the down-ramp.
  pub v_below : highest_not_plus hop path < ramp_down hop path
  v_below = go (ltb (highest_not_plus hop path) (ramp_down hop path)) refl
    where
      go : (b : Bool) → ltb (highest_not_plus hop path) (ramp_down hop path) ≡ b → highest_not_plus hop path < ramp_down hop path
      go true e = ltb-true _ _ e
      go false e =
          let h : ramp_down hop path ≤ highest_not_plus hop path = ltb-false _ _ e in
          one_answer (down hop path (highest_not_plus hop path))
          (v_is.passes (omega (arith, (ramp_down_is hop path one).low)))
          ((ramp_down_is hop path one).plus (highest_not_plus hop path) h (omega (arith, v_is.high)))

  -- Where u is at most v, the ramps leave a gap of more than one: a path is never both Invalid and Valid.
  pub not_both : lowest_not_plus hop path ≤ highest_not_plus hop path → le_z (gap_of hop path) (pos 1) ≡ false
  not_both h = far (ramp_down hop path) (ramp_up hop path) (omega (arith, u_above, v_below))

  -- So the test of the gap may come before that of u and v.
  pub either_order :
      downstream hop path
      ≡ cond (le_z (gap_of hop path) (pos 1)) Valid
      (cond (leb (lowest_not_plus hop path) (highest_not_plus hop path)) (Invalid (down_cause hop path (lowest_not_plus hop path) (highest_not_plus hop path)))
      (Unknown (ramp_up hop path) (ramp_down hop path)))
  unfolding downstream
  either_order = swapped _ _ _ _ _ (λ e. not_both (leb-true _ _ e))

  -- The places of a verdict, u, v, K or L, are indices of the path or 0.
  pub places_within : Within (length path) (upstream hop path) × Within (length path) (downstream hop path)
  unfolding upstream downstream
  places_within = (above _ _ refl refl, below _ _ refl refl)
    where
      above : (s t : Bool) → leb (lowest_not_plus hop path) (length path) ≡ s → leb (lowest_unattested hop path) (length path) ≡ t
          → Within (length path) (upstream hop path)
      above true t e f = rw e (record { a = leb-true _ _ e; b = omega arith })
      above false true e f = rw (e, f) (record { a = leb-true _ _ f; b = omega arith })
      above false false e f = rw (e, f) (record { a = omega arith; b = omega arith })

      below : (s t : Bool) → leb (lowest_not_plus hop path) (highest_not_plus hop path) ≡ s → le_z (gap_of hop path) (pos 1) ≡ t
          → Within (length path) (downstream hop path)
      below true t e f =
          let h : lowest_not_plus hop path ≤ highest_not_plus hop path = leb-true _ _ e in
          rw e (record { a = omega (arith, v_is.high); b = omega (arith, v_is.high) })
      below false true e f = rw (e, f) (record { a = omega arith; b = omega arith })
      below false false e f = rw (e, f) (record { a = (ramp_up_is hop path one).high; b = (ramp_down_is hop path one).high })
