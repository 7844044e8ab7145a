-- The answer by the four indices, and the bounds of these. Assumes nothing.
use Prim.Native.Nat.{ℕ, ◌+◌, ◌-◌, ◌≤◌, ◌<◌}
use mathlib.Core.Path.{◌≡◌, refl}
use mathlib.Core.List.{List}
use mathlib.Core.Bool.{cond}
use native.Mathlib.Omega.{arith}
use borrow.Author.Tests.{le-leb, lt-leb}
use lib.Dec.{leb}
use lib.ListN.{length}
use lib.IntN.{ℤ, pos, ◌-ℤ◌}
use lib.Signed.{le_z}
use mir.Syntax.{w32}
use mir.Val.{SFits, of_z, to_z}
use mir.ValLaws.{to_z-of_z}
use Rattle.types.specs.declared.Origins.{Origins}
use Rattle.types.specs.declared.Cause.TheVariants.{ByHops}
use Rattle.types.specs.declared.Verdict.TheVariants.{Valid, Invalid, Unknown}
use Rattle.types.specs.declared.Answer.TheVariants.{WithGap}
use Rattle.rules.specs.Hops.{HopFunction, is_not_plus, up, down}
use Rattle.rules.specs.Verdicts.{down_cause, downstream, gap_of}
use Rattle.rules.proofs.Searching.{lowest_is, highest_is}
use Rattle.rules.proofs.Ramps.{ramp_up_is, ramp_down_is}
use Rattle.rules.proofs.Gaps.{near, far}
use Rattle.verdict.specs.declared.Ramps.{Ramps}
use Rattle.verdict.specs.Helpers.{refused_origins}
use Rattle.verdict.specs.Ramps.{ramps_of, Ramped}

-- The indices of a path of 1 number or more.
pub ramped : (hop : HopFunction) (path : List ℕ) {r : Ramps} → 1 ≤ length path → r ≡ ramps_of hop path → Ramped hop path r
ramped hop path one e =
    rw e
    (record {
      exact = refl;
      u = omega (arith, (lowest_is (λ u. is_not_plus (up hop path u)) 2 (length path - 1)).high);
      v = omega (arith, (highest_is (λ v. is_not_plus (down hop path v)) 1 (length path - 1) (omega arith)).high);
      k = (ramp_up_is hop path one).high;
      l = (ramp_down_is hop path one).high;
    })

-- The answer to a downstream role, with the gap as it is read back.
module _ {hop : HopFunction} {path : List ℕ} {r : Ramps} {g : ℤ} (found : Ramped hop path r) (f : SFits w32 g) (d : g ≡ pos r.l -ℤ pos r.k) where
  -- The indices by name.
  by_indices : WithGap (downstream hop path) (gap_of hop path)
      ≡ WithGap
      (cond (leb r.u r.v) (Invalid (down_cause hop path r.u r.v)) (cond (le_z (pos r.l -ℤ pos r.k) (pos 1)) Valid (Unknown r.k r.l)))
      (to_z w32 (of_z w32 g))
  unfolding downstream
  by_indices = rw (to_z-of_z w32 g f, d, found.exact)

  -- u at most v.
  pub judged_invalid : {os : Origins} → r.u ≤ r.v → os ≡ refused_origins hop path r.u r.v
      → WithGap (Invalid (ByHops r.u r.v os)) (to_z w32 (of_z w32 g)) ≡ WithGap (downstream hop path) (gap_of hop path)
  judged_invalid h q = rw (by_indices, le-leb r.u r.v h, q)

  -- u above v, and the gap at most 1.
  pub judged_valid : r.v < r.u → r.l ≤ r.k + 1 → WithGap Valid (to_z w32 (of_z w32 g)) ≡ WithGap (downstream hop path) (gap_of hop path)
  judged_valid h m = rw (by_indices, lt-leb r.u r.v h, near r.l r.k m)

  -- u above v, and the gap more than 1.
  pub judged_unknown : r.v < r.u → r.k + 1 < r.l → WithGap (Unknown r.k r.l) (to_z w32 (of_z w32 g)) ≡ WithGap (downstream hop path) (gap_of hop path)
  judged_unknown h m = rw (by_indices, lt-leb r.u r.v h, far r.l r.k m)
