-- The answer to a role by the four indices, with the gap as it is. Assumes nothing.
use Prim.Native.Nat.{ℕ, ◌+◌, ◌≤◌, ◌<◌}
use mathlib.Core.Path.{◌≡◌}
use mathlib.Core.List.{List}
use mathlib.Core.Bool.{true, false, cond}
use borrow.Author.Tests.{le-leb, lt-leb}
use lib.Dec.{leb}
use lib.IntN.{ℤ, pos, ◌-ℤ◌}
use lib.Signed.{le_z}
use Rattle.types.specs.declared.Cause.{Cause}
use Rattle.types.specs.declared.Verdict.{Verdict}
use Rattle.types.specs.declared.Verdict.TheVariants.{Valid, Invalid, Unknown}
use Rattle.types.specs.declared.Answer.TheVariants.{Plain, WithGap}
use Rattle.types.specs.Roles.{is_upstream}
use Rattle.rules.specs.Hops.{HopFunction}
use Rattle.rules.specs.Verdicts.{down_cause, upstream, downstream, judged}
use Rattle.rules.proofs.Gaps.{near, far}
use Rattle.verdict.specs.declared.Ramps.{Ramps}
use Rattle.verdict.specs.Ramps.{ramps_of}

module _ (hop : HopFunction) (path : List ℕ) (role : ℕ) where
  -- The answer to an upstream role.
  pub judged_upstream : {w : Verdict} → is_upstream role ≡ true → w ≡ upstream hop path → Plain w ≡ judged hop path role
  unfolding judged
  judged_upstream t e = rw (t, e)

  module _ {r : Ramps} {g : ℤ} (t : is_upstream role ≡ false) (e : r ≡ ramps_of hop path) (d : g ≡ pos r.l -ℤ pos r.k) where
    -- The answer to a downstream role, with the indices by name.
    by_indices :
        judged hop path role
        ≡ WithGap
        (cond (leb r.u r.v) (Invalid (down_cause hop path r.u r.v))
        (cond (le_z (pos r.l -ℤ pos r.k) (pos 1)) Valid
        (Unknown r.k r.l)))
        g
    unfolding judged downstream
    by_indices = rw (t, d, e)

    -- u at most v.
    pub judged_invalid : {k : Cause} → r.u ≤ r.v → k ≡ down_cause hop path r.u r.v → WithGap (Invalid k) g ≡ judged hop path role
    judged_invalid h q = rw (by_indices, le-leb r.u r.v h, q)

    -- u above v, and the gap at most 1.
    pub judged_valid : r.v < r.u → r.l ≤ r.k + 1 → WithGap Valid g ≡ judged hop path role
    judged_valid h m = rw (by_indices, lt-leb r.u r.v h, near r.l r.k m)

    -- u above v, and the gap more than 1.
    pub judged_unknown : r.v < r.u → r.k + 1 < r.l → WithGap (Unknown r.k r.l) g ≡ judged hop path role
    judged_unknown h m = rw (by_indices, lt-leb r.u r.v h, far r.l r.k m)
