-- The verdict of a path over any hop function ("Roles and hops"; draft 16, sections 5 and 6).
use Rattle.std.specs.Prelude.{ℕ, ◌-◌, List, cond, length, ℤ, pos, ◌-ℤ◌, leb}
use Rattle.std.specs.Int.Signed.{le_z}
use Rattle.types.specs.declared.Origins.TheVariants.{One, Two}
use Rattle.types.specs.declared.Cause.{Cause}
use Rattle.types.specs.declared.Cause.TheVariants.{ByHops}
use Rattle.types.specs.declared.Verdict.{Verdict}
use Rattle.types.specs.declared.Verdict.TheVariants.{Valid, Invalid, Unknown}
use Rattle.types.specs.declared.Answer.{Answer}
use Rattle.types.specs.declared.Answer.TheVariants.{Plain, WithGap}
use Rattle.types.specs.Roles.{is_upstream}
use Rattle.rules.specs.Hops.{HopFunction, is_not_plus, is_unattested, origin_of, up, down, lowest, highest, climb, descend}

module _ (hop : HopFunction) (path : List ℕ) where
  -- u: the lowest of 2..N whose upward hop is Not Provider+, or N + 1.
  abbrev pub lowest_not_plus : ℕ
  lowest_not_plus = lowest (λ u. is_not_plus (up hop path u)) 2 (length path - 1)

  abbrev pub lowest_unattested : ℕ
  lowest_unattested = lowest (λ u. is_unattested (up hop path u)) 2 (length path - 1)

  -- v: the highest of 1..N-1 whose downward hop is Not Provider+, or 0.
  abbrev pub highest_not_plus : ℕ
  highest_not_plus = highest (λ v. is_not_plus (down hop path v)) 1 (length path - 1)

  -- K: the highest index reached from AS(1) by Provider+ hops upward.
  abbrev pub ramp_up : ℕ
  ramp_up = climb hop path 1 (length path - 1)

  -- L: the lowest index reached from AS(N) by Provider+ hops.
  abbrev pub ramp_down : ℕ
  ramp_down = descend hop path (length path - 1)

  -- L - K.
  abbrev pub gap_of : ℤ
  gap_of = pos ramp_down -ℤ pos ramp_up

  -- The cause of an Invalid upstream at the hop to u, and downstream at the hops to u and v, with the register of each hop.
  abbrev pub up_cause : ℕ → Cause
  up_cause u = ByHops u 0 (One (origin_of (up hop path u)))

  abbrev pub down_cause : ℕ → ℕ → Cause
  down_cause u v = ByHops u v (Two (origin_of (up hop path u)) (origin_of (down hop path v)))

  unfoldable pub upstream : Verdict
  upstream =
      cond (leb lowest_not_plus (length path)) (Invalid (up_cause lowest_not_plus))
      (cond (leb lowest_unattested (length path)) (Unknown lowest_unattested 0)
      Valid)

  unfoldable pub downstream : Verdict
  downstream =
      cond (leb lowest_not_plus highest_not_plus) (Invalid (down_cause lowest_not_plus highest_not_plus))
      (cond (le_z gap_of (pos 1)) Valid
      (Unknown ramp_up ramp_down))

  -- The answer for a role's number: every downstream one has the gap.
  unfoldable pub judged : ℕ → Answer
  judged role = cond (is_upstream role) (Plain upstream) (WithGap downstream gap_of)
