-- The four indices of a downstream verdict, and what one hop of a pass along the path does to them.
use Rattle.std.specs.Prelude.{ℕ, ◌+◌, ◌≤◌, ◌≡◌, List, length, cond, ◌&&◌, ltb, eqb}
use Rattle.types.specs.declared.Hop.{Hop}
use Rattle.rules.specs.Hops.{HopFunction, is_plus, is_not_plus}
use Rattle.rules.specs.Verdicts.{lowest_not_plus, highest_not_plus, ramp_up, ramp_down}
use Rattle.verdict.specs.declared.Ramps.{Ramps}

abbrev pub ramps_of : HopFunction → List ℕ → Ramps
ramps_of hop path = record { u = lowest_not_plus hop path; v = highest_not_plus hop path; k = ramp_up hop path; l = ramp_down hop path }

-- Indices that are those of a path: u is at most N + 1, and the others are at most N.
pub record Ramped (hop : HopFunction) (path : List ℕ) (r : Ramps) : Type 0 where
  pub exact : r ≡ ramps_of hop path
  pub u : r.u ≤ length path + 1
  pub v : r.v ≤ length path
  pub k : r.k ≤ length path
  pub l : r.l ≤ length path

-- The hop from AS(i) to AS(i + 1), where u is above n as long as none was found: the first that is Not Provider+ sets u,
-- and one that is Provider+ lengthens the ramp that reaches AS(i).
abbrev pub after_up : Ramps → ℕ → ℕ → Hop → Ramps
after_up r n i hop =
    record {
      u = cond (is_not_plus hop && ltb n r.u) (i + 1) r.u;
      v = r.v;
      k = cond (is_plus hop && eqb r.k i) (i + 1) r.k;
      l = r.l;
    }

-- The hop from AS(i + 1) to AS(i): the last that is Not Provider+ sets v, and each that is not Provider+ ends the ramp.
abbrev pub after_down : Ramps → ℕ → Hop → Ramps
after_down r i hop = record { u = r.u; v = cond (is_not_plus hop) i r.v; k = r.k; l = cond (is_plus hop) r.l (i + 1) }
