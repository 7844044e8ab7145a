-- The draft's own procedure (draft 15, sections 6.1 and 6.2.2, which draft 16 keeps), from the segments of an attribute to a whole answer.
use Rattle.std.specs.Prelude.{ℕ, zero, suc, ◌+◌, ◌-◌, List, [], ◌∷◌, Bool, true, false, cond, ◌&&◌, ◌||◌, length, ℤ, pos, ◌-ℤ◌, leb, eqb}
use Rattle.std.specs.Int.Signed.{le_z}
use Rattle.types.specs.declared.Ground.{Ground}
use Rattle.types.specs.declared.Ground.TheVariants.{Empty, NotNeighbour, AsSet}
use Rattle.types.specs.declared.Cause.TheVariants.{ByGround}
use Rattle.types.specs.declared.Verdict.{Verdict}
use Rattle.types.specs.declared.Verdict.TheVariants.{Valid, Invalid, Unknown}
use Rattle.types.specs.declared.Answer.{Answer}
use Rattle.types.specs.declared.Answer.TheVariants.{Plain, WithGap}
use Rattle.types.specs.Roles.{is_upstream}
use Rattle.as_path.specs.Segments.{Segment}
use Rattle.as_path.specs.Grounds.{is_not_neighbour, has_set}
use Rattle.as_path.specs.Merging.{numbers_in}
use Rattle.rules.specs.Hops.{HopFunction, is_plus, is_not_plus, is_unattested, up, down, lowest, highest}
use Rattle.rules.specs.Verdicts.{up_cause, down_cause}

-- Some, or each, of the n indices from i on passes the test.
unfoldable pub some : (ℕ → Bool) → ℕ → ℕ → Bool
some test i zero = false
some test i (suc n) = test i || some test (i + 1) n

unfoldable pub each : (ℕ → Bool) → ℕ → ℕ → Bool
each test i zero = true
each test i (suc n) = test i && each test (i + 1) n

module _ (hop : HopFunction) (path : List ℕ) where
  -- Section 6.2.2, step 4: u_min, the lowest u of 2..N, or N + 1; v_max, the highest v of N-1..1, or 0.
  abbrev pub u_min : ℕ
  u_min = lowest (λ u. is_not_plus (up hop path u)) 2 (length path - 1)

  abbrev pub v_max : ℕ
  v_max = highest (λ v. is_not_plus (down hop path v)) 1 (length path - 1)

  -- Step 5: the largest K of 2..N with Provider+ at each i of 2..K, or 1.
  abbrev pub largest_k : ℕ
  largest_k = highest (λ k. each (λ i. is_plus (up hop path i)) 2 (k - 1)) 2 (length path - 1)

  -- Step 6: the smallest L of 1..N-1 with Provider+ at each j of L..N-1, or N.
  abbrev pub smallest_l : ℕ
  smallest_l = lowest (λ l. each (λ j. is_plus (down hop path j)) l (length path - l)) 1 (length path - 1)

  -- The L - K of step 7.
  abbrev pub draft_gap : ℤ
  draft_gap = pos smallest_l -ℤ pos largest_k

  -- The i that the draft's upstream steps speak of and do not name: here the lowest.
  abbrev pub lowest_up : (ℕ → Bool) → ℕ
  lowest_up test = lowest test 2 (length path - 1)

  -- Section 6.1. Step 3: N = 1. Step 4: there is an i of 2..N whose hop is Not Provider+. Step 5: there is one that is No Attestation; else Valid.
  unfoldable pub draft_upstream : Verdict
  draft_upstream =
      cond (eqb (length path) 1) Valid
      (cond (some (λ i. is_not_plus (up hop path i)) 2 (length path - 1)) (Invalid (up_cause hop path (lowest_up (λ i. is_not_plus (up hop path i)))))
      (cond (some (λ i. is_unattested (up hop path i)) 2 (length path - 1)) (Unknown (lowest_up (λ i. is_unattested (up hop path i))) 0)
      Valid))

  -- Section 6.2.2. Step 3: N at most 2. Step 4: u_min at most v_max. Step 7: L - K at most 1; else Unknown. The places are the draft's own.
  unfoldable pub draft_downstream : Verdict
  draft_downstream =
      cond (leb (length path) 2) Valid
      (cond (leb u_min v_max) (Invalid (down_cause hop path u_min v_max))
      (cond (le_z draft_gap (pos 1)) Valid
      (Unknown largest_k smallest_l)))

  -- A provider's routes and a mutual-transit neighbour's go by 6.2.2, the others by 6.1 (section 6).
  unfoldable pub draft_judged : ℕ → Answer
  draft_judged role = cond (is_upstream role) (Plain draft_upstream) (WithGap draft_downstream draft_gap)

abbrev pub on_ground : Ground → Answer
on_ground g = Plain (Invalid (ByGround g))

-- Step 2 of both procedures: prepends are collapsed in the sequences. Of equal numbers side by side one is kept; one that comes back later stays.
abbrev pub begins_with : ℕ → List ℕ → Bool
begins_with x [] = false
begins_with x (y ∷ l) = eqb y x

unfoldable pub collapsed : List ℕ → List ℕ
collapsed [] = []
collapsed (x ∷ l) = cond (begins_with x l) (collapsed l) (x ∷ collapsed l)

-- An empty path, and a first number that is not the neighbour's: section 6 calls the UPDATE in error, the rules answer Invalid (docs/DECISIONS.md).
-- Then step 1: a set anywhere. Then step 2, and the numbered steps on the path.
unfoldable pub draft_route : HopFunction → ℕ → ℕ → List Segment → Answer
draft_route hop role neighbour [] = on_ground Empty
draft_route hop role neighbour (s ∷ ss) =
    cond (is_not_neighbour role neighbour s) (on_ground NotNeighbour)
    (cond (has_set (s ∷ ss)) (on_ground AsSet)
    (draft_judged hop (collapsed (numbers_in (s ∷ ss))) role))
