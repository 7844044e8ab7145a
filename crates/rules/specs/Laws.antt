-- What the documents say of verdicts, as statements. proofs/Laws.antt has the proof of each record.
use Rattle.std.specs.Prelude.{ℕ, ◌+◌, ◌-◌, ◌≤◌, ◌<◌, ◌≡◌, Bool, true, false, cond, List, ℤ, pos, ◌-ℤ◌, ◌≤ℤ◌, leb, length, Err, Ok, Some}
use Rattle.std.specs.Int.Signed.{le_z}
use Rattle.types.specs.declared.Origin.{Origin}
use Rattle.types.specs.declared.Hop.TheVariants.{NoAttestation, ProviderPlus}
use Rattle.types.specs.declared.Verdict.{Verdict}
use Rattle.types.specs.declared.Verdict.TheVariants.{Valid, Invalid, Unknown}
use Rattle.types.specs.declared.Answer.{Answer}
use Rattle.types.specs.declared.Refusal.{Refusal}
use Rattle.types.specs.Numbers.{place_a, place_b, verdict_of, answer_gap, refusal_place}
use Rattle.types.specs.Rows.{first_given}
use Rattle.as_path.specs.Segments.{number_bytes, Segment, segments}
use Rattle.as_path.specs.Merging.{numbers_in, merged_path}
use Rattle.as_path.specs.Reading.{most_numbers}
use Rattle.as_path.specs.Laws.{Sequences}
use Rattle.rules.specs.Hops.{HopFunction, is_plus, is_not_plus, is_unattested, as_at, up, down}
use Rattle.rules.specs.Verdicts.{lowest_not_plus, lowest_unattested, highest_not_plus, ramp_up, ramp_down, gap_of, down_cause, upstream, downstream, judged}
use Rattle.rules.specs.Judging.{most_bytes, judge_rows, judged_route, refusal_in}
use Rattle.rules.specs.Draft.{u_min, v_max, largest_k, smallest_l, draft_upstream, draft_downstream, draft_judged, collapsed, draft_route}

-- ---- u, v, K and L

-- r is the lowest of the n indices from i on that passes the test, or the one after them.
pub record Lowest (test : ℕ → Bool) (i n r : ℕ) : Type 0 where
  pub low : i ≤ r
  pub high : r ≤ i + n
  pub passes : r < i + n → test r ≡ true
  pub first : (j : ℕ) → i ≤ j → j < r → test j ≡ false

-- r is the highest of the n indices from i on that passes the test, or the one before them.
pub record Highest (test : ℕ → Bool) (i n r : ℕ) : Type 0 where
  pub low : i ≤ r + 1
  pub high : r < i + n
  pub passes : i ≤ r → test r ≡ true
  pub last : (j : ℕ) → r < j → j < i + n → test j ≡ false

-- The up-ramp reaches from AS(1) to AS(k): the hops up to k are Provider+, and the next, if there is one, is not.
pub record RampUp (hop : HopFunction) (path : List ℕ) (k : ℕ) : Type 0 where
  pub low : 1 ≤ k
  pub high : k ≤ length path
  pub plus : (i : ℕ) → 1 ≤ i → i < k → is_plus (up hop path (i + 1)) ≡ true
  pub ends : k < length path → is_plus (up hop path (k + 1)) ≡ false

-- The down-ramp reaches from AS(N) to AS(l): the hops down to l are Provider+, and the next, if there is one, is not.
pub record RampDown (hop : HopFunction) (path : List ℕ) (l : ℕ) : Type 0 where
  pub low : 1 ≤ l
  pub high : l ≤ length path
  pub plus : (j : ℕ) → l ≤ j → j < length path → is_plus (down hop path j) ≡ true
  pub ends : 1 < l → is_plus (down hop path (l - 1)) ≡ false

-- Both places of a verdict are at most n.
pub record Within (n : ℕ) (v : Verdict) : Type 0 where
  pub a : place_a v ≤ n
  pub b : place_b v ≤ n

-- Of a path of 1 number or more.
pub record PlaceLaws : Type 0 where
  -- u is the lowest index whose upward hop is Not Provider+, or N + 1, and there is one such; so for No Attestation.
  pub u_lowest : (hop : HopFunction) (path : List ℕ) → Lowest (λ u. is_not_plus (up hop path u)) 2 (length path - 1) (lowest_not_plus hop path)
  pub a_lowest : (hop : HopFunction) (path : List ℕ) → Lowest (λ u. is_unattested (up hop path u)) 2 (length path - 1) (lowest_unattested hop path)
  pub lowest_only : (test : ℕ → Bool) (i n r s : ℕ) → Lowest test i n r → Lowest test i n s → r ≡ s
  -- v is the highest index whose downward hop is Not Provider+, or 0, and there is one such.
  pub v_highest : (hop : HopFunction) (path : List ℕ) → Highest (λ v. is_not_plus (down hop path v)) 1 (length path - 1) (highest_not_plus hop path)
  pub highest_only : (test : ℕ → Bool) (i n r s : ℕ) → 1 ≤ i → Highest test i n r → Highest test i n s → r ≡ s
  -- K is where the up-ramp ends, L is where the down-ramp ends, and there is one such each.
  pub k_ends : (hop : HopFunction) (path : List ℕ) → 1 ≤ length path → RampUp hop path (ramp_up hop path)
  pub k_only : (hop : HopFunction) (path : List ℕ) (k k' : ℕ) → RampUp hop path k → RampUp hop path k' → k ≡ k'
  pub l_ends : (hop : HopFunction) (path : List ℕ) → 1 ≤ length path → RampDown hop path (ramp_down hop path)
  pub l_only : (hop : HopFunction) (path : List ℕ) (l l' : ℕ) → RampDown hop path l → RampDown hop path l' → l ≡ l'
  -- u at most v excludes L - K at most 1: a path is never both Invalid and Valid,
  pub not_both : (hop : HopFunction) (path : List ℕ) → 1 ≤ length path → lowest_not_plus hop path ≤ highest_not_plus hop path
      → le_z (gap_of hop path) (pos 1) ≡ false
  -- and the test of the gap may come before that of u and v.
  pub either_order : (hop : HopFunction) (path : List ℕ) → 1 ≤ length path
      → downstream hop path
      ≡ cond (le_z (gap_of hop path) (pos 1)) Valid
      (cond (leb (lowest_not_plus hop path) (highest_not_plus hop path)) (Invalid (down_cause hop path (lowest_not_plus hop path) (highest_not_plus hop path)))
      (Unknown (ramp_up hop path) (ramp_down hop path)))
  -- Every place is at most N.
  pub places_within : (hop : HopFunction) (path : List ℕ) → 1 ≤ length path
      → Within (length path) (upstream hop path) × Within (length path) (downstream hop path)
  -- Of every answer given for a route they are at most the most numbers of a path.
  pub answered_within : (hop : HopFunction) (role neighbour : ℕ) (attribute : List ℕ) (a : Answer)
      → judged_route hop role neighbour attribute ≡ Ok a → Within most_numbers (verdict_of a)

-- ---- the gap

pub record GapLaws : Type 0 where
  -- L - K is never below 1 - N nor above N - 1.
  pub least : (hop : HopFunction) (path : List ℕ) → 1 ≤ length path → (pos 1 -ℤ pos (length path)) ≤ℤ gap_of hop path
  pub most : (hop : HopFunction) (path : List ℕ) → 1 ≤ length path → gap_of hop path ≤ℤ (pos (length path) -ℤ pos 1)
  -- Both ends are reached at every N: where every hop is Provider+, and where no AS has a record.
  pub least_reached : (o : Origin) (s : ℕ) (path : List ℕ) → 1 ≤ length path → gap_of (λ x y. ProviderPlus o s) path ≡ pos 1 -ℤ pos (length path)
  pub most_reached : (path : List ℕ) → 1 ≤ length path → gap_of (λ x y. NoAttestation) path ≡ pos (length path) -ℤ pos 1
  -- The gap of every answer given for a route lies within the most numbers of a path less one.
  pub answered : (hop : HopFunction) (role neighbour : ℕ) (attribute : List ℕ) (a : Answer) (g : ℤ)
      → judged_route hop role neighbour attribute ≡ Ok a → answer_gap a ≡ Some g
      → ((pos 1 -ℤ pos most_numbers) ≤ℤ g) × (g ≤ℤ (pos most_numbers -ℤ pos 1))

-- ---- what an answer goes by

-- Two hop functions say the same, both ways, of every two neighbours of the path.
pub record SameHops (hop hop' : HopFunction) (path : List ℕ) : Type 0 where
  pub upward : (i : ℕ) → 1 ≤ i → i < length path → hop (as_at path i) (as_at path (i + 1)) ≡ hop' (as_at path i) (as_at path (i + 1))
  pub downward : (i : ℕ) → 1 ≤ i → i < length path → hop (as_at path (i + 1)) (as_at path i) ≡ hop' (as_at path (i + 1)) (as_at path i)

pub record AnswerLaws : Type 0 where
  -- The answer goes by the hops between neighbours of the path, and by no other.
  pub same_judged : (hop hop' : HopFunction) (path : List ℕ) → SameHops hop hop' path → (role : ℕ) → judged hop path role ≡ judged hop' path role
  -- A judging is refused exactly by the first of rows 9 to 17 that is given, and these go by the arguments alone.
  pub judged_reads : (hop : HopFunction) (role neighbour : ℕ) (attribute : List ℕ)
      → refusal_in (judged_route hop role neighbour attribute) ≡ first_given (judge_rows role neighbour attribute)
  -- The same numbers in the same order are answered alike, however they are cut into sequences of no more than the most bytes.
  pub cut_anyhow : (hop : HopFunction) (role neighbour : ℕ) (a b : List ℕ) → Sequences a → Sequences b → length a ≤ most_bytes → length b ≤ most_bytes
      → numbers_in (segments number_bytes a) ≡ numbers_in (segments number_bytes b) → judged_route hop role neighbour a ≡ judged_route hop role neighbour b
  -- The place of a refusal, which rows 12 to 16 have, is a byte of the attribute, and so below the most bytes.
  pub refused_place : (hop : HopFunction) (role neighbour : ℕ) (attribute : List ℕ) (r : Refusal) (p : ℕ)
      → judged_route hop role neighbour attribute ≡ Err r → refusal_place r ≡ Some p → (p < length attribute) × (p < most_bytes)

-- ---- the draft

pub record DraftLaws : Type 0 where
  -- A merged path is the draft's: the numbers of the segments with the prepends collapsed.
  pub collapsed_merged : (ss : List Segment) → collapsed (numbers_in ss) ≡ merged_path ss
  -- The answer for a path is the draft's, with its u_min, v_max, K, L and L - K; upstream the lowest i of its steps.
  pub draft-judged : (hop : HopFunction) (path : List ℕ) (role : ℕ) → 1 ≤ length path → judged hop path role ≡ draft_judged hop path role
  -- What is answered for an attribute is the draft's answer to its segments.
  pub draft-route : (hop : HopFunction) (role neighbour : ℕ) (attribute : List ℕ) (a : Answer)
      → judged_route hop role neighbour attribute ≡ Ok a → draft_route hop role neighbour (segments number_bytes attribute) ≡ a
  -- Section 6.1 gives the upstream verdict, N = 1 included; 6.2.2 the downstream one, N = 1 and N = 2 included, where it is Valid.
  pub draft-upstream : (hop : HopFunction) (path : List ℕ) → 1 ≤ length path → upstream hop path ≡ draft_upstream hop path
  pub draft-downstream : (hop : HopFunction) (path : List ℕ) → 1 ≤ length path → downstream hop path ≡ draft_downstream hop path
  pub short_valid : (hop : HopFunction) (path : List ℕ) → 1 ≤ length path → length path ≤ 2 → downstream hop path ≡ Valid
  -- The draft's indices are those of the rules.
  pub u_draft : (hop : HopFunction) (path : List ℕ) → u_min hop path ≡ lowest_not_plus hop path
  pub v_draft : (hop : HopFunction) (path : List ℕ) → v_max hop path ≡ highest_not_plus hop path
  pub k_draft : (hop : HopFunction) (path : List ℕ) → 1 ≤ length path → largest_k hop path ≡ ramp_up hop path
  pub l_draft : (hop : HopFunction) (path : List ℕ) → 1 ≤ length path → smallest_l hop path ≡ ramp_down hop path
