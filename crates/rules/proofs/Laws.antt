-- The laws of verdicts, gathered. Assumes nothing.
use Prim.Native.Nat.{ℕ, ◌-◌, ◌≤◌, ◌<◌}
use mathlib.Core.Path.{◌≡◌, refl, sym, ◌∙◌, ap}
use mathlib.Core.Bool.{Bool, true, false, not, cond}
use mathlib.Core.List.{List, [], ◌∷◌}
use native.Mathlib.Omega.{arith}
use borrow.Author.Tests.{ltb-false, le-ltb}
use lib.Dec.{ltb, eqb}
use lib.IntN.{ℤ, pos, ◌-ℤ◌}
use lib.Signed.{◌≤ℤ◌}
use lib.ListN.{length}
use Rattle.types.specs.declared.Ground.{Ground}
use Rattle.types.specs.declared.Cause.TheVariants.{ByGround}
use Rattle.types.specs.declared.Verdict.TheVariants.{Invalid}
use Rattle.types.specs.declared.Answer.{Answer}
use Rattle.types.specs.declared.Answer.TheVariants.{Plain, WithGap}
use Rattle.types.specs.declared.Refusal.{Refusal}
use Rattle.types.specs.declared.Refusal.TheVariants.{RoleNumber, NeighbourZero, AttributeLength, Attribute, PathLength}
use Rattle.types.specs.Numbers.{verdict_of, answer_gap, refusal_place}
use Rattle.types.specs.Roles.{is_role, is_upstream}
use Rattle.types.specs.Rows.{row_if, first_given}
use Rattle.types.proofs.Clashes.{clash, some_not_none}
use Rattle.as_path.specs.Segments.{number_bytes, segments}
use Rattle.as_path.specs.Merging.{numbers_in, merged_path}
use Rattle.as_path.specs.Laws.{Sequences}
use Rattle.as_path.specs.Reading.{most_numbers, Content, faulty, grounded, merged, content_of}
use Rattle.as_path.proofs.Laws.{fault_laws, path_laws}
use Rattle.as_path.proofs.Contents.{merged_means, content_fault}
use Rattle.as_path.proofs.MergedPaths.{merged_first}
use Rattle.rules.specs.Hops.{HopFunction}
use Rattle.rules.specs.Verdicts.{gap_of, upstream, downstream, judged}
use Rattle.rules.specs.Judging.{most_bytes, answer_to, unless_given, judged_route}
use Rattle.rules.specs.Laws.{Within, PlaceLaws, GapLaws, AnswerLaws, DraftLaws}
use Rattle.rules.proofs.Searching.{lowest_is, highest_is, lowest_only, highest_only}
use Rattle.rules.proofs.Ramps.{ramp_up_is, ramp_up_only, ramp_down_is, ramp_down_only}
use Rattle.rules.proofs.Gaps.{gap_low, gap_high, gap_least, gap_most}
use Rattle.rules.proofs.Orders.{not_both, either_order, places_within}
use Rattle.rules.proofs.Locality.{same_judged}
use Rattle.rules.proofs.Judges.{judged_reads, Judgement, on-ground, on_path, answered}
use Rattle.rules.proofs.Drafting.{collapsed_merged, largest_is, smallest_is, draft-upstream, draft-downstream, short_valid, draft-judged, draft-route}
use Rattle.std.specs.Prelude.{Result, Ok, Err, Some, None}

-- What holds of each route that is answered: on a ground, or by its path of at most the most numbers.
by_answer : (P : Answer → Type 0) (hop : HopFunction) (role neighbour : ℕ) (attribute : List ℕ) (a : Answer)
    → judged_route hop role neighbour attribute ≡ Ok a → ((g : Ground) → P (Plain (Invalid (ByGround g))))
    → ((path : List ℕ) → 1 ≤ length path → length path ≤ most_numbers → P (judged hop path role)) → P a
by_answer P hop role neighbour attribute a e grounds paths = go (answered hop role neighbour attribute a e)
  where
    go : Judgement hop role neighbour attribute → P a
    go (on-ground g c j) =
        let y : Ok (Plain (Invalid (ByGround g))) ≡ Ok a = sym j ∙ e in
        let z : Plain (Invalid (ByGround g)) ≡ a = cc in
        rw (← z) (grounds g)
    go (on_path path c short j) =
        let y : Ok (judged hop path role) ≡ Ok a = sym j ∙ e in
        let z : judged hop path role ≡ a = cc in
        let m = merged_means role neighbour attribute path c in
        let one : 1 ≤ length path = rw m.same (merged_first number_bytes attribute m.clean m.some).0 in
        rw (← z) (paths path one short)

-- ---- places

judged_within : (hop : HopFunction) (path : List ℕ) (role : ℕ) → 1 ≤ length path → Within (length path) (verdict_of (judged hop path role))
unfolding judged
judged_within hop path role one = go (is_upstream role)
  where
    go : (b : Bool) → Within (length path) (verdict_of (cond b (Plain (upstream hop path)) (WithGap (downstream hop path) (gap_of hop path))))
    go true = (places_within hop path one).0
    go false = (places_within hop path one).1

answered_within : (hop : HopFunction) (role neighbour : ℕ) (attribute : List ℕ) (a : Answer)
    → judged_route hop role neighbour attribute ≡ Ok a → Within most_numbers (verdict_of a)
answered_within hop role neighbour attribute a e =
    by_answer (λ a. Within most_numbers (verdict_of a)) hop role neighbour attribute a e
    (λ g. record { a = omega arith; b = omega arith })
    (λ path one short.
    let w : Within (length path) (verdict_of (judged hop path role)) = judged_within hop path role one in
    record { a = omega (arith, w.a); b = omega (arith, w.b) })

pub place_laws : PlaceLaws
place_laws =
    record {
      u_lowest = λ hop path. lowest_is _ 2 (length path - 1);
      a_lowest = λ hop path. lowest_is _ 2 (length path - 1);
      lowest_only = λ test i n r s. lowest_only;
      v_highest = λ hop path. highest_is _ 1 (length path - 1) (omega arith);
      highest_only = λ test i n r s. highest_only;
      k_ends = ramp_up_is;
      k_only = λ hop path k k'. ramp_up_only;
      l_ends = ramp_down_is;
      l_only = λ hop path l l'. ramp_down_only;
      not_both = not_both;
      either_order = either_order;
      places_within = places_within;
      answered_within = answered_within;
    }

-- ---- the gap

-- The gap of a path's answer is L - K.
answer-gap : (hop : HopFunction) (path : List ℕ) (role : ℕ) (g : ℤ) → answer_gap (judged hop path role) ≡ Some g → gap_of hop path ≡ g
unfolding judged
answer-gap hop path role g = go (is_upstream role)
  where
    go : (b : Bool) → answer_gap (cond b (Plain (upstream hop path)) (WithGap (downstream hop path) (gap_of hop path))) ≡ Some g → gap_of hop path ≡ g
    go true e = some_not_none (sym e)
    go false e = cc

-- The gap of every answer lies within the most numbers of a path less one.
answered_gap : (hop : HopFunction) (role neighbour : ℕ) (attribute : List ℕ) (a : Answer) (g : ℤ)
    → judged_route hop role neighbour attribute ≡ Ok a → answer_gap a ≡ Some g
    → ((pos 1 -ℤ pos most_numbers) ≤ℤ g) × (g ≤ℤ (pos most_numbers -ℤ pos 1))
answered_gap hop role neighbour attribute a g e =
    by_answer (λ a. answer_gap a ≡ Some g → ((pos 1 -ℤ pos most_numbers) ≤ℤ g) × (g ≤ℤ (pos most_numbers -ℤ pos 1))) hop role neighbour attribute a e
    (λ x f. some_not_none (sym f))
    (λ path one short f.
    rw (← answer-gap hop path role g f) (gap_low hop path one most_numbers short, gap_high hop path one most_numbers short))

pub gap_laws : GapLaws
gap_laws =
    record {
      least = λ hop path one. gap_low hop path one (length path) (omega arith);
      most = λ hop path one. gap_high hop path one (length path) (omega arith);
      least_reached = λ o s path one. gap_least path one o s;
      most_reached = gap_most;
      answered = answered_gap;
    }

-- ---- what an answer goes by

module _ (attribute : List ℕ) (r : Refusal) (p : ℕ) (at : refusal_place r ≡ Some p) where
  -- A refusal without a place is none of these.
  nowhere : (s : Refusal) → refusal_place s ≡ None → ◌≡◌ {A = Result Answer Refusal} (Err s) (Err r) → (p < length attribute) × (p < most_bytes)
  nowhere s n e =
      let z : s ≡ r = cc in
      clash (let y : None ≡ Some p = sym n ∙ ap refusal_place z ∙ at in cc)

  module _ (hop : HopFunction) (role neighbour : ℕ) where
    -- Rows 12 to 16, of an attribute that is not too long.
    by_content : length attribute ≤ most_bytes → (c : Content) → content_of role neighbour attribute ≡ c → answer_to hop role c ≡ Err r
        → (p < length attribute) × (p < most_bytes)
    by_content short (faulty f q) c e =
        let z : Attribute f q ≡ r = cc in
        let y : Some q ≡ Some p = ap refusal_place z ∙ at in
        let x : q ≡ p = cc in
        let h : q < length attribute = fault_laws.fault_within number_bytes attribute f q (omega arith) (content_fault role neighbour attribute f q c) in
        (omega arith, omega arith)
    by_content short (grounded g) c e = clash (cc)
    by_content short (merged path) c e = go (ltb most_numbers (length path)) e
      where
        go : (b : Bool) → cond b (Err PathLength) (Ok (judged hop path role)) ≡ Err r → (p < length attribute) × (p < most_bytes)
        go true e = nowhere PathLength refl e
        go false e = clash (cc)

    -- Rows 9 to 11 have no place.
    by_rows : (b c d : Bool) → ltb most_bytes (length attribute) ≡ d
        → unless_given (first_given (row_if b RoleNumber ∷ row_if c NeighbourZero ∷ row_if d AttributeLength ∷ []))
        (answer_to hop role (content_of role neighbour attribute)) ≡ Err r
        → (p < length attribute) × (p < most_bytes)
    unfolding first_given
    by_rows true c d t e = nowhere RoleNumber refl e
    by_rows false true d t e = nowhere NeighbourZero refl e
    by_rows false false true t e = nowhere AttributeLength refl e
    by_rows false false false t e = by_content (ltb-false _ _ t) (content_of role neighbour attribute) refl e

-- The place of a refusal is a byte of the attribute.
refused_place : (hop : HopFunction) (role neighbour : ℕ) (attribute : List ℕ) (r : Refusal) (p : ℕ)
    → judged_route hop role neighbour attribute ≡ Err r → refusal_place r ≡ Some p → (p < length attribute) × (p < most_bytes)
unfolding judged_route
refused_place hop role neighbour attribute r p e at = by_rows attribute r p at hop role neighbour (not (is_role role)) (eqb neighbour 0) _ refl e

-- The same numbers in the same order are answered alike.
cut_anyhow : (hop : HopFunction) (role neighbour : ℕ) (a b : List ℕ) → Sequences a → Sequences b → length a ≤ most_bytes → length b ≤ most_bytes
    → numbers_in (segments number_bytes a) ≡ numbers_in (segments number_bytes b) → judged_route hop role neighbour a ≡ judged_route hop role neighbour b
unfolding judged_route
cut_anyhow hop role neighbour a b s t h k e =
    rw (le-ltb most_bytes (length a) h, le-ltb most_bytes (length b) k, path_laws.cut_anyhow role neighbour a b s t e)

pub answer_laws : AnswerLaws
answer_laws =
    record {
      same_judged = λ hop hop' path. same_judged;
      judged_reads = judged_reads;
      cut_anyhow = cut_anyhow;
      refused_place = refused_place;
    }

-- ---- the draft

pub draft_laws : DraftLaws
unfolding merged_path
draft_laws =
    record {
      collapsed_merged = λ ss. collapsed_merged (numbers_in ss);
      draft-judged = draft-judged;
      draft-route = draft-route;
      draft-upstream = draft-upstream;
      draft-downstream = draft-downstream;
      short_valid = short_valid;
      u_draft = λ hop path. refl;
      v_draft = λ hop path. refl;
      k_draft = largest_is;
      l_draft = smallest_is;
    }
