-- The draft's procedure gives the answer of the rules: verdict, places, gap and ground. Assumes nothing.
use Prim.Native.Nat.{ℕ, zero, suc, ◌+◌, ◌-◌, ◌≤◌, ◌<◌}
use mathlib.Core.Path.{◌≡◌, refl, sym, ◌∙◌, ap}
use mathlib.Core.List.{List, [], ◌∷◌}
use mathlib.Core.Bool.{Bool, true, false, cond, ◌&&◌}
use native.Mathlib.Omega.{arith}
use borrow.Author.Tests.{ltb-true, ltb-false, leb-true, le-leb, lt-leb, eqb-true}
use lib.Dec.{ltb, leb, eqb}
use lib.ListN.{length}
use Rattle.types.specs.declared.Ground.TheVariants.{NotNeighbour, AsSet}
use Rattle.types.specs.declared.Verdict.TheVariants.{Valid}
use Rattle.types.specs.declared.Answer.{Answer}
use Rattle.as_path.specs.Segments.{number_bytes, Segment, segments}
use Rattle.as_path.specs.Grounds.{is_not_neighbour, has_set, ground_of}
use Rattle.as_path.specs.Merging.{numbers_in, runs_after, merge_runs, merged_path}
use Rattle.as_path.proofs.Contents.{merged_means, content_ground}
use Rattle.as_path.proofs.MergedPaths.{merged_first}
use Rattle.rules.specs.Hops.{HopFunction, is_plus, is_not_plus, is_unattested, up, lowest}
use Rattle.rules.specs.Verdicts.{ramp_up, ramp_down, gap_of, upstream, downstream, judged}
use Rattle.rules.specs.Judging.{judged_route}
use Rattle.rules.specs.Draft.{some, each, largest_k, smallest_l, draft_gap, draft_upstream, draft_downstream, draft_judged, on_ground, collapsed, draft_route}
use Rattle.rules.specs.Laws.{RampUp, RampDown}
use Rattle.rules.proofs.Searching.{lowest_is, highest_is, lowest_only, highest_only}
use Rattle.rules.proofs.Ramps.{ramp_up_is, ramp_down_is}
use Rattle.rules.proofs.Gaps.{near}
use Rattle.rules.proofs.Orders.{either_order}
use Rattle.rules.proofs.Judges.{Judgement, on-ground, on_path, answered}
use Rattle.std.specs.Prelude.{None, Ok, Option, Some}
use Rattle.types.specs.declared.Ground.{Ground}

-- Some index of i..m passes where the lowest that passes is at most m.
pub some_is : (test : ℕ → Bool) (i n m : ℕ) → i + n ≡ suc m → some test i n ≡ leb (lowest test i n) m
unfolding some lowest
some_is test i zero m z = sym (lt-leb i m (omega arith))
some_is test i (suc n) m z = go (some_is test (i + 1) n m (omega arith)) (test i) refl
  where
    go : some test (i + 1) n ≡ leb (lowest test (i + 1) n) m → (b : Bool) → test i ≡ b → some test i (suc n) ≡ leb (lowest test i (suc n)) m
    go ih true e = rw e (sym (le-leb i m (omega arith)))
    go ih false e = rw e ih

-- Each index of a range passes where every one of them does.
pub each_yes : (test : ℕ → Bool) (i n : ℕ) → ((j : ℕ) → i ≤ j → j < i + n → test j ≡ true) → each test i n ≡ true
unfolding each
each_yes test i zero f = refl
each_yes test i (suc n) f =
    rw (f i (omega arith) (omega arith), each_yes test (i + 1) n (λ j a b. f j (omega arith) (omega arith)))

-- And not where one of them fails.
pub each_no : (test : ℕ → Bool) (i n j : ℕ) → i ≤ j → j < i + n → test j ≡ false → each test i n ≡ false
unfolding each
each_no test i zero j a b f = absurd (omega arith)
each_no test i (suc n) j a b f = go (each_no test (i + 1) n j) (ltb i j) refl
  where
    and-false : (t : Bool) → t && false ≡ false
    and-false true = refl
    and-false false = refl

    go : (i + 1 ≤ j → j < i + 1 + n → test j ≡ false → each test (i + 1) n ≡ false)
        → (c : Bool) → ltb i j ≡ c → each test i (suc n) ≡ false
    go ih true l = rw (ih (omega (arith, ltb-true i j l)) (omega arith) f) (and-false (test i))
    go ih false l =
        let z : i ≡ j = omega (arith, ltb-false i j l) in
        rw (z, f)

module _ (hop : HopFunction) (path : List ℕ) (one : 1 ≤ length path) where
  -- The draft's K of step 5 is the end of the climb.
  pub largest_is : largest_k hop path ≡ ramp_up hop path
  largest_is =
      let k : RampUp hop path (ramp_up hop path) = ramp_up_is hop path one in
      highest_only (omega arith) (highest_is _ 2 (length path - 1) (omega arith))
      (record {
        low = omega arith;
        high = omega arith;
        passes = λ h. each_yes _ 2 (ramp_up hop path - 1) (λ j a b. at j a (omega arith));
        last = λ j a b. each_no _ 2 (j - 1) (ramp_up hop path + 1) (omega arith) (omega arith) (k.ends (omega arith));
      })
    where
      at : (i : ℕ) → 2 ≤ i → i ≤ ramp_up hop path → is_plus (up hop path i) ≡ true
      at i a b =
          let z : i - 1 + 1 ≡ i = omega arith in
          rw z at ((ramp_up_is hop path one).plus (i - 1) (omega arith) (omega arith))

  -- The draft's L of step 6 is the end of the descent.
  pub smallest_is : smallest_l hop path ≡ ramp_down hop path
  smallest_is =
      let l : RampDown hop path (ramp_down hop path) = ramp_down_is hop path one in
      lowest_only (lowest_is _ 1 (length path - 1))
      (record {
        low = l.low;
        high = omega arith;
        passes = λ h. each_yes _ (ramp_down hop path) (length path - ramp_down hop path) (λ j a b. l.plus j a (omega arith));
        first = λ j a b. each_no _ j (length path - j) (ramp_down hop path - 1) (omega arith) (omega arith) (l.ends (omega arith));
      })

  -- L - K of step 7 is the gap.
  pub draft-gap : gap_of hop path ≡ draft_gap hop path
  draft-gap = rw (largest_is, smallest_is)

  -- Section 6.1, steps 3 to 5, gives the upstream verdict.
  pub draft-upstream : upstream hop path ≡ draft_upstream hop path
  unfolding draft_upstream upstream
  draft-upstream = go (eqb (length path) 1) refl
    where
      beyond : (test : ℕ → Bool) → length path ≡ 1 → leb (lowest test 2 (length path - 1)) (length path) ≡ false
      beyond test z = lt-leb (lowest test 2 (length path - 1)) (length path) (omega (arith, (lowest_is test 2 (length path - 1)).low))

      go : (b : Bool) → eqb (length path) 1 ≡ b → upstream hop path ≡ draft_upstream hop path
      go true e =
          let z : length path ≡ 1 = eqb-true _ _ e in
          rw (e, beyond (λ u. is_not_plus (up hop path u)) z, beyond (λ u. is_unattested (up hop path u)) z)
      go false e =
          rw (
            e,
            some_is (λ u. is_not_plus (up hop path u)) 2 (length path - 1) (length path) (omega arith),
            some_is (λ u. is_unattested (up hop path u)) 2 (length path - 1) (length path) (omega arith),
          )

  -- A path of at most two is Valid downstream: K is at least 1 and L at most 2.
  pub short_valid : length path ≤ 2 → downstream hop path ≡ Valid
  short_valid h =
      let k : RampUp hop path (ramp_up hop path) = ramp_up_is hop path one in
      let l : RampDown hop path (ramp_down hop path) = ramp_down_is hop path one in
      rw (either_order hop path one, near (ramp_down hop path) (ramp_up hop path) (omega arith))

  -- Section 6.2.2, steps 3 to 7, gives the downstream verdict: u_min, v_max, K and L are its places.
  pub draft-downstream : downstream hop path ≡ draft_downstream hop path
  unfolding draft_downstream downstream
  draft-downstream = go (leb (length path) 2) refl
    where
      go : (b : Bool) → leb (length path) 2 ≡ b → downstream hop path ≡ draft_downstream hop path
      go true e = rw e (short_valid (leb-true _ _ e))
      go false e = rw (e, largest_is, smallest_is)

-- The answer for a path is the draft's, in every role.
pub draft-judged : (hop : HopFunction) (path : List ℕ) (role : ℕ) → 1 ≤ length path → judged hop path role ≡ draft_judged hop path role
unfolding judged draft_judged
draft-judged hop path role one = rw (draft-upstream hop path one, draft-downstream hop path one, draft-gap hop path one)

-- The draft's collapsing is the merging of runs: after its first number,
collapsed_after : (x : ℕ) (l : List ℕ) → collapsed (x ∷ l) ≡ x ∷ runs_after x l
unfolding collapsed runs_after
collapsed_after x [] = refl
collapsed_after x (y ∷ l) = rw (collapsed_after y l) (go (eqb y x) refl)
  where
    go : (b : Bool) → eqb y x ≡ b → cond b (y ∷ runs_after y l) (x ∷ y ∷ runs_after y l) ≡ x ∷ cond b (runs_after x l) (y ∷ runs_after y l)
    go true e = ap (λ z. z ∷ runs_after z l) (eqb-true y x e)
    go false e = refl

-- and of a whole list.
pub collapsed_merged : (l : List ℕ) → collapsed l ≡ merge_runs l
unfolding collapsed merge_runs
collapsed_merged [] = refl
collapsed_merged (x ∷ l) = collapsed_after x l

-- What is answered by the ground, if there is one.
abbrev unless_ground : Option Ground → Answer → Answer
unless_ground (Some g) a = on_ground g
unless_ground None a = a

-- The draft's procedure up to step 2 goes by the grounds of the rules.
by_ground : (hop : HopFunction) (role neighbour : ℕ) (ss : List Segment)
    → draft_route hop role neighbour ss ≡ unless_ground (ground_of role neighbour ss) (draft_judged hop (merged_path ss) role)
unfolding draft_route ground_of merged_path
by_ground hop role neighbour [] = refl
by_ground hop role neighbour (s ∷ ss) = rw (collapsed_merged (numbers_in (s ∷ ss))) (go (is_not_neighbour role neighbour s) (has_set (s ∷ ss)) _)
  where
    go : (b c : Bool) (x : Answer)
        → cond b (on_ground NotNeighbour) (cond c (on_ground AsSet) x) ≡ unless_ground (cond b (Some NotNeighbour) (cond c (Some AsSet) None)) x
    go true c x = refl
    go false true x = refl
    go false false x = refl

-- What a judging answers is the draft's answer to the segments of the attribute.
pub draft-route : (hop : HopFunction) (role neighbour : ℕ) (attribute : List ℕ) (a : Answer)
    → judged_route hop role neighbour attribute ≡ Ok a → draft_route hop role neighbour (segments number_bytes attribute) ≡ a
draft-route hop role neighbour attribute a e = by_ground hop role neighbour (segments number_bytes attribute) ∙ go (answered hop role neighbour attribute a e)
  where
    ss : List Segment
    ss = segments number_bytes attribute

    go : Judgement hop role neighbour attribute → unless_ground (ground_of role neighbour ss) (draft_judged hop (merged_path ss) role) ≡ a
    go (on-ground g c j) =
        let f : Ok (on_ground g) ≡ Ok a = sym j ∙ e in
        let z : on_ground g ≡ a = cc in
        rw ((content_ground role neighbour attribute _ _ refl refl).0 g c) z
    go (on_path path c short j) =
        let f : Ok (judged hop path role) ≡ Ok a = sym j ∙ e in
        let z : judged hop path role ≡ a = cc in
        let m = merged_means role neighbour attribute path c in
        let n = merged_first number_bytes attribute m.clean m.some in
        rw ((content_ground role neighbour attribute _ _ refl refl).1 path c) (sym (draft-judged hop (merged_path ss) role n.0) ∙ rw m.same at z)
