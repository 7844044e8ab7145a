-- The route that Keep stores keeps the rules of a route. Assumes nothing.
use Prim.Native.Nat.{ℕ, ◌≤◌, ◌<◌}
use mathlib.Core.Path.{◌≡◌, refl, sym, ap, ◌∙◌}
use mathlib.Core.Bool.{Bool, true, false, not, cond, ◌&&◌}
use mathlib.Core.List.{List, []}
use mathlib.Core.Logic.{◌⊎◌, inl, inr}
use native.Mathlib.Omega.{arith}
use borrow.Author.Tests.{ltb-true, ltb-false, eqb-true, eqb-false, eq-eqb}
use lib.Dec.{eqb, leb, ltb}
use lib.IntN.{pos}
use lib.Signed.{le_z}
use lib.ListN.{length, get_or}
use Rattle.types.specs.declared.Ground.{Ground}
use Rattle.types.specs.declared.Ground.TheVariants.{Empty, NotNeighbour, AsSet}
use Rattle.types.specs.declared.Cause.TheVariants.{ByGround}
use Rattle.types.specs.declared.Verdict.{Verdict}
use Rattle.types.specs.declared.Verdict.TheVariants.{Valid, Invalid, Unknown}
use Rattle.types.specs.declared.Answer.TheVariants.{Plain, WithGap}
use Rattle.types.specs.Numbers.{ground_number, verdict_number, verdict_ground, place_a, place_b, verdict_of}
use Rattle.types.proofs.Clashes.{clash}
use Rattle.types.specs.Roles.{is_role, is_route_server, is_upstream}
use Rattle.types.specs.Rows.{first_given}
use Rattle.as_path.specs.Segments.{number_bytes, Segment, segments, segment_at, type_at, count_at, number_at}
use Rattle.as_path.specs.Faults.{first_fault}
use Rattle.as_path.specs.Grounds.{is_sequence, is_not_neighbour, has_set, ground_of}
use Rattle.as_path.specs.Merging.{merged_path}
use Rattle.as_path.specs.Reading.{most_numbers, grounded, merged, after_ground, after_scan, content_of}
use Rattle.as_path.proofs.MergedPaths.{segments_some, merged_no_zero, merged_first}
use Rattle.as_path.proofs.Laws.{path_laws}
use Rattle.as_path.proofs.Grounding.{first_whole, first_number, ground_empty, ground_is}
use Rattle.keyed.proofs.Orders.{above_zero}
use Rattle.keyed.proofs.Puts.{neither_left}
use Rattle.rules.specs.Hops.{HopFunction}
use Rattle.rules.specs.Verdicts.{lowest_not_plus, lowest_unattested, highest_not_plus, ramp_up, ramp_down, gap_of, upstream, downstream, judged}
use Rattle.rules.specs.Judging.{judge_rows}
use Rattle.rules.proofs.Judges.{Judgement, on-ground, on_path, judgement, judged_arguments}
use Rattle.registers.specs.Registers.{Registers, hop_in}
use Rattle.ledger.specs.Routes.{path_ok, ground_ok, route_ok}
use Rattle.ledger.specs.Calls.{route_for, stamped}
use Rattle.ledger.proofs.Laws.{route_laws}
use Rattle.rejudge.proofs.Rejudgements.{still_ok}
use Rattle.effects.specs.Calls.{Keeping, kept_route}
use Rattle.std.specs.Prelude.{None, Option, Some}
use Rattle.types.specs.declared.Fault.{Fault}

-- ---- what an attribute is read as

module _ (role neighbour : ℕ) (attribute : List ℕ) where
  -- A route server's first number is not compared with the neighbour.
  spared : is_route_server role ≡ true → (s : Segment) → is_not_neighbour role neighbour s ≡ false
  spared e s = rw e (go (is_sequence s) (eqb (get_or s.numbers 0 0) neighbour))
    where
      go : (b c : Bool) → (b && not true && not c) ≡ false
      go true c = refl
      go false c = refl

  -- A first sequence that passes the check begins with the neighbour, unless it is a route server's.
  begins : (s : Segment) → is_sequence s ≡ true → is_not_neighbour role neighbour s ≡ false
      → (is_route_server role ≡ true) ⊎ (get_or s.numbers 0 0 ≡ neighbour)
  begins s q h = go (is_route_server role) refl (eqb (get_or s.numbers 0 0) neighbour) refl (rw q at h)
    where
      go : (b : Bool) → is_route_server role ≡ b → (c : Bool) → eqb (get_or s.numbers 0 0) neighbour ≡ c → (true && not b && not c) ≡ false
          → (is_route_server role ≡ true) ⊎ (get_or s.numbers 0 0 ≡ neighbour)
      go true p c q h = inl p
      go false p true q h = inr (eqb-true _ _ q)
      go false p false q h = clash (cc)

  -- Without a ground there are bytes, the first segment is a sequence, and it passes the check.
  record Ungrounded : Type 0 where
    bytes : 0 < length attribute
    sequence : is_sequence (segment_at 4 attribute 0) ≡ true
    passes : is_not_neighbour role neighbour (segment_at 4 attribute 0) ≡ false

  -- An attribute without a fault and without a ground is such.
  ungrounded : first_fault number_bytes attribute ≡ None → ground_of role neighbour (segments number_bytes attribute) ≡ None → Ungrounded
  unfolding has_set
  ungrounded clean ground_code = go (ltb 0 (length attribute)) refl
    where
      some_bytes : 0 < length attribute → Ungrounded
      some_bytes h = tests (is_not_neighbour role neighbour (segment_at 4 attribute 0)) refl (has_set (segments number_bytes attribute)) refl
          (sym (ground_is 4 attribute role neighbour h) ∙ ground_code)
        where
          kind : has_set (segments number_bytes attribute) ≡ false → type_at attribute 0 ≡ 2
          kind e =
              let w = first_whole 4 attribute clean h in
              let n : type_at attribute 0 ≡ 1 → ⊥ = eqb-false _ _ (neither_left (eqb (type_at attribute 0) 1) _ (rw (segments_some 4 attribute h) at e)) in
              two (type_at attribute 0) w.typed w.known n
            where
              two : (n : ℕ) → (n ≡ 0 → ⊥) → n ≤ 2 → (n ≡ 1 → ⊥) → n ≡ 2
              two n a b c = omega arith

          tests : (b : Bool) → is_not_neighbour role neighbour (segment_at 4 attribute 0) ≡ b → (c : Bool) → has_set (segments number_bytes attribute) ≡ c
              → cond b (Some NotNeighbour) (cond c (Some AsSet) None) ≡ None → Ungrounded
          tests true p c q e = let z : ◌≡◌ {A = ℕ} 0 1 = cc in absurd (omega arith)
          tests false p true q e = let z : ◌≡◌ {A = ℕ} 0 1 = cc in absurd (omega arith)
          tests false p false q e = record { bytes = h; sequence = eq-eqb _ _ (kind q); passes = p }

      go : (b : Bool) → ltb 0 (length attribute) ≡ b → Ungrounded
      go true e = some_bytes (ltb-true _ _ e)
      go false e =
          let n : length attribute ≡ 0 = omega (arith, ltb-false 0 (length attribute) e) in
          let z : Some Empty ≡ None = ground_empty 4 attribute role neighbour n ∙ ground_code in
          let y : ◌≡◌ {A = ℕ} 0 1 = cc in
          absurd (omega arith)

  -- A merged path keeps the rules of a path.
  pub path-ok : (path : List ℕ) → content_of role neighbour attribute ≡ merged path → length path ≤ most_numbers → path_ok role neighbour path ≡ true
  unfolding content_of
  path-ok path e short = go (first_fault number_bytes attribute) refl (ground_of role neighbour (segments number_bytes attribute)) refl e
    where
      go : (s : Option (Fault × ℕ)) → first_fault number_bytes attribute ≡ s → (g : Option Ground) → ground_of role neighbour (segments number_bytes attribute) ≡ g
          → after_scan s (after_ground g (merged_path (segments number_bytes attribute))) ≡ merged path → path_ok role neighbour path ≡ true
      go (Some (f, p)) c g n h = let z : ◌≡◌ {A = ℕ} 0 1 = cc in absurd (omega arith)
      go None c (Some g) n h = let z : ◌≡◌ {A = ℕ} 0 1 = cc in absurd (omega arith)
      go None c None n h =
          let same : merged_path (segments number_bytes attribute) ≡ path = cc in
          let u : Ungrounded = ungrounded c n in
          let w = first_whole 4 attribute c u.bytes in
          let first = rw same at (merged_first 4 attribute c u.bytes) in
          let number : get_or (segment_at 4 attribute 0).numbers 0 0 ≡ number_at 4 attribute 2 = first_number 4 (count_at attribute 0) attribute 2 w.some in
          let runs = rw same at (path_laws.no-runs (segments 4 attribute)) in
          (route_laws.path_rules role neighbour path).1
          (record {
            some = first.0;
            few = short;
            no-zero = rw same at (merged_no_zero 4 attribute c);
            no-runs = runs;
            first = rw (first.1, ← number) (begins (segment_at 4 attribute 0) u.sequence u.passes);
          })

  -- Ground 2 is never given with role 4.
  pub ground_role : (g : Ground) → content_of role neighbour attribute ≡ grounded g → not (eqb (ground_number g) 2 && is_route_server role) ≡ true
  unfolding content_of
  ground_role g e = go (first_fault number_bytes attribute) (ground_of role neighbour (segments number_bytes attribute)) refl e
    where
      of_ground : (g : Ground) (b : Bool) → is_route_server role ≡ b → (g ≡ NotNeighbour → b ≡ false) → not (eqb (ground_number g) 2 && b) ≡ true
      of_ground Empty b p f = refl
      of_ground AsSet b p f = refl
      of_ground NotNeighbour b p f = rw (f refl)

      server : (b : Bool) → is_route_server role ≡ b → ground_of role neighbour (segments number_bytes attribute) ≡ Some NotNeighbour → b ≡ false
      server false p h = refl
      server true p h = bytes (ltb 0 (length attribute)) refl
        where
          sets : (c : Bool) → cond c (Some AsSet) None ≡ Some NotNeighbour → true ≡ false
          sets true q = let z : ◌≡◌ {A = ℕ} 0 1 = cc in absurd (omega arith)
          sets false q = let z : ◌≡◌ {A = ℕ} 0 1 = cc in absurd (omega arith)

          bytes : (b : Bool) → ltb 0 (length attribute) ≡ b → true ≡ false
          bytes true q = sets (has_set (segments number_bytes attribute)) (rw (ground_is 4 attribute role neighbour (ltb-true _ _ q), spared p) at h)
          bytes false q =
              let n : length attribute ≡ 0 = omega (arith, ltb-false 0 (length attribute) q) in
              let z : Some Empty ≡ Some NotNeighbour = ground_empty 4 attribute role neighbour n ∙ h in
              let y : ◌≡◌ {A = ℕ} 0 1 = cc in
              absurd (omega arith)

      go : (s : Option (Fault × ℕ)) (k : Option Ground) → ground_of role neighbour (segments number_bytes attribute) ≡ k
          → after_scan s (after_ground k (merged_path (segments number_bytes attribute))) ≡ grounded g → not (eqb (ground_number g) 2 && is_route_server role) ≡ true
      go (Some (f, p)) k n h = let z : ◌≡◌ {A = ℕ} 0 1 = cc in absurd (omega arith)
      go None None n h = let z : ◌≡◌ {A = ℕ} 0 1 = cc in absurd (omega arith)
      go None (Some k) n h =
          let same : k ≡ g = cc in
          of_ground g (is_route_server role) refl (λ q. server (is_route_server role) refl (n ∙ ap Some (same ∙ q)))

-- ---- the verdict of a path

-- The ground of one of two verdicts.
no_ground : (b : Bool) (v w : Verdict) → verdict_ground v ≡ 0 → verdict_ground w ≡ 0 → verdict_ground (cond b v w) ≡ 0
no_ground true v w p q = p
no_ground false v w p q = q

module _ (hop : HopFunction) (path : List ℕ) (role : ℕ) where
  -- An upstream verdict has no ground.
  up_ground : verdict_ground (upstream hop path) ≡ 0
  unfolding upstream
  up_ground =
      no_ground (leb (lowest_not_plus hop path) (length path)) _ _ refl
      (no_ground (leb (lowest_unattested hop path) (length path)) (Unknown (lowest_unattested hop path) 0) Valid refl refl)

  -- Nor has a downstream one.
  down_ground : verdict_ground (downstream hop path) ≡ 0
  unfolding downstream
  down_ground =
      no_ground (leb (lowest_not_plus hop path) (highest_not_plus hop path)) _ _ refl
      (no_ground (le_z (gap_of hop path) (pos 1)) Valid (Unknown (ramp_up hop path) (ramp_down hop path)) refl refl)

  -- It has no ground.
  pub judged_ground : verdict_ground (verdict_of (judged hop path role)) ≡ 0
  unfolding judged
  judged_ground = go (is_upstream role)
    where
      go : (b : Bool) → verdict_ground (verdict_of (cond b (Plain (upstream hop path)) (WithGap (downstream hop path) (gap_of hop path)))) ≡ 0
      go true = up_ground
      go false = down_ground

-- ---- the route that a keeping stores

-- A route with a ground.
ground_route_ok : (number role neighbour : ℕ) (g : Ground) → is_role role ≡ true → leb 1 neighbour ≡ true
    → not (eqb (ground_number g) 2 && is_route_server role) ≡ true → route_ok (route_for number role neighbour (Invalid (ByGround g)) []) ≡ true
unfolding route_ok ground_ok
ground_route_ok number role neighbour Empty p q h = rw (p, q)
ground_route_ok number role neighbour NotNeighbour p q h = rw (p, q) h
ground_route_ok number role neighbour AsSet p q h = rw (p, q)

module _ (number role neighbour : ℕ) (path : List ℕ) where
  -- A route with a path, Valid.
  valid_route_ok : is_role role ≡ true → leb 1 neighbour ≡ true → path_ok role neighbour path ≡ true
      → route_ok (route_for number role neighbour Valid path) ≡ true
  unfolding route_ok
  valid_route_ok p q h = rw (p, q) h

  -- And with the verdict that its path has.
  path_route_ok : (hop : HopFunction) → is_role role ≡ true → leb 1 neighbour ≡ true → path_ok role neighbour path ≡ true
      → route_ok (route_for number role neighbour (verdict_of (judged hop path role)) path) ≡ true
  path_route_ok hop p q h = ap route_ok same ∙ still_ok hop (route_for number role neighbour Valid path) (valid_route_ok p q h)
    where
      v : Verdict
      v = verdict_of (judged hop path role)

      same : route_for number role neighbour v path ≡ stamped v (route_for number role neighbour Valid path)
      same = λ i. record {
        number = number;
        role = role;
        neighbour = neighbour;
        ground_code = judged_ground hop path role i;
        verdict = verdict_number v;
        a = place_a v;
        b = place_b v;
        path = path;
      }

module _ (reg : Registers) (k : Keeping) (e : first_given (judge_rows k.role k.neighbour k.attribute) ≡ None) where
  positive : leb 1 k.neighbour ≡ true
  positive = above_zero k.neighbour (judged_arguments (hop_in reg) k.role k.neighbour k.attribute e).1

  -- The route that Keep stores keeps the rules.
  pub kept_ok : route_ok (kept_route reg k) ≡ true
  kept_ok = go (judgement (hop_in reg) k.role k.neighbour k.attribute e)
    where
      role_ok : is_role k.role ≡ true
      role_ok = (judged_arguments (hop_in reg) k.role k.neighbour k.attribute e).0

      go : Judgement (hop_in reg) k.role k.neighbour k.attribute → route_ok (kept_route reg k) ≡ true
      go (on-ground g c j) =
          rw (j, c) (ground_route_ok k.number k.role k.neighbour g role_ok positive (ground_role k.role k.neighbour k.attribute g c))
      go (on_path path c short j) =
          rw (j, c)
          (path_route_ok k.number k.role k.neighbour path (hop_in reg) role_ok positive (path-ok k.role k.neighbour k.attribute path c short))
