-- What accepted calls answer and leave. Assumes nothing.
use Prim.Native.Nat.{ℕ, zero, suc, ◌<◌}
use mathlib.Core.Path.{◌≡◌, refl, sym, ◌∙◌, ap}
use mathlib.Core.Bool.{true, cond}
use mathlib.Core.List.{List, [], ◌∷◌, map}
use native.Mathlib.Omega.{arith}
use lib.Dec.{eqb}
use lib.ListN.{length, get_or}
use Rattle.types.specs.declared.Answer.{Answer}
use Rattle.types.specs.declared.Refusal.{Refusal}
use Rattle.types.specs.Rows.{first_given, Effect, unless_refused}
use Rattle.registers.specs.Registers.{Registers, hop_in, BothFormed}
use Rattle.ledger.specs.Routes.{Route, routes_of, ledger_of, route_at, route_ok, routes_ok}
use Rattle.ledger.specs.Calls.{find_route, put_route, differs, count_differing}
use Rattle.ledger.proofs.Entries.{routes_of_words}
use Rattle.ledger.proofs.Holding.{has_room, room_routes, room_paths, routes-ok}
use Rattle.ledger.proofs.Changes.{stored_finds}
use Rattle.ledger.proofs.Refusals.{Ledger}
use Rattle.rejudge.specs.Rejudging.{rejudged_route, count_below}
use Rattle.rejudge.proofs.Rejudgements.{rejudged_ok, ground_stays, all_once}
use Rattle.rejudge.proofs.Differences.{changed_is, second_none}
use Rattle.rules.specs.Judging.{refusal_in}
use Rattle.effects.specs.Calls.{Keeping, judge_answer, kept_answer, kept_route, keep_rows, keep_effect, rejudge_rows, rejudge_effect}
use Rattle.effects.specs.Laws.{KeptWith}
use Rattle.effects.proofs.Judgings.{judge_answers}
use Rattle.effects.proofs.Refusals.{keep_reads}
use Rattle.effects.proofs.KeptRoutes.{kept_ok}
use Rattle.effects.proofs.Tables.{Accepted, accepted, kept_routes_ok, passed_tables, rejudge_accepts, rejudge_preserves}
use Rattle.std.specs.Prelude.{None, Ok, Option, Result, Some}

-- Routes that keep the rules are read back from their words.
pub read_back : (rs : List Route) → routes_ok rs ≡ true → routes_of (ledger_of rs) ≡ rs
read_back rs e = let room = has_room rs e in routes_of_words rs (room_routes rs room) (room_paths rs room)

-- ---- Keep

module _ (reg : Registers) (led : List ℕ) (k : Keeping) {answer : Answer} (h : (keep_effect reg led k).answer ≡ Ok answer) where
  -- An accepted Keep is given no row.
  pub keep_given : first_given (keep_rows reg led k) ≡ None
  keep_given = sym (keep_reads reg led k) ∙ ap refusal_in h

  -- It had well-formed tables and room.
  pub keep_accepted : Accepted reg led k
  keep_accepted = accepted reg led k keep_given

  -- It answers what its judging answers.
  keep_judged : kept_answer reg k ≡ Ok answer
  unfolding keep_effect
  keep_judged = rw keep_given at h

  -- An accepted Keep answers what Judge answers.
  pub keep_answers : judge_answer reg k.role k.neighbour k.attribute ≡ Ok answer
  keep_answers =
      let w = keep_accepted.register in
      judge_answers reg k.role k.neighbour k.attribute w.long w.ok ∙ keep_judged

  -- It leaves the routes with the kept one.
  pub keep_leaves_routes : routes_of (keep_effect reg led k).words ≡ put_route (kept_route reg k) (routes_of led)
  unfolding keep_effect
  keep_leaves_routes =
      rw keep_given (read_back (put_route (kept_route reg k) (routes_of led)) (kept_routes_ok reg led k keep_accepted))

  -- Under its own number the kept route is found, and under every other what was found before.
  pub keep_stores : (number : ℕ)
      → find_route number (routes_of (keep_effect reg led k).words)
      ≡ cond (eqb number k.number) (Some (kept_route reg k)) (find_route number (routes_of led))
  keep_stores number = ap (find_route number) keep_leaves_routes ∙ stored_finds number (kept_route reg k) (routes_of led)

  -- The kept route has the answer's ground, verdict and places, its role and neighbour, and the merged path.
  pub keep_holds : KeptWith answer k (kept_route reg k)
  keep_holds =
      rw keep_judged
      (record {
        number_is = refl;
        role_is = refl;
        neighbour_is = refl;
        ground_is = refl;
        verdict_is = refl;
        a_is = refl;
        b_is = refl;
        path_is = refl;
      })

  -- It keeps the rules.
  pub keep_rules : route_ok (kept_route reg k) ≡ true
  keep_rules = kept_ok reg k keep_accepted.argued

-- ---- Re-judge

module _ (reg : Registers) (led : List ℕ) (w : BothFormed reg) (l : Ledger led) where
  abbrev before : List Route
  before = routes_of led

  abbrev after : List Route
  after = map (rejudged_route (hop_in reg)) (routes_of led)

  -- It leaves the routes judged anew.
  pub rejudge_leaves_routes : routes_of (rejudge_effect reg led).words ≡ after
  rejudge_leaves_routes =
      ap (λ s. routes_of s.words) (rejudge_accepts reg led w l) ∙ read_back after (rejudged_ok (hop_in reg) before (routes-ok led l.ok))

  -- A second Re-judge changes nothing, and answers so.
  pub rejudge_twice :
      rejudge_effect reg (rejudge_effect reg led).words ≡ record { answer = Ok 0; words = (rejudge_effect reg led).words }
  rejudge_twice =
      rejudge_accepts reg (rejudge_effect reg led).words w (rejudge_preserves reg led l)
      ∙ ap step rejudge_leaves_routes
      ∙ (λ i. record { answer = Ok (second_none (hop_in reg) before i); words = words i })
    where
      step : List Route → Effect (Result ℕ Refusal)
      step rs =
          record {
            answer = Ok (count_differing rs (map (rejudged_route (hop_in reg)) rs));
            words = ledger_of (map (rejudged_route (hop_in reg)) rs);
          }

      words : ledger_of (map (rejudged_route (hop_in reg)) after) ≡ (rejudge_effect reg led).words
      words = ap ledger_of (all_once (hop_in reg) before) ∙ sym (ap (λ s. s.words) (rejudge_accepts reg led w l))

-- A Re-judge that is accepted had well-formed tables.
pub rejudge_accepted : (reg : Registers) (led : List ℕ) {n : ℕ} → (rejudge_effect reg led).answer ≡ Ok n → BothFormed reg × Ledger led
unfolding rejudge_effect
rejudge_accepted reg led {n} = go (first_given (rejudge_rows reg led)) refl
  where
    go : (o : Option Refusal) → first_given (rejudge_rows reg led) ≡ o
        → (unless_refused o led
        (record {
          answer = Ok (count_differing (routes_of led) (map (rejudged_route (hop_in reg)) (routes_of led)));
          words = ledger_of (map (rejudged_route (hop_in reg)) (routes_of led));
        })).answer ≡ Ok n → BothFormed reg × Ledger led
    go (Some r) e h = let z : ◌≡◌ {A = ℕ} 0 1 = cc in absurd (omega arith)
    go None e h = passed_tables reg led e

-- An element of a mapped list.
at_map : {A : Type 0} (f : A → A) (xs : List A) (i : ℕ) (d : A) → i < length xs → get_or (map f xs) i d ≡ f (get_or xs i d)
at_map f [] i d h = absurd (omega arith)
at_map f (x ∷ xs) zero d h = refl
at_map f (x ∷ xs) (suc i) d h = at_map f xs i d (omega arith)

module _ (reg : Registers) (led : List ℕ) {n : ℕ} (h : (rejudge_effect reg led).answer ≡ Ok n) where
  abbrev left : List Route
  left = routes_of (rejudge_effect reg led).words

  -- The routes after an accepted Re-judge are those before it, judged anew.
  pub rejudge_routes : left ≡ map (rejudged_route (hop_in reg)) (routes_of led)
  rejudge_routes = let t = rejudge_accepted reg led h in rejudge_leaves_routes reg led t.0 t.1

  -- An accepted Re-judge answers the number of places at which the routes before and after differ in the verdict or a place.
  pub rejudge_count : n ≡ count_below (λ i. differs (route_at (routes_of led) i) (route_at left i)) (length (routes_of led))
  rejudge_count =
      let t = rejudge_accepted reg led h in
      let e : Ok n ≡ Ok (count_differing (routes_of led) (map (rejudged_route (hop_in reg)) (routes_of led))) =
      sym h ∙ ap (λ s. s.answer) (rejudge_accepts reg led t.0 t.1) in
      let m : n ≡ count_differing (routes_of led) (map (rejudged_route (hop_in reg)) (routes_of led)) = cc in
      m ∙ changed_is (hop_in reg) (routes_of led)
      ∙ ap (λ rs. count_below (λ i. differs (route_at (routes_of led) i) (route_at rs i)) (length (routes_of led))) (sym rejudge_routes)

  module _ (i : ℕ) (within : i < length (routes_of led)) where
    -- Route i after an accepted Re-judge is the one before it, judged anew.
    pub rejudge_rewrites : route_at left i ≡ rejudged_route (hop_in reg) (route_at (routes_of led) i)
    rejudge_rewrites = ap (λ rs. route_at rs i) rejudge_routes ∙ at_map (rejudged_route (hop_in reg)) (routes_of led) i _ within

    -- Its ground is left.
    pub rejudge_ground : (route_at left i).ground_code ≡ (route_at (routes_of led) i).ground_code
    rejudge_ground = ap (λ r. r.ground_code) rejudge_rewrites ∙ ground_stays (hop_in reg) (route_at (routes_of led) i)
