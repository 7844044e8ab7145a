-- The check of a ledger: each turn of the loop over the routes, and the tests of the whole. Assumes nothing.
use Prim.Native.Nat.{ℕ, zero, suc, ◌+◌, ◌-◌, ◌≤◌, ◌<◌}
use mathlib.Core.Path.{◌≡◌, refl, sym, ◌∙◌, ap}
use mathlib.Core.Bool.{Bool, true, false, ◌&&◌}
use mathlib.Core.List.{List, [], ◌∷◌}
use native.Mathlib.Omega.{arith}
use native.Mathlib.Numerals.{add-one}
use borrow.Author.Tests.{ne_eqb}
use lib.Dec.{leb, ltb, eqb}
use lib.ListN.{length, get_or, take, drop, length-drop, drop_of_length-le}
use lib.Seq.{drop-cons}
use Rattle.table.specs.Table.{counters, bodies, Sound, well_formed}
use Rattle.table.proofs.Exact.{passes_sound}
use Rattle.keyed.specs.Keyed.{ascends, ascends_from, every}
use Rattle.ledger.specs.Routes.{route_head, route_tail, slot_at}
use Rattle.ledger.specs.Routes.{most_routes, most_path_words, Route, routes_of, route_at, key_of, path_words, route_ok, is_behind}
use Rattle.ledger.specs.Routes.{room_for, routes_ok, ledger_ok}
use Rattle.ledger.specs.Helpers.{PathFrom}
use Rattle.ledger.proofs.Entries.{route_count, path_count, paths_next}

-- ---- the routes

-- Each route's own rules, and their order.
abbrev pub rules : List Route → Bool
rules rs = every route_ok rs && ascends key_of eqb ltb rs

-- What is left of them from route i on: the order from the route before it on.
abbrev pub rules_from : ℕ → List Route → Bool
rules_from i rs = every route_ok (drop i rs) && ascends key_of eqb ltb (drop (i - 1) rs)

-- The tests in the order of the code.
regroup : (a b c d : Bool) → ((a && b) && (c && d)) ≡ (c && (a && (b && d)))
regroup true true c d = refl
regroup true false true d = refl
regroup true false false d = refl
regroup false b true d = refl
regroup false b false d = refl

-- One route more, behind others.
rules_later : (rs : List Route) (i : ℕ) → suc i < length rs
    → rules_from (suc i) rs ≡ (is_behind rs (suc i) && (route_ok (route_at rs (suc i)) && rules_from (suc i + 1) rs))
unfolding every ascends ascends_from is_behind
rules_later rs i h =
    let x : Route = route_at rs i in
    let y : Route = route_at rs (suc i) in
    let l : List Route = drop (suc (suc i)) rs in
    let d : drop (suc i) rs ≡ y ∷ l = drop-cons rs (suc i) (route_at [] 0) h in
    let o : suc i - 1 ≡ i = omega arith in
    let e : drop (suc i - 1) rs ≡ x ∷ (y ∷ l) =
    ap (λ k. drop k rs) o ∙ drop-cons rs i (route_at [] 0) (omega arith) ∙ ap (λ k. x ∷ k) d in
    let z : suc i + 1 - 1 ≡ suc i = omega arith in
    let f : drop (suc i + 1 - 1) rs ≡ y ∷ l = ap (λ k. drop k rs) z ∙ d in
    let b : is_behind rs (suc i) ≡ ltb (key_of x) (key_of y) = rw (ne_eqb (suc i) 0 (λ k. omega arith), o) in
    (λ q. every route_ok (d q) && ascends key_of eqb ltb (e q))
    ∙ regroup (route_ok y) (every route_ok l) (ltb (key_of x) (key_of y)) (ascends_from key_of eqb ltb (key_of y) l)
    ∙ (λ q. sym b q && (route_ok y && (every route_ok (drop (sym (add-one (suc i)) q) rs) && ascends key_of eqb ltb (sym f q))))

-- One route more.
rules_step : (rs : List Route) (i : ℕ) → i < length rs → rules_from i rs ≡ (is_behind rs i && (route_ok (route_at rs i) && rules_from (i + 1) rs))
unfolding every ascends is_behind
rules_step [] i h = absurd (omega arith)
rules_step (r ∷ rs) zero h = regroup (route_ok r) (every route_ok rs) true (ascends_from key_of eqb ltb (key_of r) rs)
rules_step (r ∷ rs) (suc i) h = rules_later (r ∷ rs) i h

-- One route, or none, is in order.
short_ascends : (rs : List Route) → length rs ≤ 1 → ascends key_of eqb ltb rs ≡ true
unfolding ascends ascends_from
short_ascends [] h = refl
short_ascends (r ∷ []) h = refl
short_ascends (r ∷ (q ∷ rs)) h = absurd (omega arith)

-- No route is left.
rules_end : (rs : List Route) (i : ℕ) → length rs ≤ i → rules_from i rs ≡ true
unfolding every
rules_end rs i h =
    rw (drop_of_length-le rs h) (short_ascends (drop (i - 1) rs) (omega (arith, length-drop (i - 1) rs)))

-- The loop over the routes: the rules of those that are left are what is left to find.
pub record Checked (ws : List ℕ) (n from i : ℕ) : Type 0 where
  pub sound : Sound route_head route_tail ws
  pub count : n ≡ length (routes_of ws)
  pub within : i ≤ n
  pub start : from ≡ slot_at n + path_words (take i (routes_of ws))
  pub same : rules_from i (routes_of ws) ≡ rules (routes_of ws)

-- The loop starts at the first path.
pub checks : {ws : List ℕ} {n : ℕ} → Sound route_head route_tail ws → n ≡ get_or ws 0 0 → Checked ws n (slot_at n) 0
unfolding path_words bodies
checks {ws} s e = record { sound = s; count = e ∙ route_count ws s; within = omega arith; start = omega arith; same = refl }

module _ {ws : List ℕ} {n from i : ℕ} (g : Checked ws n from i) where
  -- No route is left.
  pub all_checked : n ≤ i → true ≡ rules (routes_of ws)
  all_checked h = sym (rules_end (routes_of ws) i (omega (arith, g.count))) ∙ g.same

  module _ (h : i < n) where
    -- Route i is one of the routes.
    inside : i < length (routes_of ws)
    inside = omega (arith, g.count)

    -- The tests of route i, and the rules of those behind it.
    tested : (is_behind (routes_of ws) i && (route_ok (route_at (routes_of ws) i) && rules_from (i + 1) (routes_of ws))) ≡ rules (routes_of ws)
    tested = sym (rules_step (routes_of ws) i inside) ∙ g.same

    -- It does not stand behind the one before it.
    pub no_order : is_behind (routes_of ws) i ≡ false → false ≡ rules (routes_of ws)
    no_order q = rw q at tested

    module _ {m : ℕ} (e : m ≡ length (route_at (routes_of ws) i).path) where
      -- Its path.
      pub its_path : PathFrom ws i from (from + m)
      its_path =
          record {
            sound = g.sound;
            within = inside;
            start = omega (arith, g.start, g.count);
            end = ap (λ k. from + k) e;
          }

      module _ (q : is_behind (routes_of ws) i ≡ true) where
        -- It does not keep its rules.
        pub no_route : route_ok (route_at (routes_of ws) i) ≡ false → false ≡ rules (routes_of ws)
        no_route r = rw (q, r) at tested

        -- One route more.
        pub checks_on : route_ok (route_at (routes_of ws) i) ≡ true → Checked ws n (from + m) (i + 1)
        checks_on r =
            record {
              sound = g.sound;
              count = g.count;
              within = omega arith;
              start = rw (add-one i) (omega (arith, g.start, e, paths_next (routes_of ws) i inside));
              same = rw (q, r) at tested;
            }

-- ---- the whole ledger

-- Words that are no packed table.
pub not_formed : (ws : List ℕ) → well_formed route_head route_tail ws ≡ false → false ≡ ledger_ok ws
unfolding ledger_ok
not_formed ws e = rw e

module _ (ws : List ℕ) (e : well_formed route_head route_tail ws ≡ true) where
  -- A packed table holds routes.
  pub formed_sound : Sound route_head route_tail ws
  formed_sound = passes_sound route_head route_tail ws e

  -- It has two counters.
  pub formed_long : counters ≤ length ws
  formed_long = omega (arith, formed_sound.fits)

  -- The two limits, on the words, and then the routes decide.
  pub limits : ledger_ok ws ≡ ((leb (get_or ws 0 0) most_routes && leb (get_or ws 1 0) most_path_words) && rules (routes_of ws))
  unfolding ledger_ok routes_ok room_for
  limits = rw (e, route_count ws formed_sound, path_count ws formed_sound)
