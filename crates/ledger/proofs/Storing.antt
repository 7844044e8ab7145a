-- Each way through `store` and `drop` gives the answer and the words of their definitions. Assumes nothing.
use Prim.Native.Nat.{ℕ, ◌+◌, ◌-◌, ◌≤◌, ◌<◌}
use mathlib.Core.Path.{◌≡◌, refl, sym, ◌∙◌, ap}
use mathlib.Core.Bool.{true, false, and-false}
use mathlib.Core.List.{List, [], ◌∷◌, map}
use native.Mathlib.Omega.{arith}
use borrow.Author.Tests.{eq-eqb, ne_eqb, le-leb, lt-leb}
use lib.Dec.{leb}
use lib.ListN.{length, get_or}
use Rattle.types.specs.declared.Refusal.TheVariants.{TableLength, RoutesMalformed, RouteTaken, NoRoute, RoutesFull}
use Rattle.types.specs.Rows.{first_given, effect}
use Rattle.table.specs.Table.{Entry, bodies, encode, decode, insert_at, remove_at}
use Rattle.table.specs.Helpers.{Insertable, Removable}
use Rattle.table.proofs.Typed.{inserted_entries, removed_entries}
use Rattle.keyed.proofs.Orders.{both_intro}
use Rattle.ledger.specs.Routes.{route_head, route_tail}
use Rattle.ledger.specs.Routes.{ledger_words, most_routes, most_path_words, Route, entry_of, routes_of, ledger_of, position_of, path_words, room_for, ledger_ok}
use Rattle.ledger.specs.Calls.{holds_route, put_route, erase_route, store_effect, drop_effect}
use Rattle.ledger.proofs.Entries.{decoded, length_routes, route_count, path_count}
use Rattle.ledger.proofs.Holding.{sound, routes-ok, ordered, has_room, room_paths}
use Rattle.ledger.proofs.Looking.{position_within}
use Rattle.ledger.proofs.Placing.{put_at, routes_new, paths_new, position_under, erase_position}
use Rattle.std.specs.Prelude.{Err, Ok}

-- ---- a route goes in

-- The words of a route's entry, each by what it is.
pub entry_is : (r : Route) {role ground_code verdict a b : ℕ} → role ≡ r.role → ground_code ≡ r.ground_code → verdict ≡ r.verdict → a ≡ r.a → b ≡ r.b
    → record { head = r.number ∷ role ∷ r.neighbour ∷ ground_code ∷ verdict ∷ a ∷ b ∷ []; body = r.path; tail = [] } ≡ entry_of r
entry_is r role ground_code verdict a b =
    λ i. record { head = r.number ∷ role i ∷ r.neighbour ∷ ground_code i ∷ verdict i ∷ a i ∷ b i ∷ []; body = r.path; tail = [] }

-- A number that is taken.
pub store_taken : (ws : List ℕ) (r : Route) → holds_route r.number (routes_of ws) ≡ true
    → store_effect ws r ≡ record { answer = Err RouteTaken; words = ws }
unfolding store_effect first_given
store_taken ws r e = rw e

-- The second count of a well-formed ledger keeps its limit.
pub paths_short : (ws : List ℕ) → ledger_ok ws ≡ true → {n : ℕ} → n ≡ get_or ws 1 0 → n ≤ most_path_words
paths_short ws ok e = omega (arith, path_count ws (sound ws ok), room_paths (routes_of ws) (has_room (routes_of ws) (routes-ok ws ok)))

module _ (ws : List ℕ) (r : Route) (ok : ledger_ok ws ≡ true) (free : holds_route r.number (routes_of ws) ≡ false) where
  -- No room.
  store_full : room_for (put_route r (routes_of ws)) ≡ false → store_effect ws r ≡ record { answer = Err RoutesFull; words = ws }
  unfolding store_effect first_given
  store_full e = rw (free, e)

  -- As many routes as may be are kept.
  pub full_routes : {n : ℕ} → n ≡ get_or ws 0 0 → most_routes ≤ n → store_effect ws r ≡ record { answer = Err RoutesFull; words = ws }
  unfolding room_for
  full_routes e h =
      let few : most_routes < length (put_route r (routes_of ws)) = omega (arith, route_count ws (sound ws ok), routes_new r (routes_of ws) free) in
      store_full (rw (lt-leb (length (put_route r (routes_of ws))) most_routes few) refl)

  -- The path is longer than what is left.
  pub full_paths : {n : ℕ} → n ≡ get_or ws 1 0 → most_path_words - n < length r.path
      → store_effect ws r ≡ record { answer = Err RoutesFull; words = ws }
  unfolding room_for
  full_paths e h =
      let many : most_path_words < path_words (put_route r (routes_of ws)) = omega (arith, path_count ws (sound ws ok), paths_new r (routes_of ws) free) in
      store_full (rw (lt-leb (path_words (put_route r (routes_of ws))) most_path_words many) (and-false (leb (length (put_route r (routes_of ws))) most_routes)))

-- A route may go in: what the tests of `store` have shown.
pub record Storable (ws : List ℕ) (r : Route) (position : ℕ) : Type 0 where
  pub long : length ws ≡ ledger_words
  pub ok : ledger_ok ws ≡ true
  pub free : holds_route r.number (routes_of ws) ≡ false
  pub here : position ≡ position_of r.number (routes_of ws)
  pub more : length (routes_of ws) < most_routes
  pub room : path_words (routes_of ws) + length r.path ≤ most_path_words

-- The tests show it.
pub storable : (ws : List ℕ) (r : Route) (position : ℕ) {n m : ℕ} → length ws ≡ ledger_words → ledger_ok ws ≡ true
    → holds_route r.number (routes_of ws) ≡ false → position ≡ position_of r.number (routes_of ws)
    → n ≡ get_or ws 0 0 → n < most_routes → m ≡ get_or ws 1 0 → length r.path ≤ most_path_words - m → Storable ws r position
storable ws r position long ok free here e few e' short =
    record {
      long = long;
      ok = ok;
      free = free;
      here = here;
      more = omega (arith, route_count ws (sound ws ok));
      room = omega (arith, path_count ws (sound ws ok), paths_short ws ok e');
    }

module _ {ws : List ℕ} {r : Route} {position : ℕ} (s : Storable ws r position) {e : Entry} (same : e ≡ entry_of r) where
  -- The table may take its entry.
  pub store_fits : Insertable route_head route_tail ws position e
  unfolding path_words
  store_fits =
      let n = length_routes ws (sound ws s.ok) in
      let b : length (bodies (decode route_head route_tail ws)) ≡ path_words (routes_of ws) = ap (λ es. length (bodies es)) (decoded ws (sound ws s.ok)) in
      rw same
      (record {
        sound = sound ws s.ok;
        within = omega (arith, s.here, position_within ws s.ok r.number, n);
        head = refl;
        tail = refl;
        room = omega (arith, s.long, s.more, s.room, n, b);
        small = omega (arith, s.long);
      })

  -- With its entry in, the words are those of the definition.
  pub store_done : {ws' : List ℕ} → ws' ≡ encode (length ws) (insert_at position e (decode route_head route_tail ws))
      → effect (Ok tt) ws' ≡ store_effect ws r
  unfolding store_effect first_given room_for ledger_of
  store_done {ws'} g = rw (s.free, fits) (ap (effect (Ok tt)) (g ∙ words))
    where
      fits : room_for (put_route r (routes_of ws)) ≡ true
      fits =
          both_intro _ _ (le-leb (length (put_route r (routes_of ws))) most_routes (omega (arith, routes_new r (routes_of ws) s.free, s.more)))
          (le-leb (path_words (put_route r (routes_of ws))) most_path_words (omega (arith, paths_new r (routes_of ws) s.free, s.room)))

      words : encode (length ws) (insert_at position e (decode route_head route_tail ws)) ≡ encode ledger_words (map entry_of (put_route r (routes_of ws)))
      words =
          (λ i. encode (s.long i) (insert_at (s.here i) (same i) (decoded ws (sound ws s.ok) i)))
          ∙ ap (encode ledger_words)
          (inserted_entries entry_of (position_of r.number (routes_of ws)) r (routes_of ws) ∙ ap (map entry_of) (sym (put_at r (routes_of ws) s.free)))

-- ---- Drop

module _ (ws : List ℕ) (number : ℕ) where
  -- Words of another length.
  pub drop-length : (length ws ≡ ledger_words → ⊥) → drop_effect ws number ≡ record { answer = Err TableLength; words = ws }
  unfolding drop_effect first_given
  drop-length a = rw (ne_eqb (length ws) ledger_words a)

  module _ (a : length ws ≡ ledger_words) where
    -- No ledger.
    pub drop_malformed : ledger_ok ws ≡ false → drop_effect ws number ≡ record { answer = Err RoutesMalformed; words = ws }
    unfolding drop_effect first_given
    drop_malformed b = rw (eq-eqb (length ws) ledger_words a, b)

    module _ (b : ledger_ok ws ≡ true) where
      -- No such route.
      pub drop_none : holds_route number (routes_of ws) ≡ false → drop_effect ws number ≡ record { answer = Err NoRoute; words = ws }
      unfolding drop_effect first_given
      drop_none e = rw (eq-eqb (length ws) ledger_words a, b, e)

      module _ (e : holds_route number (routes_of ws) ≡ true) {position : ℕ} (f : position ≡ position_of number (routes_of ws)) where
        -- The route's entry may go.
        pub drop_goes : Removable route_head route_tail ws position
        drop_goes =
            let h = position_under number (routes_of ws) (ordered ws b) e in
            record { sound = sound ws b; within = omega (arith, f, h, length_routes ws (sound ws b)); small = omega (arith, a) }

        -- With its entry out, the words are those of the definition.
        pub drop_done : {ws' : List ℕ} → ws' ≡ encode (length ws) (remove_at position (decode route_head route_tail ws))
            → effect (Ok tt) ws' ≡ drop_effect ws number
        unfolding drop_effect first_given ledger_of
        drop_done {ws'} g = rw (eq-eqb (length ws) ledger_words a, b, e) (ap (effect (Ok tt)) (g ∙ words))
          where
            words : encode (length ws) (remove_at position (decode route_head route_tail ws)) ≡ encode ledger_words (map entry_of (erase_route number (routes_of ws)))
            words =
                (λ i. encode (a i) (remove_at (f i) (decoded ws (sound ws b) i)))
                ∙ ap (encode ledger_words)
                (removed_entries entry_of (position_of number (routes_of ws)) (routes_of ws)
                ∙ ap (map entry_of) (sym (erase_position number (routes_of ws) (ordered ws b) e)))
