-- What a well-formed ledger shows. Assumes nothing.
use Prim.Native.Nat.{ℕ, ◌≤◌}
use mathlib.Core.Path.{◌≡◌}
use mathlib.Core.Bool.{true, cond}
use mathlib.Core.List.{List}
use lib.Dec.{leb, eqb, ltb}
use borrow.Author.Tests.{leb-true}
use lib.ListN.{length}
use Rattle.types.specs.Roles.{is_role}
use Rattle.as_path.specs.Reading.{most_numbers}
use Rattle.table.specs.Table.{Sound, well_formed}
use Rattle.table.proofs.Exact.{passes_sound}
use Rattle.keyed.specs.Keyed.{ascends, every}
use Rattle.keyed.proofs.Orders.{both_left, both_right, both_intro}
use Rattle.ledger.specs.Routes.{route_head, route_tail}
use Rattle.ledger.specs.Routes.{most_routes, most_path_words, Route, routes_of, ledger_of, key_of, path_words, path_ok, ground_ok, route_ok, room_for, routes_ok, ledger_ok}
use Rattle.ledger.proofs.Entries.{routes_of_words, words_formed}

module _ (rs : List Route) where
  -- Room for them: not too many routes.
  pub room_routes : room_for rs ≡ true → length rs ≤ most_routes
  unfolding room_for
  room_routes e = leb-true _ _ (both_left _ _ e)

  -- And not too many numbers in their paths.
  pub room_paths : room_for rs ≡ true → path_words rs ≤ most_path_words
  unfolding room_for
  room_paths e = leb-true _ _ (both_right (leb (length rs) most_routes) _ e)

  module _ (e : routes_ok rs ≡ true) where
    -- Routes that keep the rules fit the limits.
    pub has_room : room_for rs ≡ true
    unfolding routes_ok
    has_room = both_left _ _ e

    -- Each keeps its own rules.
    pub each_ok : every route_ok rs ≡ true
    unfolding routes_ok
    each_ok = both_left _ _ (both_right (room_for rs) _ e)

    -- They ascend by number.
    pub in-order : ascends key_of eqb ltb rs ≡ true
    unfolding routes_ok
    in-order = both_right (every route_ok rs) _ (both_right (room_for rs) _ e)

-- Routes that keep the rules are written as a well-formed ledger.
pub words_ok : (rs : List Route) → routes_ok rs ≡ true → ledger_ok (ledger_of rs) ≡ true
unfolding ledger_ok
words_ok rs e =
    let few = room_routes rs (has_room rs e) in
    let short = room_paths rs (has_room rs e) in
    both_intro (well_formed route_head route_tail (ledger_of rs)) _ (words_formed rs few short) (rw (routes_of_words rs few short) e)

module _ (ws : List ℕ) (e : ledger_ok ws ≡ true) where
  -- A well-formed ledger is a sound table.
  pub sound : Sound route_head route_tail ws
  unfolding ledger_ok
  sound = passes_sound route_head route_tail ws (both_left _ _ e)

  -- Its routes keep the rules.
  pub routes-ok : routes_ok (routes_of ws) ≡ true
  unfolding ledger_ok
  routes-ok = both_right (well_formed route_head route_tail ws) _ e

  -- They ascend by number.
  pub ordered : ascends key_of eqb ltb (routes_of ws) ≡ true
  ordered = in-order (routes_of ws) routes-ok

-- The role of a route that keeps its rules is one of the roles.
pub has_role : (r : Route) → route_ok r ≡ true → is_role r.role ≡ true
unfolding route_ok
has_role r e = both_left (is_role r.role) _ e

-- What the rules ask of a route by its ground.
pub rules_by_ground : (r : Route) → route_ok r ≡ true → cond (eqb r.ground_code 0) (path_ok r.role r.neighbour r.path) (ground_ok r) ≡ true
unfolding route_ok
rules_by_ground r e =
    both_right (leb r.b most_numbers) _
    (both_right (leb r.a most_numbers) _
    (both_right (leb r.verdict 2) _
    (both_right (leb r.ground_code 3) _
    (both_right (leb 1 r.neighbour) _ (both_right (is_role r.role) _ e)))))
