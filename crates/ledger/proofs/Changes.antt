-- An accepted call leaves routes that keep the rules; and only its own route changes. Assumes nothing.
use Prim.Native.Nat.{ℕ, suc, ◌≤◌}
use mathlib.Core.Path.{◌≡◌, ◌∙◌}
use mathlib.Core.Bool.{Bool, true, false, cond}
use mathlib.Core.List.{List, [], ◌∷◌, map}
use native.Mathlib.Omega.{arith}
use borrow.Author.Tests.{ne_eqb, le-leb}
use lib.Dec.{ltb, eqb}
use lib.ListN.{length, length-append}
use Rattle.table.specs.Table.{bodies}
use Rattle.keyed.specs.Keyed.{without}
use Rattle.keyed.proofs.Orders.{ordered_ℕ, both_intro}
use Rattle.keyed.proofs.Puts.{ascends_put, ascends_without, length_erase_at}
use Rattle.keyed.proofs.Finds.{every_put, every_without, find_put, find_without, count_without}
use Rattle.ledger.specs.Routes.{most_routes, most_path_words, Route, entry_of, key_of, path_words, route_ok, room_for, routes_ok}
use Rattle.ledger.specs.Calls.{find_route, holds_route, put_route, erase_route}
use Rattle.ledger.proofs.Holding.{room_routes, room_paths, has_room, each_ok, in-order}
use Rattle.std.specs.Prelude.{None, Some}

-- ---- the rules are kept

-- Fewer routes, with fewer numbers, still fit.
pub room_fewer : (rs ss : List Route) → length ss ≤ length rs → path_words ss ≤ path_words rs → room_for rs ≡ true → room_for ss ≡ true
unfolding room_for
room_fewer rs ss h h' e =
    let a : length rs ≤ most_routes = room_routes rs e in
    let b : path_words rs ≤ most_path_words = room_paths rs e in
    both_intro _ _ (le-leb (length ss) most_routes (omega arith)) (le-leb (path_words ss) most_path_words (omega arith))

-- No more numbers in the paths of the routes that are left.
paths_without : (test : ℕ → Bool) (rs : List Route) → path_words (without key_of eqb ltb test rs) ≤ path_words rs
unfolding path_words bodies without
paths_without test [] = omega arith
paths_without test (r ∷ rs) = go (test (key_of r)) (paths_without test rs)
  where
    go : (b : Bool) → path_words (without key_of eqb ltb test rs) ≤ path_words rs
        → path_words (cond b (without key_of eqb ltb test rs) (r ∷ without key_of eqb ltb test rs)) ≤ path_words (r ∷ rs)
    go true h = omega (arith, length-append r.path (bodies (map entry_of rs)))
    go false h =
        omega (
          arith,
          length-append r.path (bodies (map entry_of rs)),
          length-append r.path (bodies (map entry_of (without key_of eqb ltb test rs))),
        )

module _ (rs : List Route) (e : routes_ok rs ≡ true) where
  -- A route that keeps the rules goes in, and there is room.
  pub put_ok : (r : Route) → route_ok r ≡ true → room_for (put_route r rs) ≡ true → routes_ok (put_route r rs) ≡ true
  unfolding routes_ok
  put_ok r ok room =
      both_intro _ _ room
      (both_intro _ _ (every_put key_of eqb ltb route_ok r rs ok (each_ok rs e)) (ascends_put key_of eqb ltb ordered_ℕ r rs (in-order rs e)))

  -- Routes go out.
  pub without_ok : (test : ℕ → Bool) → routes_ok (without key_of eqb ltb test rs) ≡ true
  unfolding routes_ok
  without_ok test =
      let fewer = count_without key_of eqb ltb test rs in
      both_intro _ _ (room_fewer rs (without key_of eqb ltb test rs) (omega (arith, fewer)) (paths_without test rs) (has_room rs e))
      (both_intro _ _ (every_without key_of eqb ltb route_ok test rs (each_ok rs e)) (ascends_without key_of eqb ltb ordered_ℕ test rs (in-order rs e)))

-- ---- what is found after a call

-- After a store: the route under its own number, and under every other what was there.
pub stored_finds : (k : ℕ) (r : Route) (rs : List Route) → find_route k (put_route r rs) ≡ cond (eqb k r.number) (Some r) (find_route k rs)
stored_finds k r rs = find_put key_of eqb ltb ordered_ℕ k r rs

-- After a drop: nothing under its own number, and under every other what was there.
pub dropped_finds : (k number : ℕ) (rs : List Route) → find_route k (erase_route number rs) ≡ cond (eqb number k) None (find_route k rs)
dropped_finds k number rs = find_without key_of eqb ltb ordered_ℕ k (eqb number) rs

module _ (number : ℕ) (rs : List Route) where
  -- A drop takes out its own route.
  pub drops_own : find_route number (erase_route number rs) ≡ None
  drops_own = dropped_finds number number rs ∙ rw (ordered_ℕ.same_self number)

  -- It takes out no other.
  pub drops_no_other : (k : ℕ) → (number ≡ k → ⊥) → find_route k (erase_route number rs) ≡ find_route k rs
  drops_no_other k h = dropped_finds k number rs ∙ rw (ne_eqb number k h)

  -- There is one route fewer.
  pub drops_one : routes_ok rs ≡ true → holds_route number rs ≡ true → suc (length (erase_route number rs)) ≡ length rs
  drops_one e held = length_erase_at key_of eqb ltb ordered_ℕ number rs (in-order rs e) held
