-- What an accepted call makes of the routes, in the table's terms: an insertion or a removal at a position. Assumes nothing.
use Prim.Native.Nat.{ℕ, suc, ◌+◌, ◌<◌}
use mathlib.Core.Path.{◌≡◌, ◌∙◌, ap}
use mathlib.Core.Bool.{true, false}
use mathlib.Core.List.{List, [], ◌∷◌, ◌++◌}
use lib.Dec.{ltb, eqb}
use lib.ListN.{length, take, drop}
use Rattle.table.proofs.Typed
use Rattle.keyed.specs.Keyed.{ascends}
use Rattle.keyed.proofs.Orders.{ordered_ℕ}
use Rattle.keyed.proofs.Ranks.{holds_at}
use Rattle.keyed.proofs.Puts.{put_new, erase_at, length_put_new}
use Rattle.ledger.specs.Routes.{Route, entry_of, route_at, key_of, position_of, path_words}
use Rattle.ledger.specs.Calls.{holds_route, put_route, erase_route}

-- ---- a new route

module _ (r : Route) (rs : List Route) (free : holds_route r.number rs ≡ false) where
  -- It stands at its position: behind the routes before it, before the others.
  pub put_at : put_route r rs ≡ take (position_of r.number rs) rs ++ (r ∷ drop (position_of r.number rs) rs)
  unfolding position_of
  put_at = put_new key_of eqb ltb ordered_ℕ r rs free

  -- There is one route more.
  pub routes_new : length (put_route r rs) ≡ suc (length rs)
  routes_new = length_put_new key_of eqb ltb r rs free

  -- The paths hold its own numbers more.
  pub paths_new : path_words (put_route r rs) ≡ path_words rs + length r.path
  unfolding path_words
  paths_new = ap (Typed.bodied entry_of) put_at ∙ Typed.bodied_inserted entry_of (position_of r.number rs) r rs

-- ---- a route that goes

module _ (number : ℕ) (rs : List Route) (asc : ascends key_of eqb ltb rs ≡ true) (held : holds_route number rs ≡ true) where
  -- It is one of the routes.
  pub position_under : position_of number rs < length rs
  unfolding position_of
  position_under = (holds_at key_of eqb ltb ordered_ℕ number rs (route_at [] 0) asc held).0

  -- The routes before it and those behind it stay.
  pub erase_position : erase_route number rs ≡ take (position_of number rs) rs ++ drop (suc (position_of number rs)) rs
  unfolding position_of
  erase_position = erase_at key_of eqb ltb ordered_ℕ number rs asc held
