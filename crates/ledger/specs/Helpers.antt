-- What the functions over a ledger, and re-judging, ask of the words that they are handed. No call's promise speaks of it.
use Rattle.std.specs.Prelude.{ℕ, ◌+◌, ◌<◌, ◌≡◌, true, List, length, take}
use Rattle.table.specs.Table.{Sound}
use Rattle.ledger.specs.Routes.{ledger_words, route_head, route_tail, slot_at, routes_of, route_at, path_words, route_ok}

-- Words from..to of a sound ledger are the path of its route i.
pub record PathFrom (ws : List ℕ) (i from to : ℕ) : Type 0 where
  pub sound : Sound route_head route_tail ws
  pub within : i < length (routes_of ws)
  pub start : from ≡ slot_at (length (routes_of ws)) + path_words (take i (routes_of ws))
  pub end : to ≡ from + length (route_at (routes_of ws) i).path

-- Words are a ledger with a route i that keeps its rules.
pub record RouteIn (ws : List ℕ) (i : ℕ) : Type 0 where
  pub sound : Sound route_head route_tail ws
  pub size : length ws ≡ ledger_words
  pub within : i < length (routes_of ws)
  pub ok : route_ok (route_at (routes_of ws) i) ≡ true

-- The most steps that find a route: a full ledger's routes can be halved nine times.
abbrev pub most_steps : ℕ
most_steps = 10
