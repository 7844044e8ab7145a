-- A ledger's slots.
use Rattle.std.specs.Prelude.{ℕ, ◌<◌, List, [], ◌∷◌, ◌++◌, length, take}
use Rattle.table.specs.Table.{Sound}
use Rattle.ledger.specs.Routes.{Route, route_head, route_tail, entry_of, routes_of, route_at, path_words}

-- Words are a sound table of routes, with a route i.
pub record SlotIn (ws : List ℕ) (i : ℕ) : Type 0 where
  pub sound : Sound route_head route_tail ws
  pub within : i < length (routes_of ws)

-- The words of route i's slot: its columns, where its path starts, and how long that is.
abbrev pub slot_words : List Route → ℕ → List ℕ
slot_words rs i = (entry_of (route_at rs i)).head ++ (path_words (take i rs) ∷ length (route_at rs i).path ∷ [])
