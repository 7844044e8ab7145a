-- The room in a ledger is that which the model tests. Assumes nothing.
use Prim.Native.Nat.{◌+◌}
use mathlib.Core.Path.{◌≡◌, refl, ap, ◌∙◌}
use mathlib.Core.List.{List, [], ◌∷◌, map}
use lib.ListN.{length, length-append, length-map}
use Rattle.table.specs.Table.{bodies}
use Rattle.ledger.specs.Routes.{Route, entry_of, path_words, room_for}
use Rattle.history.specs.Calls.{known}
use Rattle.history.specs.Model.{path_numbers, room_for_routes}

-- The numbers in the paths are those that the model counts.
path-words : (rs : List Route) → path_words rs ≡ path_numbers (map known rs)
unfolding path_words bodies path_numbers
path-words [] = refl
path-words (r ∷ rs) = length-append r.path (bodies (map entry_of rs)) ∙ ap (λ n. length r.path + n) (path-words rs)

-- So the room is that which the model tests.
pub room_known : (rs : List Route) → room_for rs ≡ room_for_routes (map known rs)
unfolding room_for room_for_routes
room_known rs = rw (path-words rs, length-map rs known)
