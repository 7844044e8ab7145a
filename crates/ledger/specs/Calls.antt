-- A route stored in the ledger, Drop, and a route judged anew ("The calls").
use Rattle.std.specs.Prelude.{ℕ, suc, Bool, not, cond, ◌&&◌, List, [], ◌∷◌, ltb, eqb, set, Ok, Option, Result}
use Rattle.types.specs.declared.Refusal.{Refusal}
use Rattle.types.specs.declared.Refusal.TheVariants.{RoutesMalformed, RouteTaken, NoRoute, RoutesFull}
use Rattle.types.specs.declared.Verdict.{Verdict}
use Rattle.types.specs.Numbers.{verdict_number, verdict_ground, place_a, place_b}
use Rattle.types.specs.Rows.{row_if, length_row, first_given, Effect, effect, unless_refused}
use Rattle.keyed.specs.Keyed.{holds, find, put, without}
use Rattle.ledger.specs.Routes.{ledger_words, Route, routes_of, route_at, ledger_of, key_of, room_for, ledger_ok}

-- ---- routes: looked for, put in, taken out

abbrev pub find_route : ℕ → List Route → Option Route
find_route number rs = find key_of eqb ltb number rs

abbrev pub holds_route : ℕ → List Route → Bool
holds_route number rs = holds key_of eqb ltb number rs

abbrev pub put_route : Route → List Route → List Route
put_route r rs = put key_of eqb ltb r rs

abbrev pub erase_route : ℕ → List Route → List Route
erase_route number rs = without key_of eqb ltb (eqb number) rs

-- ---- a route goes in: rows 18 and 20

-- A route with a verdict: the verdict's ground, word and places.
abbrev pub route_for : ℕ → ℕ → ℕ → Verdict → List ℕ → Route
route_for number role neighbour v path =
    record {
      number = number;
      role = role;
      neighbour = neighbour;
      ground_code = verdict_ground v;
      verdict = verdict_number v;
      a = place_a v;
      b = place_b v;
      path = path;
    }

abbrev pub store_rows : List ℕ → Route → List (Option Refusal)
store_rows ws r =
    row_if (holds_route r.number (routes_of ws)) RouteTaken
    ∷ row_if (not (room_for (put_route r (routes_of ws)))) RoutesFull
    ∷ []

unfoldable pub store_effect : List ℕ → Route → Effect (Result Unit Refusal)
store_effect ws r =
    unless_refused (first_given (store_rows ws r)) ws
    (effect (Ok tt) (ledger_of (put_route r (routes_of ws))))

-- ---- Drop: rows 1, 3, 19

abbrev pub ledger_row : List ℕ → Option Refusal
ledger_row ws = row_if (not (ledger_ok ws)) RoutesMalformed

abbrev pub drop_rows : List ℕ → ℕ → List (Option Refusal)
drop_rows ws number =
    length_row ledger_words ws
    ∷ ledger_row ws
    ∷ row_if (not (holds_route number (routes_of ws))) NoRoute
    ∷ []

unfoldable pub drop_effect : List ℕ → ℕ → Effect (Result Unit Refusal)
drop_effect ws number =
    unless_refused (first_given (drop_rows ws number)) ws
    (effect (Ok tt) (ledger_of (erase_route number (routes_of ws))))

-- ---- a verdict in a route

-- The route with a verdict's word and places; its ground stays.
abbrev pub stamped : Verdict → Route → Route
stamped v r =
    record {
      number = r.number;
      role = r.role;
      neighbour = r.neighbour;
      ground_code = r.ground_code;
      verdict = verdict_number v;
      a = place_a v;
      b = place_b v;
      path = r.path;
    }

-- Whether two routes differ in the verdict or in a place.
abbrev pub differs : Route → Route → Bool
differs r s = not (eqb r.verdict s.verdict && (eqb r.a s.a && eqb r.b s.b))

-- Route i becomes another: whether the two differ so, and the ledger with the other in its place.
abbrev pub change_effect : List ℕ → ℕ → (Route → Route) → Effect Bool
change_effect ws i f =
    record {
      answer = differs (route_at (routes_of ws) i) (f (route_at (routes_of ws) i));
      words = ledger_of (set (routes_of ws) i (f (route_at (routes_of ws) i)));
    }

-- How many of a ledger's routes differ so from those at their places in another.
unfoldable pub count_differing : List Route → List Route → ℕ
count_differing [] [] = 0
count_differing [] (s ∷ ss) = 0
count_differing (r ∷ rs) [] = 0
count_differing (r ∷ rs) (s ∷ ss) = cond (differs r s) (suc (count_differing rs ss)) (count_differing rs ss)
