-- The ledger ("Tables"): kept routes in a packed table.
use Rattle.std.specs.Prelude.{ℕ, ◌+◌, ◌-◌, ◌*◌, Bool, true, not, cond, ◌&&◌, ◌||◌, List, [], ◌∷◌, map, leb, ltb, eqb, length, get_or}
use Rattle.types.specs.Roles.{is_role, is_route_server}
use Rattle.as_path.specs.Reading.{most_numbers}
use Rattle.table.specs.Table.{Entry, counters, width, bodies, encode, decode, well_formed}
use Rattle.keyed.specs.Keyed.{ascends, rank, every}

-- ---- the words

abbrev pub most_routes : ℕ
most_routes = 512

abbrev pub most_path_words : ℕ
most_path_words = 8192

-- A route's slot: head words, start and length of its path, tail words.
abbrev pub route_head : ℕ
route_head = 7

abbrev pub route_tail : ℕ
route_tail = 0

abbrev pub route_width : ℕ
route_width = width route_head route_tail

abbrev pub ledger_words : ℕ
ledger_words = counters + most_routes * route_width + most_path_words

-- Where slot i begins. Behind the last slot the paths do.
abbrev pub slot_at : ℕ → ℕ
slot_at i = counters + i * route_width

-- The words of a slot, counted from its first.
abbrev pub number_word : ℕ
number_word = 0

abbrev pub role_word : ℕ
role_word = 1

abbrev pub neighbour_word : ℕ
neighbour_word = 2

abbrev pub ground_word : ℕ
ground_word = 3

abbrev pub verdict_word : ℕ
verdict_word = 4

abbrev pub a_word : ℕ
a_word = 5

abbrev pub b_word : ℕ
b_word = 6

abbrev pub start_word : ℕ
start_word = route_head

abbrev pub count_word : ℕ
count_word = route_head + 1

-- ---- routes

-- A kept route: its number, the neighbour's role and number, the ground (0: none), the verdict with its places, the merged path.
pub record Route : Type 0 where
  pub number : ℕ
  pub role : ℕ
  pub neighbour : ℕ
  pub ground_code : ℕ
  pub verdict : ℕ
  pub a : ℕ
  pub b : ℕ
  pub path : List ℕ

abbrev pub route_of : Entry → Route
route_of e =
    record {
      number = get_or e.head number_word 0;
      role = get_or e.head role_word 0;
      neighbour = get_or e.head neighbour_word 0;
      ground_code = get_or e.head ground_word 0;
      verdict = get_or e.head verdict_word 0;
      a = get_or e.head a_word 0;
      b = get_or e.head b_word 0;
      path = e.body;
    }

abbrev pub entry_of : Route → Entry
entry_of r =
    record {
      head = r.number ∷ r.role ∷ r.neighbour ∷ r.ground_code ∷ r.verdict ∷ r.a ∷ r.b ∷ [];
      body = r.path;
      tail = [];
    }

-- The routes that a ledger's words hold, and the words that hold routes.
unfoldable pub routes_of : List ℕ → List Route
routes_of ws = map route_of (decode route_head route_tail ws)

unfoldable pub ledger_of : List Route → List ℕ
ledger_of rs = encode ledger_words (map entry_of rs)

abbrev pub key_of : Route → ℕ
key_of r = r.number

-- Route i; past the end, one that no ledger holds.
abbrev pub route_at : List Route → ℕ → Route
route_at rs i = get_or rs i (record { number = 0; role = 0; neighbour = 0; ground_code = 0; verdict = 0; a = 0; b = 0; path = [] })

-- Where a route stands, or would: how many come before it.
unfoldable pub position_of : ℕ → List Route → ℕ
position_of number rs = rank key_of eqb ltb number rs

-- How many numbers the paths hold together.
unfoldable pub path_words : List Route → ℕ
path_words rs = length (bodies (map entry_of rs))

-- ---- the column rules

unfoldable pub no_zero : List ℕ → Bool
no_zero [] = true
no_zero (x ∷ l) = not (eqb x 0) && no_zero l

-- No number equals the one before it; before the first stands x.
unfoldable pub no_repeat : ℕ → List ℕ → Bool
no_repeat x [] = true
no_repeat x (y ∷ l) = not (eqb y x) && no_repeat y l

-- No two neighbours are equal (P4).
unfoldable pub no_runs : List ℕ → Bool
no_runs [] = true
no_runs (x ∷ l) = no_repeat x l

-- A path: as long as a path may be, no number 0, no two equal side by side, the first one the neighbour unless the role is 4.
unfoldable pub path_ok : ℕ → ℕ → List ℕ → Bool
path_ok role neighbour path =
    leb 1 (length path)
    && (leb (length path) most_numbers
    && (no_zero path && (no_runs path && (is_route_server role || eqb (get_or path 0 0) neighbour))))

-- With a ground: no path, Invalid, no places, and ground 2 never with role 4.
unfoldable pub ground_ok : Route → Bool
ground_ok r =
    eqb (length r.path) 0 && (eqb r.verdict 1 && (eqb r.a 0 && (eqb r.b 0 && not (eqb r.ground_code 2 && is_route_server r.role))))

unfoldable pub route_ok : Route → Bool
route_ok r =
    is_role r.role
    && (leb 1 r.neighbour
    && (leb r.ground_code 3
    && (leb r.verdict 2
    && (leb r.a most_numbers
    && (leb r.b most_numbers && cond (eqb r.ground_code 0) (path_ok r.role r.neighbour r.path) (ground_ok r))))))

-- Route i stands behind the one before it; the first stands behind none.
unfoldable pub is_behind : List Route → ℕ → Bool
is_behind rs i = eqb i 0 || ltb (key_of (route_at rs (i - 1))) (key_of (route_at rs i))

-- The ledger fits its two limits (row 20).
unfoldable pub room_for : List Route → Bool
room_for rs = leb (length rs) most_routes && leb (path_words rs) most_path_words

unfoldable pub routes_ok : List Route → Bool
routes_ok rs = room_for rs && (every route_ok rs && ascends key_of eqb ltb rs)

-- The word rules of a ledger (row 3); its length is row 1's.
unfoldable pub ledger_ok : List ℕ → Bool
ledger_ok ws = well_formed route_head route_tail ws && routes_ok (routes_of ws)
