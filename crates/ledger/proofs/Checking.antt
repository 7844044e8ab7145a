-- A route's own rules, on the words of a ledger. Assumes nothing.
use Prim.Native.Nat.{ℕ, ◌+◌, ◌-◌, ◌≤◌}
use mathlib.Core.Path.{◌≡◌, refl}
use mathlib.Core.Bool.{Bool, true, false, not, cond, ◌&&◌}
use mathlib.Core.List.{List}
use native.Mathlib.Omega.{arith}
use borrow.Author.Tests.{eq-eqb, ne_eqb}
use lib.Dec.{leb, eqb}
use lib.ListN.{length, get_or, take, drop}
use Rattle.types.specs.declared.Role.TheVariants.{RouteServer}
use Rattle.types.specs.Numbers.{role_number}
use Rattle.types.specs.Roles.{is_role}
use Rattle.as_path.specs.Reading.{most_numbers}
use Rattle.ledger.specs.Routes.{route_width, slot_at, role_word, neighbour_word, ground_word, verdict_word, a_word, b_word}
use Rattle.ledger.specs.Routes.{Route, routes_of, route_at, path_ok, ground_ok, route_ok}
use Rattle.ledger.specs.Helpers.{PathFrom}
use Rattle.ledger.proofs.Entries.{slot_within, role_is, neighbour_is, ground_is, verdict_is, a_is, b_is}
use Rattle.ledger.proofs.Entries.{path_is, path_within}

-- The tests of the columns, and then the others.
columns_first : (a b c d e f g : Bool) → (a && (b && (c && (d && (e && (f && g)))))) ≡ ((a && (b && (c && (d && (e && f))))) && g)
columns_first false b c d e f g = refl
columns_first true false c d e f g = refl
columns_first true true false d e f g = refl
columns_first true true true false e f g = refl
columns_first true true true true false f g = refl
columns_first true true true true true f g = refl

-- A route's rules: its columns, and then the path or the ground.
route_columns : (r : Route)
    → route_ok r
    ≡ ((is_role r.role && (leb 1 r.neighbour && (leb r.ground_code 3 && (leb r.verdict 2 && (leb r.a most_numbers && leb r.b most_numbers)))))
    && cond (eqb r.ground_code 0) (path_ok r.role r.neighbour r.path) (ground_ok r))
unfolding route_ok
route_columns r =
    columns_first (is_role r.role) (leb 1 r.neighbour) (leb r.ground_code 3) (leb r.verdict 2) (leb r.a most_numbers) (leb r.b most_numbers)
    (cond (eqb r.ground_code 0) (path_ok r.role r.neighbour r.path) (ground_ok r))

module _ {ws : List ℕ} {i from to : ℕ} (p : PathFrom ws i from to) where
  -- The slot of a route is within the words.
  pub slot_inside : slot_at i + route_width ≤ length ws
  slot_inside = slot_within ws p.sound i p.within

  -- So is its path.
  pub path_inside : to ≤ length ws
  path_inside = omega (arith, p.start, p.end, path_within ws p.sound i p.within)

  -- Word j of its slot.
  abbrev cell : ℕ → ℕ
  cell j = get_or ws (slot_at i + j) 0

  -- The words of its path.
  abbrev part : List ℕ
  part = take (to - from) (drop from ws)

  -- The tests of its columns.
  abbrev columns : Bool
  columns =
      is_role (cell role_word)
      && (leb 1 (cell neighbour_word)
      && (leb (cell ground_word) 3 && (leb (cell verdict_word) 2 && (leb (cell a_word) most_numbers && leb (cell b_word) most_numbers))))

  -- The tests of a route with a ground, with the number of the route server's role.
  abbrev grounded : ℕ → Bool
  grounded server =
      eqb (to - from) 0
      && (eqb (cell verdict_word) 1 && (eqb (cell a_word) 0 && (eqb (cell b_word) 0 && not (eqb (cell ground_word) 2 && eqb (cell role_word) server))))

  -- As many words as its path has numbers.
  long : to - from ≡ length (route_at (routes_of ws) i).path
  long = omega (arith, p.end)

  -- They are its path.
  pub part_is : part ≡ (route_at (routes_of ws) i).path
  part_is = rw (long, p.start) (path_is ws p.sound i p.within)

  -- The rules of route i, on the words.
  opened : route_ok (route_at (routes_of ws) i) ≡ (columns && cond (eqb (cell ground_word) 0) (path_ok (cell role_word) (cell neighbour_word) part) (grounded (role_number RouteServer)))
  unfolding ground_ok
  opened =
      let s = p.sound in
      let h = p.within in
      rw (part_is, long, role_is ws s i h, neighbour_is ws s i h, ground_is ws s i h, verdict_is ws s i h, a_is ws s i h, b_is ws s i h)
      (route_columns (route_at (routes_of ws) i))

  -- A column is out of its range.
  pub out_of_range : columns ≡ false → false ≡ route_ok (route_at (routes_of ws) i)
  out_of_range e = rw (opened, e)

  -- Without a ground the path decides.
  pub by_path : columns ≡ true → cell ground_word ≡ 0 → path_ok (cell role_word) (cell neighbour_word) part ≡ route_ok (route_at (routes_of ws) i)
  by_path e k = rw (opened, e, eq-eqb (cell ground_word) 0 k)

  -- With a ground the rules of the ground do.
  pub by_ground : columns ≡ true → (cell ground_word ≡ 0 → ⊥) → {server : ℕ} → server ≡ role_number RouteServer
      → grounded server ≡ route_ok (route_at (routes_of ws) i)
  by_ground e k q = rw (opened, e, ne_eqb (cell ground_word) 0 k, q)
