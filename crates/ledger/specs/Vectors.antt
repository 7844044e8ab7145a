-- Paths in a ledger, by computation: two equal numbers side by side in one path, and in two; the most numbers and places.
use Rattle.std.specs.Prelude.{ℕ, zero, suc, ◌-◌, ◌≡◌, refl, true, false, List, [], ◌∷◌, ◌++◌, length, replicate, Err}
use Rattle.types.specs.declared.Refusal.TheVariants.{RoutesMalformed}
use Rattle.types.specs.Rows.{first_given, effect}
use Rattle.table.specs.Table.{bodies, decode_slots, decode, slots_ok, all_zero, well_formed}
use Rattle.keyed.specs.Keyed.{ascends_from, ascends, every}
use Rattle.ledger.specs.Routes.{ledger_words, routes_of, path_words, no_zero, no_repeat, no_runs, path_ok, route_ok, room_for, routes_ok, ledger_ok}
use Rattle.ledger.specs.Calls.{drop_effect}

-- Words, and zeros to the ledger's end.
abbrev filled : List ℕ → List ℕ
filled ws = ws ++ replicate (ledger_words - length ws) 0

-- Route 7 from customer 20, Invalid by hops 3 and 0, with a path of three numbers.
abbrev pub one : ℕ → ℕ → ℕ → List ℕ
one x y z = filled (1 ∷ 3 ∷ 7 ∷ 1 ∷ 20 ∷ 0 ∷ 1 ∷ 3 ∷ 0 ∷ 0 ∷ 3 ∷ x ∷ y ∷ z ∷ [])

-- What Keep stored of vector O before a run went on over a segment's end: 20 20 10. Drop refuses it by row 3, and leaves it.
pub side_by_side : drop_effect (one 20 20 10) 7 ≡ effect (Err RoutesMalformed) (one 20 20 10)
unfolding drop_effect first_given bodies decode_slots decode slots_ok all_zero well_formed ascends_from ascends every routes_of path_words no_zero no_repeat no_runs path_ok route_ok room_for routes_ok ledger_ok
side_by_side = refl

-- The same at the path's end. With a number between them, or none of them twice, it is a ledger.
pub at_the_end : ledger_ok (one 20 10 10) ≡ false
unfolding bodies decode_slots decode slots_ok all_zero well_formed ascends_from ascends every routes_of path_words no_zero no_repeat no_runs path_ok route_ok room_for routes_ok ledger_ok
at_the_end = refl

pub apart : ledger_ok (one 20 10 20) ≡ true
unfolding bodies decode_slots decode slots_ok all_zero well_formed ascends_from ascends every routes_of path_words no_zero no_repeat no_runs path_ok route_ok room_for routes_ok ledger_ok
apart = refl

-- Two routes of two numbers each: the end of one path may be the start of the next.
pub end_and_start :
    ledger_ok
    (filled (2 ∷ 4 ∷ 7 ∷ 1 ∷ 20 ∷ 0 ∷ 0 ∷ 0 ∷ 0 ∷ 0 ∷ 2 ∷ 8 ∷ 1 ∷ 10 ∷ 0 ∷ 2 ∷ 2 ∷ 0 ∷ 2 ∷ 2 ∷ 20 ∷ 10 ∷ 10 ∷ 30 ∷ []))
    ≡ true
unfolding bodies decode_slots decode slots_ok all_zero well_formed ascends_from ascends every routes_of path_words no_zero no_repeat no_runs path_ok route_ok room_for routes_ok ledger_ok
end_and_start = refl

-- ---- the most numbers and places (P5)

-- Route 7 from provider 20, Unknown, with two places and a path.
abbrev pub unknown : ℕ → ℕ → List ℕ → List ℕ
unknown a b path = filled ((1 ∷ length path ∷ 7 ∷ 3 ∷ 20 ∷ 0 ∷ 2 ∷ a ∷ b ∷ 0 ∷ length path ∷ []) ++ path)

-- n times 20 and 30.
unfoldable pub pairs : ℕ → List ℕ
pairs zero = []
pairs (suc n) = 20 ∷ 30 ∷ pairs n

-- Places up to 512, whatever the path, and no further;
pub places_up_to :
    (ledger_ok (unknown 512 512 (20 ∷ [])) ≡ true)
    × (ledger_ok (unknown 513 512 (20 ∷ [])) ≡ false)
    × (ledger_ok (unknown 512 513 (20 ∷ [])) ≡ false)
unfolding bodies decode_slots decode slots_ok all_zero well_formed ascends_from ascends every routes_of path_words no_zero no_repeat no_runs path_ok route_ok room_for routes_ok ledger_ok
places_up_to = (refl, refl, refl)

-- so with the numbers of a path.
pub numbers_up_to :
    (ledger_ok (unknown 1 2 (pairs 256)) ≡ true)
    × (ledger_ok (unknown 1 2 (pairs 256 ++ (20 ∷ []))) ≡ false)
unfolding pairs bodies decode_slots decode slots_ok all_zero well_formed ascends_from ascends every routes_of path_words no_zero no_repeat no_runs path_ok route_ok room_for routes_ok ledger_ok
numbers_up_to = (refl, refl)
