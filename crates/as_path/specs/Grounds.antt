-- The grounds on which a route is Invalid whatever its hops are, in order ("Reading the attribute").
use Rattle.std.specs.Prelude.{ℕ, List, [], ◌∷◌, Bool, false, not, cond, ◌&&◌, ◌||◌, get_or, eqb, None, Option, Some}
use Rattle.types.specs.declared.Ground.TheVariants.{Empty, NotNeighbour, AsSet}
use Rattle.types.specs.Roles.{is_route_server}
use Rattle.as_path.specs.Segments.{Segment}
use Rattle.types.specs.declared.Ground.{Ground}

-- Type 1 is a set, 2 a sequence.
abbrev pub is_set : Segment → Bool
is_set s = eqb s.kind 1

abbrev pub is_sequence : Segment → Bool
is_sequence s = eqb s.kind 2

unfoldable pub has_set : List Segment → Bool
has_set [] = false
has_set (s ∷ ss) = is_set s || has_set ss

-- The first segment is a sequence, the role is not 4, and its first number is not the neighbour.
abbrev pub is_not_neighbour : ℕ → ℕ → Segment → Bool
is_not_neighbour role neighbour s = is_sequence s && not (is_route_server role) && not (eqb (get_or s.numbers 0 0) neighbour)

unfoldable pub ground_of : ℕ → ℕ → List Segment → Option Ground
ground_of role neighbour [] = Some Empty
ground_of role neighbour (s ∷ ss) =
    cond (is_not_neighbour role neighbour s) (Some NotNeighbour)
    (cond (has_set (s ∷ ss)) (Some AsSet)
    None)
