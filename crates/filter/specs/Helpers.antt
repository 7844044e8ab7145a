-- What the filter's inner functions promise each other.
use Rattle.std.specs.Prelude.{ℕ, cond, List, eqb, ltb, length, Err, None, Ok, Option, Result, Some}
use Rattle.types.specs.declared.Refusal.TheVariants.{RoleNumber, NeighbourZero, AttributeLength}
use Rattle.types.specs.Numbers.{role_of}
use Rattle.rules.specs.Judging.{most_bytes}
use Rattle.types.specs.declared.Refusal.{Refusal}
use Rattle.types.specs.declared.Role.{Role}
use Rattle.types.specs.declared.Neighbour.{Neighbour}

-- Rows 9, 10 and 11, and the neighbour that is known when none of them is given.
abbrev pub after_role : Option Role → ℕ → List ℕ → Result Neighbour Refusal
after_role None neighbour attribute = Err RoleNumber
after_role (Some role) neighbour attribute =
    cond (eqb neighbour 0) (Err NeighbourZero)
    (cond (ltb most_bytes (length attribute)) (Err AttributeLength)
    (Ok (record { role = role; number = record { 0 = neighbour } })))

abbrev pub known_from : ℕ → ℕ → List ℕ → Result Neighbour Refusal
known_from role neighbour attribute = after_role (role_of role) neighbour attribute
