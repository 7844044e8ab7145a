-- What a role's number decides ("Roles and hops").
use Rattle.std.specs.Prelude.{ℕ, Bool, not, ◌&&◌, ◌||◌, leb, eqb}
use Rattle.types.specs.declared.Role.TheVariants.{Customer, Provider, RouteServer, MutualTransit}
use Rattle.types.specs.Numbers.{role_number}

-- The roles are 1 to 6.
abbrev pub least_role : ℕ
least_role = role_number Customer

abbrev pub greatest_role : ℕ
greatest_role = role_number MutualTransit

abbrev pub is_role : ℕ → Bool
is_role n = leb least_role n && leb n greatest_role

-- Role 4, whose routes are spared the neighbour check.
abbrev pub is_route_server : ℕ → Bool
is_route_server n = eqb n (role_number RouteServer)

-- Roles 3 and 6 are judged downstream, the others upstream.
abbrev pub is_upstream : ℕ → Bool
is_upstream n = not (eqb n (role_number Provider) || eqb n (role_number MutualTransit))
