-- The number that the rules give to each case of the enums, and the values that a verdict holds.
use Rattle.std.specs.Prelude.{Result, ok_or, ℕ, cond, ℤ, eqb, None, Option, Some}
use Rattle.types.specs.declared.Role.{Role}
use Rattle.types.specs.declared.Role.TheVariants.{Customer, Peer, Provider, RouteServer, RouteServerClient, MutualTransit}
use Rattle.types.specs.declared.Ground.{Ground}
use Rattle.types.specs.declared.Ground.TheVariants.{Empty, NotNeighbour, AsSet}
use Rattle.types.specs.declared.Origin.{Origin}
use Rattle.types.specs.declared.Origin.TheVariants.{Public, Overrides}
use Rattle.types.specs.declared.Origins.{Origins}
use Rattle.types.specs.declared.Origins.TheVariants.{One, Two}
use Rattle.types.specs.declared.Cause.{Cause}
use Rattle.types.specs.declared.Cause.TheVariants.{ByGround, ByHops}
use Rattle.types.specs.declared.Verdict.{Verdict}
use Rattle.types.specs.declared.Verdict.TheVariants.{Valid, Invalid, Unknown}
use Rattle.types.specs.declared.Answer.{Answer}
use Rattle.types.specs.declared.Answer.TheVariants.{Plain, WithGap}
use Rattle.types.specs.declared.Fault.{Fault}
use Rattle.types.specs.declared.Fault.TheVariants.{CutShort, UnknownType, Confederation, NoNumbers, ZeroNumber}
use Rattle.types.specs.declared.Refusal.{Refusal}
use Rattle.types.specs.declared.Refusal.TheVariants.{TableLength, RegisterMalformed, RoutesMalformed, SourceNumber, CustomerZero, ProviderList, NoRecord, RegisterFull, RoleNumber, NeighbourZero, AttributeLength, Attribute, PathLength, RouteTaken, NoRoute, RoutesFull, OutputLength, Edition, Contents, SnapshotLength}

-- Roles: 1 customer, 2 lateral peer, 3 provider, 4 route server, 5 route-server client, 6 mutual transit.
abbrev pub role_number : Role → ℕ
role_number Customer = 1
role_number Peer = 2
role_number Provider = 3
role_number RouteServer = 4
role_number RouteServerClient = 5
role_number MutualTransit = 6

-- No other number is a role.
abbrev pub role_of : ℕ → Option Role
role_of n =
    cond (eqb n (role_number Customer)) (Some Customer)
    (cond (eqb n (role_number Peer)) (Some Peer)
    (cond (eqb n (role_number Provider)) (Some Provider)
    (cond (eqb n (role_number RouteServer)) (Some RouteServer)
    (cond (eqb n (role_number RouteServerClient)) (Some RouteServerClient)
    (cond (eqb n (role_number MutualTransit)) (Some MutualTransit)
    None)))))

-- What a number is read as; row 9 where it is no role's.
abbrev pub role_read : ℕ → Result Role Refusal
role_read n = ok_or (role_of n) RoleNumber

-- Grounds: 1 empty path, 2 the first number is not the neighbour (the rules say stranger), 3 a set.
abbrev pub ground_number : Ground → ℕ
ground_number Empty = 1
ground_number NotNeighbour = 2
ground_number AsSet = 3

-- Verdict words: 0 Valid, 1 Invalid, 2 Unknown.
abbrev pub verdict_number : Verdict → ℕ
verdict_number Valid = 0
verdict_number (Invalid c) = 1
verdict_number (Unknown a b) = 2

abbrev pub cause_ground : Cause → ℕ
cause_ground (ByGround g) = ground_number g
cause_ground (ByHops a b o) = 0

-- A ledger entry's ground: 0 where the verdict has none.
abbrev pub verdict_ground : Verdict → ℕ
verdict_ground Valid = 0
verdict_ground (Invalid c) = cause_ground c
verdict_ground (Unknown a b) = 0

abbrev pub cause_a : Cause → ℕ
cause_a (ByGround g) = 0
cause_a (ByHops a b o) = a

abbrev pub cause_b : Cause → ℕ
cause_b (ByGround g) = 0
cause_b (ByHops a b o) = b

-- The places a and b: 0 for Valid and for a ground.
abbrev pub place_a : Verdict → ℕ
place_a Valid = 0
place_a (Invalid c) = cause_a c
place_a (Unknown a b) = a

abbrev pub place_b : Verdict → ℕ
place_b Valid = 0
place_b (Invalid c) = cause_b c
place_b (Unknown a b) = b

-- Registers: 1 public, 2 overrides; 0 stands where no hop is named.
abbrev pub origin_number : Origin → ℕ
origin_number Public = 1
origin_number Overrides = 2

abbrev pub first_origin : Origins → ℕ
first_origin (One a) = origin_number a
first_origin (Two a b) = origin_number a

abbrev pub second_origin : Origins → ℕ
second_origin (One a) = 0
second_origin (Two a b) = origin_number b

abbrev pub cause_origin_a : Cause → ℕ
cause_origin_a (ByGround g) = 0
cause_origin_a (ByHops a b o) = first_origin o

abbrev pub cause_origin_b : Cause → ℕ
cause_origin_b (ByGround g) = 0
cause_origin_b (ByHops a b o) = second_origin o

-- The register of the hop at place a, and at place b: only an Invalid by hops names one.
abbrev pub origin_a : Verdict → ℕ
origin_a Valid = 0
origin_a (Invalid c) = cause_origin_a c
origin_a (Unknown a b) = 0

abbrev pub origin_b : Verdict → ℕ
origin_b Valid = 0
origin_b (Invalid c) = cause_origin_b c
origin_b (Unknown a b) = 0

-- ---- answers

-- The verdict of an answer.
abbrev pub verdict_of : Answer → Verdict
verdict_of (Plain v) = v
verdict_of (WithGap v g) = v

-- The gap L - K of an answer that gives one.
abbrev pub answer_gap : Answer → Option ℤ
answer_gap (Plain v) = None
answer_gap (WithGap v g) = Some g

-- ---- refusals

-- Rows 12 to 16 of the table of refusals.
abbrev pub fault_number : Fault → ℕ
fault_number CutShort = 12
fault_number UnknownType = 13
fault_number Confederation = 14
fault_number NoNumbers = 15
fault_number ZeroNumber = 16

-- The table of refusals, row by row.
abbrev pub refusal_number : Refusal → ℕ
refusal_number TableLength = 1
refusal_number RegisterMalformed = 2
refusal_number RoutesMalformed = 3
refusal_number SourceNumber = 4
refusal_number CustomerZero = 5
refusal_number ProviderList = 6
refusal_number NoRecord = 7
refusal_number RegisterFull = 8
refusal_number RoleNumber = 9
refusal_number NeighbourZero = 10
refusal_number AttributeLength = 11
refusal_number (Attribute f p) = fault_number f
refusal_number PathLength = 17
refusal_number RouteTaken = 18
refusal_number NoRoute = 19
refusal_number RoutesFull = 20
refusal_number OutputLength = 21
refusal_number Edition = 22
refusal_number Contents = 23
refusal_number SnapshotLength = 24

-- The place of a refusal: for rows 12 to 16 the byte of the attribute where the fault begins. No other row has one.
abbrev pub refusal_place : Refusal → Option ℕ
refusal_place TableLength = None
refusal_place RegisterMalformed = None
refusal_place RoutesMalformed = None
refusal_place SourceNumber = None
refusal_place CustomerZero = None
refusal_place ProviderList = None
refusal_place NoRecord = None
refusal_place RegisterFull = None
refusal_place RoleNumber = None
refusal_place NeighbourZero = None
refusal_place AttributeLength = None
refusal_place (Attribute f p) = Some p
refusal_place PathLength = None
refusal_place RouteTaken = None
refusal_place NoRoute = None
refusal_place RoutesFull = None
refusal_place OutputLength = None
refusal_place Edition = None
refusal_place Contents = None
refusal_place SnapshotLength = None
