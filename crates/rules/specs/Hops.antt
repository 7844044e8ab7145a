-- A path, its hops, and the searches along it ("Roles and hops").
use Rattle.std.specs.Prelude.{ℕ, zero, suc, ◌+◌, ◌-◌, List, Bool, true, false, cond, length, get_or}
use Rattle.types.specs.declared.Origin.{Origin}
use Rattle.types.specs.declared.Origin.TheVariants.{Public}
use Rattle.types.specs.declared.Hop.{Hop}
use Rattle.types.specs.declared.Hop.TheVariants.{NoAttestation, ProviderPlus, NotProviderPlus}

abbrev pub is_plus : Hop → Bool
is_plus NoAttestation = false
is_plus (ProviderPlus o s) = true
is_plus (NotProviderPlus o) = false

abbrev pub is_not_plus : Hop → Bool
is_not_plus NoAttestation = false
is_not_plus (ProviderPlus o s) = false
is_not_plus (NotProviderPlus o) = true

abbrev pub is_unattested : Hop → Bool
is_unattested NoAttestation = true
is_unattested (ProviderPlus o s) = false
is_unattested (NotProviderPlus o) = false

-- The register that a hop is by ("P6"). No Attestation is by none, and nothing reads it there.
abbrev pub origin_of : Hop → Origin
origin_of NoAttestation = Public
origin_of (ProviderPlus o s) = o
origin_of (NotProviderPlus o) = o

-- hop(x, y): what the records of x say of y.
abbrev pub HopFunction : Type 0
HopFunction = ℕ → ℕ → Hop

-- AS(i) of a path whose left end is AS(N), the neighbour's side, and whose right end is AS(1), the origin.
abbrev pub as_at : List ℕ → ℕ → ℕ
as_at path i = get_or path (length path - i) 0

-- hop(AS(u-1), AS(u)), upward, and hop(AS(v+1), AS(v)), downward.
abbrev pub up : HopFunction → List ℕ → ℕ → Hop
up hop path u = hop (as_at path (u - 1)) (as_at path u)

abbrev pub down : HopFunction → List ℕ → ℕ → Hop
down hop path v = hop (as_at path (v + 1)) (as_at path v)

-- The lowest of the n indices from i on that passes the test, or the one after them.
unfoldable pub lowest : (ℕ → Bool) → ℕ → ℕ → ℕ
lowest test i zero = i
lowest test i (suc n) = cond (test i) i (lowest test (i + 1) n)

-- The highest of the n indices from i on that passes the test, or the one before them.
unfoldable pub highest : (ℕ → Bool) → ℕ → ℕ → ℕ
highest test i zero = i - 1
highest test i (suc n) = cond (test (i + n)) (i + n) (highest test i n)

-- The highest index reached from k by Provider+ hops upward, of which there are at most n.
unfoldable pub climb : HopFunction → List ℕ → ℕ → ℕ → ℕ
climb hop path k zero = k
climb hop path k (suc n) = cond (is_plus (up hop path (k + 1))) (climb hop path (k + 1) n) k

-- The lowest index reached from n + 1 by Provider+ hops downward.
unfoldable pub descend : HopFunction → List ℕ → ℕ → ℕ
descend hop path zero = 1
descend hop path (suc n) = cond (is_plus (down hop path (n + 1))) (descend hop path n) (n + 2)
