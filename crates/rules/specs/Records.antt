-- Provider records, and the hop function that they make ("Roles and hops"; draft 16, section 5; "P6").
use Rattle.std.specs.Prelude.{ℕ, Bool, false, cond, ◌&&◌, ◌||◌, List, [], ◌∷◌, ◌++◌, eqb}
use Rattle.types.specs.declared.Origin.{Origin}
use Rattle.types.specs.declared.Origin.TheVariants.{Public, Overrides}
use Rattle.types.specs.declared.Hop.TheVariants.{NoAttestation, ProviderPlus, NotProviderPlus}
use Rattle.rules.specs.Hops.{HopFunction, lowest}

-- The list of providers that a source filed for a customer.
pub record Record : Type 0 where
  pub customer : ℕ
  pub source : ℕ
  pub providers : List ℕ

unfoldable pub is_in : ℕ → List ℕ → Bool
is_in y [] = false
is_in y (p ∷ ps) = eqb p y || is_in y ps

unfoldable pub attested : List Record → ℕ → Bool
attested [] x = false
attested (r ∷ rs) x = eqb r.customer x || attested rs x

-- The lists of all sources for a customer, united.
unfoldable pub united : List Record → ℕ → List ℕ
united [] x = []
united (r ∷ rs) x = cond (eqb r.customer x) (r.providers ++ united rs x) (united rs x)

-- The list of one source for a customer; empty where there is none.
unfoldable pub list_of : List Record → ℕ → ℕ → List ℕ
list_of [] source x = []
list_of (r ∷ rs) source x = cond (eqb r.customer x && eqb r.source source) r.providers (list_of rs source x)

-- The lowest of the sources 0 to 7 whose list for x holds y.
abbrev pub lowest_source : List Record → ℕ → ℕ → ℕ
lowest_source rs x y = lowest (λ source. is_in y (list_of rs source x)) 0 8

-- The hops over the records of one register.
unfoldable pub hop_of : Origin → List Record → HopFunction
hop_of o rs x y =
    cond (attested rs x) (cond (is_in y (united rs x)) (ProviderPlus o (lowest_source rs x y)) (NotProviderPlus o)) NoAttestation

-- ---- the overrides ("P6")

-- If the overrides hold any record of x, only they count for x; otherwise only the public register.
abbrev pub origin_for : List Record → ℕ → Origin
origin_for overrides x = cond (attested overrides x) Overrides Public

abbrev pub counting : List Record → List Record → ℕ → List Record
counting public overrides x = cond (attested overrides x) overrides public

-- The hops over both.
unfoldable pub hop_over : List Record → List Record → HopFunction
hop_over public overrides x = hop_of (origin_for overrides x) (counting public overrides x) x
