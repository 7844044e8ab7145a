-- What the documents say of overrides and of the registers that are named ("P6"), as statements. proofs/Overrides.antt has the proof.
use Rattle.std.specs.Prelude.{ℕ, ◌≤◌, ◌≡◌, true, false, cond, List, [], ◌∷◌, eqb, length}
use Rattle.types.specs.declared.Origin.{Origin}
use Rattle.types.specs.declared.Origin.TheVariants.{Public}
use Rattle.types.specs.declared.Origins.{Origins}
use Rattle.types.specs.declared.Origins.TheVariants.{One, Two}
use Rattle.types.specs.declared.Hop.TheVariants.{NoAttestation, ProviderPlus, NotProviderPlus}
use Rattle.types.specs.declared.Cause.TheVariants.{ByHops}
use Rattle.types.specs.declared.Verdict.TheVariants.{Invalid}
use Rattle.rules.specs.Hops.{HopFunction, as_at, up, down}
use Rattle.rules.specs.Records.{Record, is_in, attested, united, hop_of, hop_over}
use Rattle.rules.specs.Verdicts.{upstream, downstream, judged}
use Rattle.rules.specs.Judging.{judged_route}

-- ---- which register counts

-- The records of every other customer.
unfoldable pub without_customer : ℕ → List Record → List Record
without_customer x [] = []
without_customer x (r ∷ rs) = cond (eqb r.customer x) (without_customer x rs) (r ∷ without_customer x rs)

-- The hops as they were before there were overrides: one register, and a Provider+ names no source of its own.
abbrev pub hop_before : List Record → HopFunction
hop_before rs x y = cond (attested rs x) (cond (is_in y (united rs x)) (ProviderPlus Public 0) (NotProviderPlus Public)) NoAttestation

pub record OverrideLaws : Type 0 where
  -- A customer with any override is judged as if it had no public record,
  pub hidden_hops : (public overrides : List Record) (x : ℕ) → attested overrides x ≡ true
      → hop_over public overrides ≡ hop_over (without_customer x public) overrides
  pub hidden_verdict : (public overrides : List Record) (x : ℕ) → attested overrides x ≡ true → (role neighbour : ℕ) (attribute : List ℕ)
      → judged_route (hop_over public overrides) role neighbour attribute ≡ judged_route (hop_over (without_customer x public) overrides) role neighbour attribute
  -- and one without as if there were no overrides: word, places, registers and gap of a path none of whose numbers has one.
  pub bare_hops : (public overrides : List Record) (x : ℕ) → attested overrides x ≡ false → hop_over public overrides x ≡ hop_over public [] x
  pub bare_verdict : (public overrides : List Record) (path : List ℕ)
      → ((i : ℕ) → 1 ≤ i → i ≤ length path → attested overrides (as_at path i) ≡ false) → (role : ℕ)
      → judged (hop_over public overrides) path role ≡ judged (hop_over public []) path role
  -- No overrides: the hops are those of the public register, and every answer is the one of before.
  pub none_hops : (public : List Record) → hop_over public [] ≡ hop_of Public public
  pub as_before : (public : List Record) (role neighbour : ℕ) (attribute : List ℕ)
      → judged_route (hop_over public []) role neighbour attribute ≡ judged_route (hop_before public) role neighbour attribute

-- ---- the registers that an Invalid names

-- Upstream: the hop to AS(a) is Not Provider+ by that register, and no other hop is named.
pub record NamedUp (hop : HopFunction) (path : List ℕ) (a b : ℕ) (named : Origins) : Type 0 where
  pub origin : Origin
  pub is : named ≡ One origin
  pub upward : up hop path a ≡ NotProviderPlus origin
  pub no_other : b ≡ 0

-- Downstream: so are the hop up to AS(a) and the one down to AS(b), each by its own.
pub record NamedBoth (hop : HopFunction) (path : List ℕ) (a b : ℕ) (named : Origins) : Type 0 where
  pub first : Origin
  pub second : Origin
  pub is : named ≡ Two first second
  pub upward : up hop path a ≡ NotProviderPlus first
  pub downward : down hop path b ≡ NotProviderPlus second

pub record OriginLaws : Type 0 where
  pub up_named : (hop : HopFunction) (path : List ℕ) (a b : ℕ) (named : Origins) → upstream hop path ≡ Invalid (ByHops a b named)
      → NamedUp hop path a b named
  pub down_named : (hop : HopFunction) (path : List ℕ) (a b : ℕ) (named : Origins) → downstream hop path ≡ Invalid (ByHops a b named)
      → NamedBoth hop path a b named
