-- What Valid, Invalid and Unknown say of records that are not yet filed ("P7"), for every hop function, path and role.
use Rattle.std.specs.Prelude.{ℕ, ◌+◌, ◌-◌, ◌≤◌, ◌<◌, ◌≡◌, List, [], ◌∷◌, ◌++◌, map, ◌↔◌, Bool, true, false, not, cond, ◌&&◌, ◌||◌, length, get_or, pos}
use Rattle.std.specs.Int.Signed.{le_z}
use Rattle.types.specs.declared.Origin.TheVariants.{Public}
use Rattle.types.specs.declared.Hop.{Hop}
use Rattle.types.specs.declared.Hop.TheVariants.{ProviderPlus, NotProviderPlus}
use Rattle.types.specs.declared.Verdict.{Verdict}
use Rattle.types.specs.declared.Verdict.TheVariants.{Valid, Invalid, Unknown}
use Rattle.types.specs.Numbers.{verdict_of}
use Rattle.types.specs.Roles.{is_upstream}
use Rattle.rules.specs.Hops.{HopFunction, is_plus, is_not_plus, is_unattested, as_at, up}
use Rattle.rules.specs.Records.{Record, is_in, attested, united, counting, hop_over}
use Rattle.rules.specs.Verdicts.{gap_of, judged}
use Rattle.rules.specs.Draft.{each}

-- ---- definitions

-- Valid, Invalid or Unknown, without its cause or places.
pub data Outcome : Type 0 where
  valid : Outcome
  invalid : Outcome
  unknown : Outcome

abbrev pub outcome_of : Verdict → Outcome
outcome_of Valid = valid
outcome_of (Invalid c) = invalid
outcome_of (Unknown a b) = unknown

abbrev pub outcome : HopFunction → List ℕ → ℕ → Outcome
outcome hop path role = outcome_of (verdict_of (judged hop path role))

-- A filling gives each number a set of providers: any set, the empty one too, and with any numbers in it, the number itself and such as are on no
-- path included. It goes by the number, so one that stands twice on a path has one set.
abbrev pub Filling : Type 0
Filling = ℕ → ℕ → Bool

-- The hops under a filling: one without attestation is Provider+ if the set has the provider, and else Not Provider+; every other hop stays.
-- (No outcome reads the register and the source that are named here.)
abbrev pub filled : HopFunction → Filling → HopFunction
filled hop f x y = cond (is_unattested (hop x y)) (cond (f x y) (ProviderPlus Public 0) (NotProviderPlus Public)) (hop x y)

-- A path is admitted if upstream every hop is Provider+, or downstream L - K is at most 1.
abbrev pub admitted : HopFunction → List ℕ → ℕ → Bool
admitted hop path role =
    cond (is_upstream role) (each (λ u. is_plus (up hop path u)) 2 (length path - 1)) (le_z (gap_of hop path) (pos 1))

-- What an outcome says of a path: every filling admits it; none does; here is one that does, and here is one that does not.
abbrev pub Means : Outcome → HopFunction → List ℕ → ℕ → Type 0
Means valid hop path role = (f : Filling) → admitted (filled hop f) path role ≡ true
Means invalid hop path role = (f : Filling) → admitted (filled hop f) path role ≡ false
Means unknown hop path role =
    ((f : Filling) × (admitted (filled hop f) path role ≡ true)) × ((f : Filling) × (admitted (filled hop f) path role ≡ false))

-- ---- statements

-- The filling in which every number without a record lists nobody, and the one in which it lists everybody.
abbrev pub nobody : Filling
nobody x y = false

abbrev pub everybody : Filling
everybody x y = true

-- Two fillings say the same, both ways, of every two neighbours of the path.
pub record SameSets (f g : Filling) (path : List ℕ) : Type 0 where
  pub upward : (i : ℕ) → 1 ≤ i → i < length path → f (as_at path i) (as_at path (i + 1)) ≡ g (as_at path i) (as_at path (i + 1))
  pub downward : (i : ℕ) → 1 ≤ i → i < length path → f (as_at path (i + 1)) (as_at path i) ≡ g (as_at path (i + 1)) (as_at path i)

pub record FillingLaws : Type 0 where
  -- An outcome is given exactly when what it says of the fillings holds.
  pub meaning : (hop : HopFunction) (path : List ℕ) (role : ℕ) (o : Outcome) → (outcome hop path role ≡ o) ↔ Means o hop path role
  -- Two of them decide it.
  pub two_fillings : (hop : HopFunction) (path : List ℕ) (role : ℕ)
      → outcome hop path role
      ≡ cond (admitted (filled hop everybody) path role) (cond (admitted (filled hop nobody) path role) valid unknown) invalid
  -- Were a filling published, the paths that it admits would be Valid and all others Invalid.
  pub published : (hop : HopFunction) (f : Filling) (path : List ℕ) (role : ℕ)
      → outcome (filled hop f) path role ≡ cond (admitted (filled hop f) path role) valid invalid
  -- A filling is read between neighbours of the path and nowhere else.
  pub read_between : (hop : HopFunction) (f g : Filling) (path : List ℕ) → SameSets f g path → (role : ℕ)
      → admitted (filled hop f) path role ≡ admitted (filled hop g) path role
  -- Over records, the hops that it fills are those of the numbers with a record in neither register, and all of these.
  pub by_number : (public overrides : List Record) (x y : ℕ)
      → is_unattested (hop_over public overrides x y) ≡ not (attested public x || attested overrides x)

-- A path as merging leaves it: no number is 0, and none stands beside itself.
pub record MergedPath (path : List ℕ) : Type 0 where
  pub no-zero : (i : ℕ) → i < length path → get_or path i 0 ≡ 0 → ⊥
  pub no-runs : (i : ℕ) → i + 1 < length path → get_or path i 0 ≡ get_or path (i + 1) 0 → ⊥

-- ---- a filling as records

-- The numbers of a list that pass a test.
unfoldable pub those : (ℕ → Bool) → List ℕ → List ℕ
those test [] = []
those test (x ∷ l) = cond (test x) (x ∷ those test l) (those test l)

-- What a filling comes to on a path: each number of it without a record in either register lists those numbers of the path that are in its set. (And
-- 0, because no list is empty. The order of a list, and the number itself in it, nothing here reads.)
abbrev pub new_records : List Record → List Record → Filling → List ℕ → List Record
new_records public overrides f path =
    map (λ x. record { customer = x; source = 0; providers = 0 ∷ those (f x) path }) (those (λ x. not (attested public x || attested overrides x)) path)

pub record RecordLaws : Type 0 where
  -- With these records beside the others a path has the outcome that it has under the filling, Valid if it is admitted and else Invalid.
  pub realised : (public overrides : List Record) (f : Filling) (path : List ℕ) → MergedPath path → (role : ℕ)
      → outcome (hop_over (new_records public overrides f path ++ public) overrides) path role
      ≡ cond (admitted (filled (hop_over public overrides) f) path role) valid invalid
  -- They are all for numbers that had none.
  pub for_new : (public overrides : List Record) (f : Filling) (path : List ℕ) (x : ℕ) → (attested public x || attested overrides x) ≡ true
      → attested (new_records public overrides f path) x ≡ false

-- ---- which changes leave an outcome, exactly

-- From the first hops to the second: such a path with the outcome still has it, in every role.
abbrev pub Stays : Outcome → HopFunction → HopFunction → Type 0
Stays o hop hop' = (path : List ℕ) → MergedPath path → (role : ℕ) → outcome hop path role ≡ o → outcome hop' path role ≡ o

-- Each hop that can be on such a path and passes the test over the first hops passes it over the second.
abbrev pub StillPasses : (Hop → Bool) → HopFunction → HopFunction → Type 0
StillPasses test hop hop' = (x y : ℕ) → 1 ≤ x → 1 ≤ y → (x ≡ y → ⊥) → test (hop x y) ≡ true → test (hop' x y) ≡ true

pub record StayLaws : Type 0 where
  -- Valid stays exactly if every Provider+ hop does, and Invalid exactly if every Not Provider+ hop does.
  pub valid_stays : (hop hop' : HopFunction) → Stays valid hop hop' ↔ StillPasses is_plus hop hop'
  pub invalid_stays : (hop hop' : HopFunction) → Stays invalid hop hop' ↔ StillPasses is_not_plus hop hop'
  -- Over records: Provider+ if the lists that count hold the number, Not Provider+ if there are such lists and none of them holds it.
  pub plus_is : (public overrides : List Record) (x y : ℕ)
      → is_plus (hop_over public overrides x y) ≡ is_in y (united (counting public overrides x) x)
  pub not_plus_is : (public overrides : List Record) (x y : ℕ)
      → is_not_plus (hop_over public overrides x y)
      ≡ (attested (counting public overrides x) x && not (is_in y (united (counting public overrides x) x)))
  -- So both stay where no attested hop changes: records that are new for their numbers alter neither.
  pub new_hops : (hop hop' : HopFunction) → ((x y : ℕ) → is_unattested (hop x y) ≡ false → hop' x y ≡ hop x y)
      → Stays valid hop hop' × Stays invalid hop hop'
