-- What the documents say of the two registers, as statements. proofs/Laws.antt has the proof.
use Rattle.std.specs.Prelude.{ℕ, ◌≤◌, ◌≡◌, true, false, List, length}
use Rattle.types.specs.declared.Origin.{Origin}
use Rattle.types.specs.declared.Hop.TheVariants.{NoAttestation, ProviderPlus, NotProviderPlus}
use Rattle.rules.specs.Records.{Record, is_in, attested, united, list_of, origin_for, counting}
use Rattle.register.specs.Register.{records_of}
use Rattle.hops.specs.Laws.{part_of, NamesLowest}
use Rattle.registers.specs.Registers.{Registers, hop_in, both_ok, chosen, part_in}

-- The records that count for x, and the register that they are in.
abbrev pub records_for : Registers → ℕ → List Record
records_for reg x = counting (records_of reg.public) (records_of reg.overrides) x

abbrev pub origin_in : Registers → ℕ → Origin
origin_in reg x = origin_for (records_of reg.overrides) x

pub record RegistersLaws : Type 0 where
  -- The records that count are those of that register.
  pub chosen_counts : (reg : Registers) (x : ℕ) → records_of (chosen (origin_in reg x) reg) ≡ records_for reg x
  -- Provider+ names the register that counts for x, and the lowest source that lists y there.
  pub provider_is : (reg : Registers) → both_ok reg ≡ true → (o : Origin) (x y source : ℕ) → hop_in reg x y ≡ ProviderPlus o source
      → (o ≡ origin_in reg x) × NamesLowest (records_for reg x) x y source
  -- Not Provider+ names it too: it has a record of x, and none that lists y.
  pub other_is : (reg : Registers) (o : Origin) (x y : ℕ) → hop_in reg x y ≡ NotProviderPlus o
      → (o ≡ origin_in reg x) × (attested (records_for reg x) x ≡ true) × (is_in y (united (records_for reg x) x) ≡ false)
  -- No Attestation: neither register has a record of x.
  pub none_is : (reg : Registers) (x y : ℕ) → hop_in reg x y ≡ NoAttestation
      → (attested (records_of reg.public) x ≡ false) × (attested (records_of reg.overrides) x ≡ false)
  -- The part that a look-up finds lies within its register, and holds the source's list there.
  pub part_within : (reg : Registers) → both_ok reg ≡ true → (source x : ℕ)
      → ((part_in reg source x).from ≤ (part_in reg source x).to) × ((part_in reg source x).to ≤ length (chosen (part_in reg source x).origin reg))
  pub part_is : (reg : Registers) → both_ok reg ≡ true → (source x : ℕ)
      → part_of (part_in reg source x).from (part_in reg source x).to (chosen (part_in reg source x).origin reg) ≡ list_of (records_for reg x) source x
