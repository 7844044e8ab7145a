-- What the documents say of hops and lists over one register, as statements. proofs/Laws.antt has the proof.
use Rattle.std.specs.Prelude.{ℕ, ◌-◌, ◌≤◌, ◌<◌, ◌≡◌, true, false, List, [], length, take, drop, None, Option, Some}
use Rattle.types.specs.declared.Origin.{Origin}
use Rattle.types.specs.declared.Hop.TheVariants.{NoAttestation, ProviderPlus, NotProviderPlus}
use Rattle.rules.specs.Records.{Record, is_in, attested, united, list_of, hop_of}
use Rattle.register.specs.Register.{records_of, register_ok}
use Rattle.register.specs.Calls.{find_record}
use Rattle.hops.specs.Spans.{span_of}

-- The list of a record that was found; the empty list where none was.
abbrev pub list_in : Option Record → List ℕ
list_in None = []
list_in (Some r) = r.providers

-- The part of the words from one index to before another.
abbrev pub part_of : ℕ → ℕ → List ℕ → List ℕ
part_of from to ws = take (to - from) (drop from ws)

-- Of a Provider+: the source that it names lists the provider, and no lower source does.
pub record NamesLowest (rs : List Record) (x y source : ℕ) : Type 0 where
  pub lists : is_in y (list_of rs source x) ≡ true
  pub none_lower : (s : ℕ) → s < source → is_in y (list_of rs s x) ≡ false

pub record HopLaws : Type 0 where
  -- The list of a source for a customer is that of the record under the pair.
  pub list_found : (rs : List Record) (source x : ℕ) → list_of rs source x ≡ list_in (find_record (x, source) rs)
  -- In the words it is the part that a look-up hands back.
  pub span_within : (ws : List ℕ) → register_ok ws ≡ true → (source x : ℕ)
      → ((span_of (records_of ws) source x).from ≤ (span_of (records_of ws) source x).to) × ((span_of (records_of ws) source x).to ≤ length ws)
  pub span_is : (ws : List ℕ) → register_ok ws ≡ true → (source x : ℕ)
      → part_of (span_of (records_of ws) source x).from (span_of (records_of ws) source x).to ws ≡ list_of (records_of ws) source x
  -- A Provider+ is by the register that was asked, and names the lowest source that lists the provider.
  pub provider_is : (ws : List ℕ) → register_ok ws ≡ true → (o p : Origin) (x y source : ℕ) → hop_of o (records_of ws) x y ≡ ProviderPlus p source
      → (p ≡ o) × NamesLowest (records_of ws) x y source
  -- A Not Provider+ is by the register that was asked: it has a record of x, and none that lists y.
  pub other_is : (rs : List Record) (o p : Origin) (x y : ℕ) → hop_of o rs x y ≡ NotProviderPlus p
      → (p ≡ o) × (attested rs x ≡ true) × (is_in y (united rs x) ≡ false)
  -- No Attestation: it has no record of x.
  pub none_is : (rs : List Record) (o : Origin) (x y : ℕ) → hop_of o rs x y ≡ NoAttestation → attested rs x ≡ false
