-- The laws of the two registers, gathered. Assumes nothing.
use Prim.Native.Nat.{ℕ}
use mathlib.Core.Path.{◌≡◌, refl, sym, ◌∙◌, ap}
use mathlib.Core.Bool.{Bool, true, false, cond, true≢false}
use Rattle.types.specs.declared.Origin.{Origin}
use Rattle.types.specs.declared.Hop.TheVariants.{NoAttestation, ProviderPlus}
use Rattle.rules.specs.Records.{attested, list_of, hop_of, hop_over}
use Rattle.register.specs.Register.{records_of}
use Rattle.hops.specs.Spans.{span_of}
use Rattle.hops.specs.Laws.{NamesLowest}
use Rattle.hops.proofs.Laws.{hop_laws}
use Rattle.registers.specs.Registers.{Registers, hop_in, both_ok, chosen}
use Rattle.registers.specs.Laws.{records_for, origin_in, RegistersLaws}
use Rattle.registers.proofs.Choosing.{chosen_counts, chosen_ok}

module _ (reg : Registers) (x : ℕ) where
  -- The hops from x are those by the register that counts.
  by_chosen : hop_in reg x ≡ hop_of (origin_in reg x) (records_of (chosen (origin_in reg x) reg)) x
  unfolding hop_over
  by_chosen = ap (λ rs. hop_of (origin_in reg x) rs x) (sym (chosen_counts reg x))

  provider_is : both_ok reg ≡ true → (o : Origin) (y source : ℕ) → hop_in reg x y ≡ ProviderPlus o source
      → (o ≡ origin_in reg x) × NamesLowest (records_for reg x) x y source
  provider_is b o y source h =
      let l = hop_laws.provider_is (chosen (origin_in reg x) reg) (chosen_ok reg b (origin_in reg x)) (origin_in reg x) o x y source
      (sym (ap (λ f. f y) by_chosen) ∙ h) in
      (l.0, rw (chosen_counts reg x) at l.1)

  -- A register that counts and has no record is the public one.
  none_is : (y : ℕ) → hop_in reg x y ≡ NoAttestation → (attested (records_of reg.public) x ≡ false) × (attested (records_of reg.overrides) x ≡ false)
  unfolding hop_over
  none_is y h = go (attested (records_of reg.overrides) x) refl (hop_laws.none_is (records_for reg x) (origin_in reg x) x y h)
    where
      go : (b : Bool) → attested (records_of reg.overrides) x ≡ b → attested (cond b (records_of reg.overrides) (records_of reg.public)) x ≡ false
          → (attested (records_of reg.public) x ≡ false) × (attested (records_of reg.overrides) x ≡ false)
      go true e k = absurd (true≢false (sym e ∙ k))
      go false e k = (k, e)

  -- The span that counts is that of the register that counts.
  span_chosen : (source : ℕ) → span_of (records_of (chosen (origin_in reg x) reg)) source x ≡ span_of (records_for reg x) source x
  span_chosen source = ap (λ rs. span_of rs source x) (chosen_counts reg x)

pub registers_laws : RegistersLaws
unfolding hop_over
registers_laws =
    record {
      chosen_counts = chosen_counts;
      provider_is = λ reg b o x y source. provider_is reg x b o y source;
      other_is = λ reg o x y. hop_laws.other_is (records_for reg x) (origin_in reg x) o x y;
      none_is = λ reg x y. none_is reg x y;
      part_within = λ reg b source x.
          rw (← span_chosen reg x source) (hop_laws.span_within (chosen (origin_in reg x) reg) (chosen_ok reg b (origin_in reg x)) source x);
      part_is = λ reg b source x.
          rw (← span_chosen reg x source) (hop_laws.span_is (chosen (origin_in reg x) reg) (chosen_ok reg b (origin_in reg x)) source x)
          ∙ ap (λ rs. list_of rs source x) (chosen_counts reg x);
    }
