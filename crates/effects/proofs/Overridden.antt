-- The vectors of two registers, by computation over their words. Assumes nothing.
use Prim.Native.Nat.{ℕ, ◌≤◌}
use mathlib.Core.Path.{◌≡◌, refl, ◌∙◌}
use mathlib.Core.List.{List, [], ◌∷◌}
use native.Mathlib.Omega.{arith}
use Rattle.types.specs.Rows.{first_given}
use Rattle.as_path.specs.Segments.{number_at, numbers_at, starts_from, starts, segments}
use Rattle.as_path.specs.Faults.{numbers_fault, segment_fault, fault_among, first_fault}
use Rattle.as_path.specs.Grounds.{has_set, ground_of}
use Rattle.as_path.specs.Merging.{numbers_in, runs_after, merge_runs, merged_path}
use Rattle.as_path.specs.Reading.{content_of}
use Rattle.table.specs.Table.{decode_slots, decode, slots_ok, all_zero, well_formed}
use Rattle.keyed.specs.Keyed.{ascends_from, ascends, every}
use Rattle.rules.specs.Hops.{lowest, highest, climb, descend}
use Rattle.rules.specs.Records.{Record, is_in, attested, united, list_of, hop_of, counting, hop_over}
use Rattle.rules.specs.Verdicts.{upstream, downstream, judged}
use Rattle.rules.specs.Judging.{judged_route}
use Rattle.rules.specs.Vectors.{register_d, bytes}
use Rattle.register.specs.Register.{last_source, records_of, listed, rises_from, rises, list_ok, record_ok, room_for, records_ok, register_ok}
use Rattle.registers.specs.Registers.{Registers, both_long, both_ok, BothFormed}
use Rattle.effects.specs.Calls.{judge_answer, hop_answer, lookup_list}
use Rattle.effects.specs.Vectors.{packed_d, alone, records_none, corrected, two_sources, hidden, OverrideVectors}
use Rattle.effects.proofs.Judgings.{judge_answers}
use Rattle.effects.proofs.Lookups.{hop_answers, lookup_answers}
use Rattle.std.specs.Prelude.{Ok}

-- Registers that pass rows 1 and 2, and the records that they hold.
pub record Holding (reg : Registers) (public overrides : List Record) : Type 0 where
  pub formed : BothFormed reg
  pub public_is : records_of reg.public ≡ public
  pub overrides_is : records_of reg.overrides ≡ overrides

abbrev pub entry : ℕ → ℕ → List ℕ → Record
entry customer source providers = record { customer = customer; source = source; providers = providers }

abbrev pub corrections : List Record
corrections = entry 10 0 (30 ∷ []) ∷ entry 20 0 (50 ∷ []) ∷ []

abbrev pub two-sources : List Record
two-sources = entry 10 0 (20 ∷ []) ∷ entry 10 2 (20 ∷ 30 ∷ []) ∷ []

abbrev hiding : List Record
hiding = entry 10 1 (40 ∷ []) ∷ []

pub holding_d : Holding (alone packed_d) register_d []
unfolding both_long both_ok decode_slots decode slots_ok all_zero well_formed ascends_from ascends every records_of listed rises_from rises is_in list_ok record_ok room_for records_ok register_ok
holding_d = record { formed = record { long = refl; ok = refl }; public_is = refl; overrides_is = records_none }

pub holding_corrected : Holding corrected register_d corrections
unfolding both_long both_ok decode_slots decode slots_ok all_zero well_formed ascends_from ascends every records_of listed rises_from rises is_in list_ok record_ok room_for records_ok register_ok
holding_corrected = record { formed = record { long = refl; ok = refl }; public_is = refl; overrides_is = refl }

pub holding_two : Holding (alone two_sources) two-sources []
unfolding both_long both_ok decode_slots decode slots_ok all_zero well_formed ascends_from ascends every records_of listed rises_from rises is_in list_ok record_ok room_for records_ok register_ok
holding_two = record { formed = record { long = refl; ok = refl }; public_is = refl; overrides_is = records_none }

holding_hidden : Holding hidden two-sources hiding
unfolding both_long both_ok decode_slots decode slots_ok all_zero well_formed ascends_from ascends every records_of listed rises_from rises is_in list_ok record_ok room_for records_ok register_ok
holding_hidden = record { formed = record { long = refl; ok = refl }; public_is = refl; overrides_is = refl }

-- What is answered over them is what the definitions say over these records.
module _ {reg : Registers} {public overrides : List Record} (h : Holding reg public overrides) where
  pub judges : (role neighbour : ℕ) (attribute : List ℕ)
      → judge_answer reg role neighbour attribute ≡ judged_route (hop_over public overrides) role neighbour attribute
  judges role neighbour attribute =
      judge_answers reg role neighbour attribute h.formed.long h.formed.ok
      ∙ (λ i. judged_route (hop_over (h.public_is i) (h.overrides_is i)) role neighbour attribute)

  hops : (x y : ℕ) → hop_answer reg x y ≡ Ok (hop_over public overrides x y)
  hops x y = hop_answers reg x y h.formed ∙ (λ i. Ok (hop_over (h.public_is i) (h.overrides_is i) x y))

  looks : (source customer : ℕ) → source ≤ last_source → 1 ≤ customer
      → lookup_list reg source customer ≡ list_of (counting public overrides customer) source customer
  looks source customer a b =
      lookup_answers reg source customer h.formed a b ∙ (λ i. list_of (counting (h.public_is i) (h.overrides_is i) customer) source customer)

pub override_vectors : OverrideVectors
unfolding judged_route first_given content_of number_at numbers_at starts_from starts segments numbers_fault segment_fault fault_among first_fault has_set ground_of numbers_in runs_after merge_runs merged_path lowest highest climb descend is_in attested united list_of hop_of hop_over upstream downstream judged bytes
override_vectors =
    record {
      was_valid = judges holding_d 1 20 _ ∙ refl;
      turns_invalid = judges holding_corrected 1 20 _ ∙ refl;
      was_invalid = judges holding_d 1 50 _ ∙ refl;
      turns_valid = judges holding_corrected 1 50 _ ∙ refl;
      public_then_overrides = judges holding_corrected 3 20 _ ∙ refl;
      overrides_then_public = judges holding_corrected 3 40 _ ∙ refl;
      by_source_0 = hops holding_two 10 20 ∙ refl;
      by_source_2 = hops holding_two 10 30 ∙ refl;
      by_none = hops holding_two 10 40 ∙ refl;
      no_record = hops holding_hidden 20 30 ∙ refl;
      override_lists = hops holding_hidden 10 40 ∙ refl;
      public_hidden = hops holding_hidden 10 30 ∙ refl;
      looked_up = (
        looks holding_two 2 10 (omega arith) (omega arith) ∙ refl,
        looks holding_hidden 1 10 (omega arith) (omega arith) ∙ refl,
      );
      looked_up_hidden = (
        looks holding_hidden 2 10 (omega arith) (omega arith) ∙ refl,
        looks holding_hidden 0 10 (omega arith) (omega arith) ∙ refl,
      );
    }
