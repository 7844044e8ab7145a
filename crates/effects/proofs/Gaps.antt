-- The widest gaps, by computation over the words of registers. Assumes nothing.
use Prim.Native.Nat.{ℕ}
use mathlib.Core.Path.{◌≡◌, refl, ◌∙◌, ap}
use mathlib.Core.List.{List, [], ◌∷◌}
use lib.ListN.{replicate}
use Rattle.types.specs.Rows.{first_given}
use Rattle.as_path.specs.Grounds.{has_set}
use Rattle.as_path.specs.Merging.{numbers_in, runs_after, merge_runs}
use Rattle.table.specs.Table.{slots, bodies, pad, encode, decode_slots, decode, slots_ok, all_zero, well_formed}
use Rattle.keyed.specs.Keyed.{ascends_from, ascends, holds, put, every}
use Rattle.rules.specs.Hops.{lowest, highest, climb, descend}
use Rattle.rules.specs.Records.{Record, is_in, attested, united, list_of, hop_of, hop_over}
use Rattle.rules.specs.Verdicts.{downstream, judged}
use Rattle.rules.specs.Vectors.{bytes, repeated, pairs_then}
use Rattle.rules.proofs.Sequences.{none_read}
use Rattle.rules.proofs.Edges.{pairs_judged}
use Rattle.register.specs.Register.{register_words, records_of, register_of, listed, rises_from, rises, list_ok, record_ok, room_for, records_ok, register_ok}
use Rattle.register.specs.Calls.{file_effect}
use Rattle.registers.specs.Registers.{both_long, both_ok}
use Rattle.effects.specs.Calls.{register_rows, judge_answer}
use Rattle.effects.specs.Vectors.{filed, filled, alone, records_none, over, WidestGaps}
use Rattle.std.specs.Prelude.{None}

empty_passes : first_given (register_rows (alone (replicate register_words 0))) ≡ None
unfolding first_given both_long both_ok decode_slots decode slots_ok all_zero well_formed ascends every records_of listed room_for records_ok register_ok
empty_passes = refl

-- The words after each filing.
abbrev after_one : List ℕ
after_one = filled (1 ∷ 1 ∷ 20 ∷ 0 ∷ 0 ∷ 1 ∷ 30 ∷ [])

abbrev after_two : List ℕ
after_two = filled (2 ∷ 2 ∷ 20 ∷ 0 ∷ 0 ∷ 1 ∷ 30 ∷ 0 ∷ 1 ∷ 1 ∷ 30 ∷ 20 ∷ [])

filings : (filed 20 (30 ∷ []) (replicate register_words 0) ≡ after_one) × (filed 30 (20 ∷ []) after_one ≡ after_two)
unfolding file_effect first_given slots bodies pad encode decode_slots decode slots_ok all_zero well_formed ascends_from ascends holds put every records_of register_of listed rises_from rises is_in list_ok record_ok room_for records_ok register_ok
filings = (refl, refl)

abbrev two : List Record
two = record { customer = 20; source = 0; providers = 30 ∷ [] } ∷ record { customer = 30; source = 0; providers = 20 ∷ [] } ∷ []

two_pass : (first_given (register_rows (alone after_two)) ≡ None) × (records_of after_two ≡ two)
unfolding first_given both_long both_ok decode_slots decode slots_ok all_zero well_formed ascends_from ascends every records_of listed rises_from rises is_in list_ok record_ok room_for records_ok register_ok
two_pass = (refl, refl)

pub widest_gaps : WidestGaps
unfolding bytes repeated has_set numbers_in runs_after merge_runs lowest highest climb descend is_in attested united list_of hop_of hop_over downstream judged
widest_gaps =
    record {
      widest =
          over (alone (replicate register_words 0)) [] [] empty_passes records_none records_none 3 20 (pairs_then [])
          ∙ pairs_judged (hop_over [] []) 3 [] [] refl refl none_read refl refl ∙ refl;
      narrowest =
          ap (λ ws. judge_answer (alone ws) 3 20 (pairs_then [])) (ap (filed 30 (20 ∷ [])) filings.0 ∙ filings.1)
          ∙ over (alone after_two) two [] two_pass.0 two_pass.1 records_none 3 20 (pairs_then [])
          ∙ pairs_judged (hop_over two []) 3 [] [] refl refl none_read refl refl ∙ refl;
    }
