-- The vectors, by computation over records. Assumes nothing.
use Prim.Native.Nat.{ℕ, zero, suc, ◌+◌, ◌≤◌, ◌<◌}
use mathlib.Core.Path.{◌≡◌, refl, sym, ap, ◌∙◌}
use mathlib.Core.Bool.{Bool, true, false, ◌||◌, true≢false}
use native.Mathlib.Omega.{arith}
use borrow.Author.Tests.{eqb-true}
use lib.Dec.{eqb}
use mathlib.Core.List.{List, [], ◌∷◌}
use lib.ListN.{get_or}
use Rattle.types.specs.declared.Origin.{Origin}
use Rattle.types.specs.declared.Origin.TheVariants.{Public, Overrides}
use Rattle.types.specs.Rows.{first_given}
use Rattle.as_path.specs.Segments.{segments, starts, starts_from, number_at, numbers_at}
use Rattle.as_path.specs.Faults.{first_fault, fault_among, numbers_fault, segment_fault}
use Rattle.as_path.specs.Grounds.{has_set, ground_of}
use Rattle.as_path.specs.Merging.{numbers_in, runs_after, merge_runs, merged_path}
use Rattle.as_path.specs.Reading.{content_of}
use Rattle.table.specs.Table.{decode_slots, decode, slots_ok, all_zero, well_formed}
use Rattle.keyed.specs.Keyed.{ascends_from, ascends, every, holds, put, without}
use Rattle.rules.specs.Hops.{HopFunction, as_at, lowest, highest, climb, descend}
use Rattle.rules.specs.Records.{is_in, attested, united, list_of, hop_of, hop_over}
use Rattle.rules.specs.Verdicts.{upstream, downstream, judged}
use Rattle.rules.specs.Judging.{judged_route}
use Rattle.rules.specs.Draft.{each}
use Rattle.rules.specs.Vectors.{register_d, bytes, sequence}
use Rattle.register.specs.Register.{records_of, listed, rises_from, rises, list_ok, record_ok, room_for, records_ok, register_ok}
use Rattle.register.specs.Calls.{file_rows, withdraw_rows, record_for, erase_record}
use Rattle.register.specs.Laws.{Register}
use Rattle.register.proofs.Laws.{file_records, withdraw_records, register_laws}
use Rattle.registers.specs.Registers.{Registers, chosen, hop_in, both_long, both_ok, BothFormed}
use Rattle.registers.proofs.Choosing.{chosen_long, chosen_ok}
use Rattle.effects.specs.Calls.{judge_answer}
use Rattle.effects.specs.Vectors.{packed_d, alone, records_none}
use Rattle.effects.proofs.Judgings.{judge_answers}
use Rattle.history.specs.Calls.{Call, file, withdraw, leaves}
use Rattle.fillings.specs.Fillings.{those}
use Rattle.fillings.specs.Calls.{Unattested, AllIn}
use Rattle.fillings.specs.Vectors.{sets, lists, FillingVectors, tables_d, around, OutcomeVectors}
use Rattle.fillings.proofs.Filings.{hop_after}
use Rattle.fillings.proofs.FilingCalls.{rewritten_formed, formed, put_in}
use Rattle.std.specs.Prelude.{None}

pub filling_vectors : FillingVectors
unfolding lowest highest climb descend is_in attested united list_of hop_of hop_over upstream downstream judged each those
filling_vectors =
    record {
      is_unknown = refl;
      does_list = refl;
      lists_another = refl;
      lists_itself = refl;
      climbs = refl;
      gap_left = refl;
      attested_stays = refl;
      both_listed = refl;
      one_listed = refl;
      as_records = refl;
      same_between = record { upward = upward; downward = downward };
      comes_back = record { no-zero = no-zero; no-runs = no-runs };
    }
  where
    upward : (i : ℕ) → 1 ≤ i → i < 2 → sets (lists 60 (7 ∷ 60 ∷ []) ∷ []) (as_at (30 ∷ 60 ∷ []) i) (as_at (30 ∷ 60 ∷ []) (i + 1)) ≡ false
    upward zero a b = absurd (omega arith)
    upward (suc zero) a b = refl
    upward (suc (suc i)) a b = absurd (omega arith)

    downward : (i : ℕ) → 1 ≤ i → i < 2 → sets (lists 60 (7 ∷ 60 ∷ []) ∷ []) (as_at (30 ∷ 60 ∷ []) (i + 1)) (as_at (30 ∷ 60 ∷ []) i) ≡ false
    downward zero a b = absurd (omega arith)
    downward (suc zero) a b = refl
    downward (suc (suc i)) a b = absurd (omega arith)

    path : List ℕ
    path = 50 ∷ 20 ∷ 50 ∷ []

    no-zero : (i : ℕ) → i < 3 → get_or path i 0 ≡ 0 → ⊥
    no-zero zero a e = omega arith
    no-zero (suc zero) a e = omega arith
    no-zero (suc (suc zero)) a e = omega arith
    no-zero (suc (suc (suc i))) a e = omega arith

    no-runs : (i : ℕ) → i + 1 < 3 → get_or path i 0 ≡ get_or path (i + 1) 0 → ⊥
    no-runs zero a e = omega arith
    no-runs (suc zero) a e = omega arith
    no-runs (suc (suc i)) a e = omega arith

-- ---- calls

-- Register D's words are well formed, and hold its records.
formed_d : BothFormed (alone packed_d)
unfolding both_long both_ok decode_slots decode slots_ok all_zero well_formed ascends_from ascends every records_of listed rises_from rises is_in list_ok record_ok room_for records_ok register_ok
formed_d = record { long = refl; ok = refl }

public_d : Register packed_d
public_d = record { long = chosen_long (alone packed_d) formed_d.long Public; ok = chosen_ok (alone packed_d) formed_d.ok Public }

records_d : records_of packed_d ≡ register_d
unfolding records_of decode_slots decode
records_d = refl

-- What Judge answers over registers with these hops.
judges : (reg : Registers) → BothFormed reg → {hop : HopFunction} → hop_in reg ≡ hop → (role neighbour : ℕ) (attribute : List ℕ)
    → judge_answer reg role neighbour attribute ≡ judged_route hop role neighbour attribute
judges reg w e role neighbour attribute =
    judge_answers reg role neighbour attribute w.long w.ok ∙ ap (λ hop. judged_route hop role neighbour attribute) e

hops_d : hop_in (alone packed_d) ≡ hop_over register_d []
hops_d = λ i. hop_over (records_d i) (records_none i)

around_is : (c : Call) {hop : HopFunction} → BothFormed (leaves tables_d c).registers → hop_in (leaves tables_d c).registers ≡ hop → (role : ℕ) (path : List ℕ)
    → around c role path
    ≡ judged_route (hop_over register_d []) role (get_or path 0 0) (sequence path) ∷ judged_route hop role (get_or path 0 0) (sequence path) ∷ []
around_is c w e role path =
    λ i. judges (alone packed_d) formed_d hops_d role (get_or path 0 0) (sequence path) i
    ∷ judges (leaves tables_d c).registers w e role (get_or path 0 0) (sequence path) i
    ∷ []

-- A filing that is done.
module _ (o : Origin) (source customer : ℕ) (list : List ℕ) (e : first_given (file_rows (chosen o (alone packed_d)) source customer list) ≡ None) where
  filed : (role : ℕ) (path : List ℕ)
      → around (file o source customer list) role path
      ≡ judged_route (hop_over register_d []) role (get_or path 0 0) (sequence path)
      ∷ judged_route (hop_after (record_for source customer list) register_d [] o) role (get_or path 0 0) (sequence path)
      ∷ []
  filed =
      around_is (file o source customer list) (formed (alone packed_d) o source customer list formed_d)
      (put_in (alone packed_d) o source customer list o _ (file_records (chosen o (alone packed_d)) source customer list e)
      ∙ (λ i. hop_after (record_for source customer list) (records_d i) (records_none i) o))

-- A withdrawal that is done.
module _ (source customer : ℕ) (e : first_given (withdraw_rows packed_d source customer) ≡ None) where
  withdrawn : (role : ℕ) (path : List ℕ)
      → around (withdraw Public source customer) role path
      ≡ judged_route (hop_over register_d []) role (get_or path 0 0) (sequence path)
      ∷ judged_route (hop_over (erase_record customer source register_d) []) role (get_or path 0 0) (sequence path)
      ∷ []
  withdrawn =
      around_is (withdraw Public source customer)
      (rewritten_formed (alone packed_d) formed_d Public _ (register_laws.withdraw_formed packed_d public_d source customer))
      (λ i. hop_over ((withdraw_records packed_d source customer e ∙ ap (erase_record customer source) records_d) i) (records_none i))

no_record : Unattested tables_d.registers 60
unfolding attested
no_record = record { in_public = rw records_d; in_overrides = rw records_none }

grows : AllIn (40 ∷ []) (40 ∷ 50 ∷ [])
unfolding is_in
grows y b = go (eqb 40 y) (eqb 50 y)
  where
    go : (s t : Bool) → (s || false) ≡ true → (s || (t || false)) ≡ true
    go true t e = refl
    go false t e = absurd (true≢false (sym e))

from_zero : AllIn (0 ∷ []) (50 ∷ [])
unfolding is_in
from_zero y b e = go (eqb 0 y) refl e
  where
    go : (s : Bool) → eqb 0 y ≡ s → (s || false) ≡ true → (eqb 50 y || false) ≡ true
    go true z e = absurd (omega (arith, eqb-true 0 y z))
    go false z e = absurd (true≢false (sym e))

pub outcome_vectors : OutcomeVectors
unfolding judged_route first_given content_of number_at numbers_at starts_from starts segments numbers_fault segment_fault fault_among first_fault has_set ground_of numbers_in runs_after merge_runs merged_path lowest highest climb descend is_in attested united list_of hop_of hop_over upstream downstream judged bytes decode_slots decode slots_ok all_zero well_formed ascends_from ascends every holds put without records_of listed rises_from rises list_ok record_ok room_for records_ok register_ok
outcome_vectors =
    record {
      no_record = no_record;
      grows = grows;
      from_zero = from_zero;
      has_path = record { passes = refl; read = refl };
      place_moves = filed Public 1 60 (10 ∷ []) refl 1 (50 ∷ 20 ∷ 60 ∷ []) ∙ refl;
      place_moves_too = filed Overrides 1 60 (10 ∷ []) refl 1 (50 ∷ 20 ∷ 60 ∷ []) ∙ refl;
      gap_moves = filed Public 1 60 (70 ∷ []) refl 3 (60 ∷ 70 ∷ []) ∙ refl;
      turns_valid = filed Public 0 60 (30 ∷ []) refl 1 (30 ∷ 60 ∷ []) ∙ refl;
      turns_invalid = filed Public 0 60 (20 ∷ []) refl 1 (30 ∷ 60 ∷ []) ∙ refl;
      vector_n = filed Public 1 20 (50 ∷ []) refl 1 (50 ∷ 20 ∷ 10 ∷ []) ∙ refl;
      valid_lost = withdrawn 0 20 refl 1 (40 ∷ 20 ∷ 10 ∷ []) ∙ refl;
      invalid_lost = withdrawn 0 20 refl 1 (50 ∷ 20 ∷ 10 ∷ []) ∙ refl;
      list_grows = filed Public 0 20 (40 ∷ 50 ∷ []) refl 1 (50 ∷ 20 ∷ 10 ∷ []) ∙ refl;
      list_shrinks = filed Public 0 10 (30 ∷ []) refl 1 (20 ∷ 10 ∷ []) ∙ refl;
      list_hidden = filed Overrides 0 10 (30 ∷ []) refl 1 (20 ∷ 10 ∷ []) ∙ refl;
    }
