-- Judge over a part of all lists answers by all of them. Assumes nothing.
use Prim.Native.Nat.{ℕ}
use mathlib.Core.Path.{◌≡◌, refl, sym, ap, ◌∙◌, subst}
use mathlib.Core.Bool.{Bool, true, false, cond, true≢false, ◌||◌, ◌&&◌}
use mathlib.Core.List.{List, [], ◌∷◌}
use borrow.Author.Tests.{eqb-true}
use lib.Dec.{eqb}
use Rattle.types.specs.declared.Origin.TheVariants.{Public, Overrides}
use Rattle.types.specs.Rows.{first_given}
use Rattle.types.proofs.Clashes.{clash}
use Rattle.as_path.specs.Segments.{number_at, numbers_at, starts_from, starts, segments}
use Rattle.as_path.specs.Faults.{numbers_fault, segment_fault, fault_among, first_fault}
use Rattle.as_path.specs.Grounds.{has_set, ground_of}
use Rattle.as_path.specs.Merging.{numbers_in, runs_after, merge_runs, merged_path}
use Rattle.as_path.specs.Reading.{content_of}
use Rattle.table.specs.Table.{decode_slots, decode, slots_ok, all_zero, well_formed}
use Rattle.keyed.specs.Keyed.{ascends_from, ascends, every, find}
use Rattle.rules.specs.Hops.{lowest, highest, climb, descend}
use Rattle.rules.specs.Records.{is_in, attested, united, list_of, hop_of, hop_over}
use Rattle.rules.specs.Verdicts.{upstream, downstream, judged}
use Rattle.rules.specs.Judging.{judged_route}
use Rattle.rules.specs.Draft as draft
use Rattle.rules.specs.Vectors.{bytes}
use Rattle.rules.proofs.Laws.{draft_laws}
use Rattle.register.specs.Register.{records_of, listed, rises_from, rises, list_ok, record_ok, room_for, records_ok, register_ok}
use Rattle.effects.specs.Local.{path_of}
use Rattle.effects.proofs.Overridden.{entry, judges}
use Rattle.effects.proofs.Local.{from_numbers, by_path, ten, holding_ten_twenty}
use Rattle.history.specs.Calls.{Call, Tables, Formed, find_record, providers_of}
use Rattle.history.specs.Filings.{FiledLists, filed_list, hop_filed, hop_filed_over, hops_at}
use Rattle.history.specs.Parts.{HoldsPart, Parts, everybody, of_fifty, start_ten, PartVectors}
use Rattle.history.proofs.Simulating.{blank_formed}
use Rattle.history.proofs.Theorems.{demand2}
use Rattle.std.specs.Prelude.{None, Option, Some}

-- The hops from a number go by its own lists.
own_lists : (public overrides public' overrides' : FiledLists) (x : ℕ) → ((source : ℕ) → public source x ≡ public' source x)
    → ((source : ℕ) → overrides source x ≡ overrides' source x) → hop_filed_over public overrides x ≡ hop_filed_over public' overrides' x
unfolding hop_filed_over hop_filed
own_lists public overrides public' overrides' x p o = λ i. hop_filed_over (λ source z. p source i) (λ source z. o source i) x

module _ (t : Tables) (f : Formed t) (public overrides : FiledLists) (l : List Call) (i role neighbour : ℕ) (attribute : List ℕ)
    (h : HoldsPart t l i public overrides (path_of role neighbour attribute)) where
  part_judged : judged_route (hops_at t l i) role neighbour attribute ≡ judged_route (hop_filed_over public overrides) role neighbour attribute
  part_judged =
      by_path (hops_at t l i) (hop_filed_over public overrides) role neighbour attribute
      (from_numbers (hops_at t l i) (hop_filed_over public overrides) (path_of role neighbour attribute)
      (λ x on. own_lists (filed_list t l i Public) (filed_list t l i Overrides) public overrides x
      (λ source. h.in_public source x on) (λ source. h.in_overrides source x on)))

pub parts : Parts
parts t f =
    record {
      part_judges = λ public overrides l i role neighbour attribute h.
          (demand2 t f).judge_answers l i role neighbour attribute ∙ part_judged t f public overrides l i role neighbour attribute h;
      part_drafts = λ public overrides l i role neighbour attribute h a e.
          draft_laws.draft-route (hop_filed_over public overrides) role neighbour attribute a
          (sym ((demand2 t f).judge_answers l i role neighbour attribute ∙ part_judged t f public overrides l i role neighbour attribute h) ∙ e);
    }

-- ---- the vectors

-- What holds of 20 and of 10 holds of the numbers on 20 10.
on_two : (P : ℕ → Type 0) → P 20 → P 10 → (x : ℕ) → is_in x (20 ∷ 10 ∷ []) ≡ true → P x
unfolding is_in
on_two P p q x = go (eqb 20 x) refl (eqb 10 x) refl
  where
    go : (a : Bool) → eqb 20 x ≡ a → (b : Bool) → eqb 10 x ≡ b → (a || (b || false)) ≡ true → P x
    go true e b d h = subst P (eqb-true 20 x e) p
    go false e true d h = subst P (eqb-true 10 x d) q
    go false e false d h = absurd (true≢false (sym h))

-- The list that the records of 10 and 20 have for a source.
abbrev held : ℕ → ℕ → Option (List ℕ)
held source x = providers_of (find_record (x, source) (ten ∷ entry 20 0 (40 ∷ []) ∷ []))

held_is : (source x : ℕ) → filed_list start_ten [] 0 Public source x ≡ held source x
unfolding filed_list
held_is source x = ap (λ rs. providers_of (find_record (x, source) rs)) holding_ten_twenty.public_is

-- No override is.
none_held : (source x : ℕ) → filed_list start_ten [] 0 Overrides source x ≡ None
unfolding filed_list find
none_held source x = ap (λ rs. providers_of (find_record (x, source) rs)) holding_ten_twenty.overrides_is

of_twenty : (source : ℕ) → held source 20 ≡ everybody source 20
unfolding find
of_twenty source = go (eqb source 0)
  where
    go : (b : Bool) → providers_of (cond b (Some (entry 20 0 (40 ∷ []))) None) ≡ cond b (Some (40 ∷ [])) None
    go true = refl
    go false = refl

of_ten : (source : ℕ) → held source 10 ≡ everybody source 10
unfolding find
of_ten source = go (eqb source 0)
  where
    go : (b : Bool) → providers_of (cond b (Some ten) None) ≡ cond b (Some (20 ∷ 30 ∷ [])) None
    go true = refl
    go false = refl

none_of : (b : Bool) → ◌≡◌ {A = Option (List ℕ)} None (cond (b && false) (Some (10 ∷ [])) None)
none_of true = refl
none_of false = refl

start_formed : Formed start_ten
unfolding decode_slots decode slots_ok all_zero well_formed ascends_from ascends every records_of listed rises_from rises is_in list_ok record_ok room_for records_ok register_ok
start_formed =
    record {
      register_long = elim [ Public ↦ refl | Overrides ↦ refl ];
      register-ok = elim [ Public ↦ refl | Overrides ↦ refl ];
      ledger_long = blank_formed.ledger_long;
      ledger-ok = blank_formed.ledger-ok;
    }

pub part_vectors : PartVectors
unfolding filed_list find judged_route first_given content_of number_at numbers_at starts_from starts segments numbers_fault segment_fault fault_among first_fault has_set ground_of numbers_in runs_after merge_runs merged_path lowest highest climb descend is_in attested united list_of hop_of hop_over upstream downstream judged bytes hop_filed hop_filed_over draft.some
part_vectors =
    record {
      start_formed = start_formed;
      part_held =
          record {
            in_public = λ source x on. held_is source x ∙ on_two (λ x. held source x ≡ everybody source x) (of_twenty source) (of_ten source) x on;
            in_overrides = λ source x on. none_held source x
                ∙ on_two (λ x. None ≡ of_fifty source x) (none_of (eqb source 0)) (none_of (eqb source 0)) x on;
          };
      part_alike = (judges holding_ten_twenty 1 20 _ ∙ refl, refl);
      part_lacking = λ h. clash (let z : None ≡ Some (0 ∷ []) = sym (held_is 0 30) ∙ h.in_public 0 30 refl in cc);
      part_apart = (judges holding_ten_twenty 1 10 _ ∙ refl, refl);
    }
