-- A judging reads the records of the numbers on the path, and no other. Assumes nothing.
use Prim.Native.Nat.{ℕ, ◌+◌, ◌-◌, ◌≤◌}
use mathlib.Core.Path.{◌≡◌, refl, sym, ◌∙◌, ap, subst}
use mathlib.Core.Bool.{Bool, true, false, cond, true≢false, ◌||◌, ◌&&◌}
use mathlib.Core.List.{List, [], ◌∷◌, ◌++◌}
use native.Mathlib.Omega.{arith}
use borrow.Author.Tests.{eqb-true}
use lib.Dec.{eqb}
use lib.ListN.{length, take}
use Rattle.types.specs.declared.Origin.{Origin}
use Rattle.types.specs.declared.Origin.TheVariants.{Public, Overrides}
use Rattle.types.specs.declared.Hop.TheVariants.{NoAttestation, ProviderPlus, NotProviderPlus}
use Rattle.types.specs.Numbers.{verdict_of}
use Rattle.types.specs.Rows.{first_given}
use Rattle.as_path.specs.Segments.{number_at, numbers_at, starts_from, starts, segments}
use Rattle.as_path.specs.Faults.{numbers_fault, segment_fault, fault_among, first_fault}
use Rattle.as_path.specs.Grounds.{has_set, ground_of}
use Rattle.as_path.specs.Merging.{numbers_in, runs_after, merge_runs, merged_path}
use Rattle.as_path.specs.Reading.{content_of}
use Rattle.table.specs.Table.{decode_slots, decode, slots_ok, all_zero, well_formed}
use Rattle.keyed.specs.Keyed.{ascends_from, ascends, every}
use Rattle.rules.specs.Hops.{HopFunction, as_at, lowest, highest, climb, descend}
use Rattle.rules.specs.Records.{Record, is_in, attested, united, list_of, hop_of, hop_over}
use Rattle.rules.specs.Verdicts.{upstream, downstream, judged}
use Rattle.rules.specs.Judging.{judged_route}
use Rattle.rules.specs.Laws.{SameHops}
use Rattle.rules.specs.Vectors.{register_d, bytes, sequence}
use Rattle.rules.proofs.Locality.{same_judged, same_route}
use Rattle.providers.proofs.Members.{at_in}
use Rattle.register.specs.Register.{records_of, listed, rises_from, rises, list_ok, record_ok, room_for, records_ok, register_ok}
use Rattle.registers.specs.Registers.{Registers, hop_in, both_long, both_ok, BothFormed}
use Rattle.ledger.specs.Calls.{stamped}
use Rattle.effects.specs.Calls.{path_in, judge_answer}
use Rattle.effects.specs.Vectors.{packed_d, records_none}
use Rattle.effects.specs.Local.{records_on, SameOn, SameRecords, path_of, LocalLaws, ten_twenty, ten_only, ten_corrected, LocalVectors}
use Rattle.effects.proofs.Judgings.{judge_answers}
use Rattle.effects.proofs.Overridden.{Holding, entry, holding_d, holding_corrected, holding_two, judges}

-- ---- the records of one customer

module _ (x : ℕ) where
  -- Two lists of records say the same of x: its lists united, whether it has a record, and the list of each source.
  abbrev SaidBy : List Record → List Record → Type 0
  SaidBy l rs = (united l x ≡ united rs x) × (attested l x ≡ attested rs x) × ((source : ℕ) → list_of l source x ≡ list_of rs source x)

  -- What all records say of x its own say,
  own : (rs : List Record) → SaidBy (records_on x rs) rs
  unfolding records_on attested united list_of
  own [] = (refl, refl, λ source. refl)
  own (r ∷ rs) = go (eqb r.customer x) refl (own rs)
    where
      go : (b : Bool) → eqb r.customer x ≡ b → SaidBy (records_on x rs) rs → SaidBy (records_on x (r ∷ rs)) (r ∷ rs)
      go true e ih = (
        rw e (λ i. cond (e i) (r.providers ++ ih.0 i) (ih.0 i)),
        rw e (λ i. e i || ih.1 i),
        λ source. rw e (λ i. cond (e i && eqb r.source source) r.providers (ih.2 source i)),
      )
      go false e ih = (rw e ih.0, rw e ih.1, λ source. rw e (ih.2 source))

  -- and so its hops by them are the same.
  own_hop : (o : Origin) (rs : List Record) → hop_of o (records_on x rs) x ≡ hop_of o rs x
  unfolding hop_of
  own_hop o rs =
      let e = own rs in
      λ i y. cond (e.1 i) (cond (is_in y (e.0 i)) (ProviderPlus o (lowest (λ source. is_in y (e.2 source i)) 0 8)) (NotProviderPlus o)) NoAttestation

  -- By both registers as well: the same one counts.
  own_hops : (public overrides : List Record) → hop_over (records_on x public) (records_on x overrides) x ≡ hop_over public overrides x
  unfolding hop_over
  own_hops public overrides = rw (own overrides).1 (go (attested overrides x))
    where
      go : (b : Bool) → hop_of (cond b Overrides Public) (cond b (records_on x overrides) (records_on x public)) x
          ≡ hop_of (cond b Overrides Public) (cond b overrides public) x
      go true = own_hop Overrides overrides
      go false = own_hop Public public

-- ---- the numbers on the path

-- Each hop between neighbours, up or down, is one from a number on the path.
pub from_numbers : (hop hop' : HopFunction) (path : List ℕ) → ((x : ℕ) → is_in x path ≡ true → hop x ≡ hop' x) → SameHops hop hop' path
from_numbers hop hop' path same =
    record {
      upward = λ i a b. ap (λ f. f (as_at path (i + 1))) (at i a (omega arith));
      downward = λ i a b. ap (λ f. f (as_at path i)) (at (i + 1) (omega arith) (omega arith));
    }
  where
    at : (i : ℕ) → 1 ≤ i → i ≤ length path → hop (as_at path i) ≡ hop' (as_at path i)
    at i a b = same (as_at path i) (at_in (as_at path i) path (length path - i) (omega arith) refl)

same_hops : (public overrides public' overrides' : List Record) (path : List ℕ) → SameOn path public public' → SameOn path overrides overrides'
    → SameHops (hop_over public overrides) (hop_over public' overrides') path
same_hops public overrides public' overrides' path p o =
    from_numbers (hop_over public overrides) (hop_over public' overrides') path
    (λ x h. sym (own_hops x public overrides) ∙ (λ j. hop_over (p x h j) (o x h j) x) ∙ own_hops x public' overrides')

-- So over two pairs of registers.
same_in : (reg reg' : Registers) (path : List ℕ) → SameRecords reg reg' path → SameHops (hop_in reg) (hop_in reg') path
same_in reg reg' path s =
    same_hops (records_of reg.public) (records_of reg.overrides) (records_of reg'.public) (records_of reg'.overrides) path
    s.in_public s.in_overrides

-- ---- the answers

-- The answer to a route goes by the hops of its path.
pub by_path : (hop hop' : HopFunction) (role neighbour : ℕ) (attribute : List ℕ) → SameHops hop hop' (path_of role neighbour attribute)
    → judged_route hop role neighbour attribute ≡ judged_route hop' role neighbour attribute
by_path hop hop' role neighbour attribute s =
    same_route hop hop' role neighbour attribute (λ path c. same_judged (subst (SameHops hop hop') (ap path_in c) s) role)

-- So does Judge's over well-formed registers.
any_hops : (hop : HopFunction) (reg : Registers) → BothFormed reg → (role neighbour : ℕ) (attribute : List ℕ)
    → SameHops (hop_in reg) hop (path_of role neighbour attribute) → judge_answer reg role neighbour attribute ≡ judged_route hop role neighbour attribute
any_hops hop reg f role neighbour attribute s =
    judge_answers reg role neighbour attribute f.long f.ok
    ∙ by_path (hop_in reg) hop role neighbour attribute s

pub local_laws : LocalLaws
local_laws =
    record {
      same_hops = same_hops;
      same_answer = λ reg reg' path s role. same_judged (same_in reg reg' path s) role;
      same_judge = λ reg reg' f f' role neighbour attribute s.
          any_hops (hop_in reg') reg f role neighbour attribute (same_in reg reg' (path_of role neighbour attribute) s)
          ∙ sym (any_hops (hop_in reg') reg' f' role neighbour attribute (record { upward = λ i a b. refl; downward = λ i a b. refl }));
      any_records = λ public overrides reg f role neighbour attribute p o.
          any_hops (hop_over public overrides) reg f role neighbour attribute
          (same_hops (records_of reg.public) (records_of reg.overrides) public overrides (path_of role neighbour attribute) p o);
      any_hops = any_hops;
      same_rejudged = λ reg reg' r s. ap (λ a. cond (eqb r.ground_code 0) (stamped (verdict_of a) r) r) (same_judged (same_in reg reg' r.path s) r.role);
    }

-- ---- the vectors

-- One number more.
same_also : (a : ℕ) (path : List ℕ) (rs rs' : List Record) → records_on a rs ≡ records_on a rs' → SameOn path rs rs' → SameOn (a ∷ path) rs rs'
unfolding is_in
same_also a path rs rs' e s x = go (eqb a x) refl
  where
    go : (b : Bool) → eqb a x ≡ b → (b || is_in x path) ≡ true → records_on x rs ≡ records_on x rs'
    go true t h = subst (λ y. records_on y rs ≡ records_on y rs') (eqb-true a x t) e
    go false t h = s x h

-- Two numbers, over the records that are held.
two_numbers : (a b : ℕ) {k l rs rs' : List Record} → k ≡ rs → l ≡ rs' → records_on a rs ≡ records_on a rs' → records_on b rs ≡ records_on b rs'
    → SameOn (a ∷ b ∷ []) k l
unfolding is_in
two_numbers a b {rs = rs} {rs' = rs'} p q e f x h =
    ap (records_on x) p
    ∙ same_also a (b ∷ []) rs rs' e (same_also b [] rs rs' f (λ y n. absurd (true≢false (sym n)))) x h
    ∙ sym (ap (records_on x) q)

-- The same records of a number are as many, of those that are held.
as_many : (x : ℕ) {k l rs rs' : List Record} → k ≡ rs → l ≡ rs' → records_on x k ≡ records_on x l → length (records_on x rs) ≡ length (records_on x rs')
as_many x p q e = ap length (sym (ap (records_on x) p) ∙ e ∙ ap (records_on x) q)

-- Register D's record of 10.
abbrev pub ten : Record
ten = entry 10 0 (20 ∷ 30 ∷ [])

-- What the tables hold, by computation.
pub holding_ten_twenty : Holding ten_twenty (ten ∷ entry 20 0 (40 ∷ []) ∷ []) []
unfolding both_long both_ok decode_slots decode slots_ok all_zero well_formed ascends_from ascends every records_of listed rises_from rises is_in list_ok record_ok room_for records_ok register_ok
holding_ten_twenty = record { formed = record { long = refl; ok = refl }; public_is = refl; overrides_is = records_none }

holding_ten : Holding ten_only (ten ∷ []) []
unfolding both_long both_ok decode_slots decode slots_ok all_zero well_formed ascends_from ascends every records_of listed rises_from rises is_in list_ok record_ok room_for records_ok register_ok
holding_ten = record { formed = record { long = refl; ok = refl }; public_is = refl; overrides_is = records_none }

holding_ten_corrected : Holding ten_corrected register_d (entry 10 0 (30 ∷ []) ∷ [])
unfolding both_long both_ok decode_slots decode slots_ok all_zero well_formed ascends_from ascends every records_of listed rises_from rises is_in list_ok record_ok room_for records_ok register_ok
holding_ten_corrected = record { formed = record { long = refl; ok = refl }; public_is = refl; overrides_is = refl }

-- Register D has a record of 20, and that of 10 alone has none.
twenty_missing : records_on 20 (records_of packed_d) ≡ records_on 20 (records_of ten_only.public) → ⊥
unfolding records_on
twenty_missing e = let z : ◌≡◌ {A = ℕ} 1 0 = as_many 20 holding_d.public_is holding_ten.public_is e in omega arith

pub local_vectors : LocalVectors
unfolding records_on judged_route first_given content_of number_at numbers_at starts_from starts segments numbers_fault segment_fault fault_among first_fault has_set ground_of numbers_in runs_after merge_runs merged_path lowest highest climb descend is_in attested united list_of hop_of hop_over upstream downstream judged bytes
local_vectors =
    record {
      all_formed = (holding_d.formed, holding_ten_twenty.formed, holding_ten.formed, holding_corrected.formed, holding_ten_corrected.formed);
      read = (refl, refl);
      same_a =
          record {
            in_public = two_numbers 20 10 holding_d.public_is holding_ten_twenty.public_is refl refl;
            in_overrides = λ x h. refl;
          };
      alike_a = (judges holding_d 1 20 _ ∙ refl, judges holding_ten_twenty 1 20 _ ∙ refl);
      same_ten =
          record {
            in_public = two_numbers 60 10 holding_d.public_is holding_ten.public_is refl refl;
            in_overrides = λ x h. refl;
          };
      missing_c = λ s. twenty_missing (s.in_public 20 refl);
      apart_c = (judges holding_d 1 50 _ ∙ refl, judges holding_ten 1 50 _ ∙ refl);
      missing_left = λ s. twenty_missing (s.in_public 20 refl);
      apart_left = (judges holding_d 3 20 _ ∙ refl, judges holding_ten 3 20 _ ∙ refl);
      missing_origin = λ s.
          let z : ◌≡◌ {A = ℕ} 0 1 = as_many 10 holding_d.overrides_is holding_ten_corrected.overrides_is (s.in_overrides 10 refl) in
          omega arith;
      apart_origin = judges holding_ten_corrected 1 20 _ ∙ refl;
      same_off =
          record {
            in_public = λ x h. refl;
            in_overrides = two_numbers 30 10 holding_corrected.overrides_is holding_ten_corrected.overrides_is refl refl;
          };
      alike_off = (judges holding_corrected 1 30 _ ∙ refl, judges holding_ten_corrected 1 30 _ ∙ refl);
      missing_source = λ s.
          let z : ◌≡◌ {A = ℕ} 2 1 = as_many 10 holding_two.public_is (ap (take 1) holding_two.public_is) (s 10 refl) in
          omega arith;
      apart_source = (
        judges holding_two 1 30 _ ∙ refl,
        ap (λ rs. judged_route (hop_over (take 1 rs) []) 1 30 (sequence (30 ∷ 10 ∷ []))) holding_two.public_is ∙ refl,
      );
    }
