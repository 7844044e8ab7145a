-- The statements of specs/Laws.antt. Assumes nothing.
use Prim.Native.Nat.{ℕ, ◌-◌, ◌≤◌}
use mathlib.Core.Path.{◌≡◌, refl, sym, ◌∙◌, ap}
use mathlib.Core.Bool.{Bool, true, false}
use mathlib.Core.List.{List}
use native.Mathlib.Omega.{arith}
use borrow.Author.Tests.{not-false, eqb-true}
use lib.Dec.{eqb}
use Rattle.types.specs.declared.Origin.{Origin}
use Rattle.types.specs.declared.Origin.TheVariants.{Public, Overrides}
use Rattle.types.specs.declared.Refusal.{Refusal}
use Rattle.types.specs.Numbers.{origin_number}
use Rattle.types.specs.Rows.{first_given, Effect, effect, unless_refused}
use Rattle.types.proofs.Refusing.{accepted_none, row_passed}
use Rattle.register.specs.Register as register
use Rattle.register.specs.Register.{most_records, records_of}
use Rattle.register.specs.Calls.{count_records, clear_records, clear_rows, clear_effect}
use Rattle.register.proofs.Laws.{register_laws}
use Rattle.register.proofs.Looking.{few}
use Rattle.ledger.specs.Routes.{most_routes}
use Rattle.registers.specs.declared.Part.{Part}
use Rattle.registers.specs.Registers.{Registers, chosen}
use Rattle.effects.specs.Calls.{rejudge_effect, lookup_part, lookup_list}
use Rattle.effects.proofs.Looking.{Cut, cut_is}
use Rattle.effects.proofs.Tables.{rejudge_accepts}
use Rattle.effects.proofs.Answers.{rejudge_accepted}
use Rattle.effects.proofs.Rejudgings.{few_changed}
use Rattle.snapshot.specs.Calls.{write_effect}
use Rattle.told.specs.Answers.{no_count, no_bytes, counted_told, part_told, written_told}
use Rattle.told.specs.Marks.{Marks}
use Rattle.told.proofs.Marks.{refused, file_marks, gone_marks, changed_marks, judge_marks, hop_marks, bytes_marks}
use Rattle.c_api.specs.Laws.{RefusalLaws, register_of, list_at, LeadsToList}
use Rattle.c_api.proofs.Tellings.{some_bytes}
use Rattle.std.specs.Prelude.{Err, None, Ok, Option, Result, Some}

-- ---- the word of a refusal

-- No more records go than the register has.
gone_few : (reg : List ℕ) (source : ℕ) → first_given (clear_rows reg source) ≡ None → count_records source (records_of reg) ≤ most_records
gone_few reg source e =
    let h = (register_laws.cleared_count reg source e).1 in
    omega (arith, h, few reg (not-false _ (row_passed _ _ (accepted_none (clear_rows reg source) e 1))))

clear_marks : (reg : List ℕ) (source : ℕ)
    → Marks no_count (counted_told (clear_effect reg source).answer).result (counted_told (clear_effect reg source).answer).words
unfolding clear_effect
clear_marks reg source = go (first_given (clear_rows reg source)) refl
  where
    done : Effect (Result ℕ Refusal)
    done = effect (Ok (count_records source (records_of reg))) (register.register_of (clear_records source (records_of reg)))

    go : (o : Option Refusal) → first_given (clear_rows reg source) ≡ o
        → Marks no_count (counted_told (unless_refused o reg done).answer).result (counted_told (unless_refused o reg done).answer).words
    go (Some r) e = refused r
    go None e = gone_marks (gone_few reg source e)

rejudge_marks : (reg : Registers) (led : List ℕ)
    → Marks no_count (counted_told (rejudge_effect reg led).answer).result (counted_told (rejudge_effect reg led).answer).words
rejudge_marks reg led = go (rejudge_effect reg led).answer refl
  where
    -- No more routes change than the ledger has.
    few_routes : {n : ℕ} → (rejudge_effect reg led).answer ≡ Ok n → n ≤ most_routes
    few_routes h = let t = rejudge_accepted reg led h in
        few_changed reg led t.0.long t.1.long t.0.ok t.1.ok
        (counted (sym h ∙ ap (λ s. s.answer) (rejudge_accepts reg led t.0 t.1)))
      where
        counted : {m n : ℕ} → ◌≡◌ {A = Result ℕ Refusal} (Ok m) (Ok n) → m ≡ n
        counted e = cc

    go : (a : Result ℕ Refusal) → (rejudge_effect reg led).answer ≡ a → Marks no_count (counted_told a).result (counted_told a).words
    go (Ok n) e = changed_marks (few_routes e)
    go (Err r) e = refused r

write_marks : (reg led output : List ℕ)
    → Marks no_bytes (written_told (write_effect reg led output).answer).result (written_told (write_effect reg led output).answer).words
write_marks reg led output = go (write_effect reg led output).answer refl
  where
    go : (a : Result ℕ Refusal) → (write_effect reg led output).answer ≡ a → Marks no_bytes (written_told a).result (written_told a).words
    go (Ok n) e = bytes_marks (some_bytes reg led output n e)
    go (Err r) e = refused r

pub refusal_laws : RefusalLaws
refusal_laws = record { file = file_marks; clear = clear_marks; rejudge = rejudge_marks; judge = judge_marks; hop = hop_marks; write = write_marks }

-- ---- the look-up

-- The register of an origin's number.
by_number : (o : Origin) (reg : Registers) → register_of (origin_number o) reg ≡ chosen o reg
by_number Public reg = refl
by_number Overrides reg = refl

leads : (reg : Registers) (source customer : ℕ) (p : Part) → Cut reg source customer p → list_at reg (part_told p) ≡ lookup_list reg source customer
leads reg source customer p c = go (eqb p.from p.to) refl
  where
    go : (b : Bool) → eqb p.from p.to ≡ b → list_at reg (part_told p) ≡ lookup_list reg source customer
    go true e =
        let z : p.to - p.from ≡ 0 = omega (arith, eqb-true p.from p.to e) in
        rw e (rw z at c.list)
    go false e = rw (e, by_number p.origin reg) c.list

pub leads_to_list : LeadsToList
leads_to_list reg source customer = leads reg source customer (lookup_part reg source customer) (cut_is reg source customer)
