-- Each way through Hop and the look-up is its definition. Assumes nothing.
use Prim.Native.Nat.{ℕ, ◌-◌, ◌≤◌, ◌<◌}
use mathlib.Core.Path.{◌≡◌, refl, sym, ◌∙◌}
use mathlib.Core.Bool.{true, false}
use mathlib.Core.List.{List, []}
use native.Mathlib.Omega.{arith}
use borrow.Author.Tests.{eq-eqb, ne_eqb, lt-ltb, le-ltb, not-false}
use lib.ListN.{length, take, drop}
use Rattle.types.specs.declared.Origin.TheVariants.{Public}
use Rattle.types.specs.declared.Hop.{Hop}
use Rattle.types.specs.declared.Refusal.{Refusal}
use Rattle.types.specs.declared.Refusal.TheVariants.{TableLength, RegisterMalformed, SourceNumber, CustomerZero}
use Rattle.types.specs.Rows.{first_given}
use Rattle.types.proofs.Refusing.{accepted_none, row_passed}
use Rattle.rules.specs.Records.{list_of}
use Rattle.register.specs.Register.{register_words, last_source}
use Rattle.hops.specs.Spans.{span}
use Rattle.registers.specs.declared.Part.{Part}
use Rattle.registers.specs.Registers.{Registers, hop_in, both_long, both_ok, chosen, part, part_in}
use Rattle.registers.specs.Laws.{records_for}
use Rattle.registers.proofs.Choosing.{chosen_long}
use Rattle.registers.proofs.Laws.{registers_laws}
use Rattle.effects.specs.Calls.{hop_answer, look_rows, lookup_part, lookup_list}
use Rattle.std.specs.Prelude.{Err, None, Ok, Option, Some}

-- ---- Hop

module _ (reg : Registers) (x y : ℕ) where
  pub hop_length : both_long reg ≡ false → Err TableLength ≡ hop_answer reg x y
  unfolding hop_answer first_given
  hop_length a = rw a

  module _ (a : both_long reg ≡ true) where
    pub hop_malformed : both_ok reg ≡ false → Err RegisterMalformed ≡ hop_answer reg x y
    unfolding hop_answer first_given
    hop_malformed b = rw (a, b)

    pub hop_answered : {h : Hop} → both_ok reg ≡ true → h ≡ hop_in reg x y → Ok h ≡ hop_answer reg x y
    unfolding hop_answer first_given
    hop_answered b e = rw (a, b, e)

-- ---- the rows of a look-up

module _ (reg : Registers) (source customer : ℕ) where
  pub look_length : both_long reg ≡ false → first_given (look_rows reg source customer) ≡ Some TableLength
  unfolding first_given
  look_length a = rw a

  module _ (a : both_long reg ≡ true) where
    pub look_malformed : both_ok reg ≡ false → first_given (look_rows reg source customer) ≡ Some RegisterMalformed
    unfolding first_given
    look_malformed b = rw (a, b)

    module _ (b : both_ok reg ≡ true) where
      pub look_source : last_source < source → first_given (look_rows reg source customer) ≡ Some SourceNumber
      unfolding first_given
      look_source h = rw (a, b, lt-ltb last_source source h)

      module _ (h : source ≤ last_source) where
        pub look_customer : customer ≡ 0 → first_given (look_rows reg source customer) ≡ Some CustomerZero
        unfolding first_given
        look_customer z = rw (a, b, le-ltb last_source source h, eq-eqb customer 0 z)

        pub look_passed : (customer ≡ 0 → ⊥) → first_given (look_rows reg source customer) ≡ None
        unfolding first_given
        look_passed z = rw (a, b, le-ltb last_source source h, ne_eqb customer 0 z)

  -- ---- where the list stands

  module _ {r : Refusal} (e : first_given (look_rows reg source customer) ≡ Some r) where
    -- A row is given: nowhere, and there is no list.
    nowhere : lookup_part reg source customer ≡ part Public (span 0 0)
    unfolding lookup_part
    nowhere = rw e

    no_list : lookup_list reg source customer ≡ []
    unfolding lookup_list
    no_list = rw e

  module _ (e : first_given (look_rows reg source customer) ≡ None) where
    -- None is given: both registers keep their rules,
    pub formed : both_ok reg ≡ true
    formed = not-false _ (row_passed _ _ (accepted_none (look_rows reg source customer) e 1))

    long : both_long reg ≡ true
    long = not-false _ (row_passed _ _ (accepted_none (look_rows reg source customer) e 0))

    -- and the part and the list are those of the register that counts.
    there : lookup_part reg source customer ≡ part_in reg source customer
    unfolding lookup_part
    there = rw e

    the_list : lookup_list reg source customer ≡ list_of (records_for reg customer) source customer
    unfolding lookup_list
    the_list = rw e

  pub part_none : {r : Refusal} → first_given (look_rows reg source customer) ≡ Some r → part Public (span 0 0) ≡ lookup_part reg source customer
  part_none e = sym (nowhere e)

  pub part_found : first_given (look_rows reg source customer) ≡ None → {p : Part} → p ≡ part_in reg source customer
      → p ≡ lookup_part reg source customer
  part_found e q = q ∙ sym (there e)

-- ---- the list itself

-- A part lies within its register, and is the list.
pub record Cut (reg : Registers) (source customer : ℕ) (p : Part) : Type 0 where
  pub order : p.from ≤ p.to
  pub within : p.to ≤ length (chosen p.origin reg)
  pub small : p.to ≤ register_words
  pub list : take (p.to - p.from) (drop p.from (chosen p.origin reg)) ≡ lookup_list reg source customer

pub cut_is : (reg : Registers) (source customer : ℕ) → Cut reg source customer (lookup_part reg source customer)
cut_is reg source customer = go (first_given (look_rows reg source customer)) refl
  where
    go : (o : Option Refusal) → first_given (look_rows reg source customer) ≡ o → Cut reg source customer (lookup_part reg source customer)
    go (Some r) e = rw (nowhere reg source customer e) (record { order = omega arith; within = omega arith; small = omega arith; list = sym (no_list reg source customer e) })
    go None e =
        let within = registers_laws.part_within reg (formed reg source customer e) source customer in
        rw (there reg source customer e)
        (record {
          order = within.0;
          within = within.1;
          small = omega (arith, within.1, chosen_long reg (long reg source customer e) (part_in reg source customer).origin);
          list = registers_laws.part_is reg (formed reg source customer e) source customer ∙ sym (the_list reg source customer e);
        })

module _ (reg : Registers) (source customer : ℕ) {p : Part} (e : p ≡ lookup_part reg source customer) {ws : List ℕ} (w : ws ≡ chosen p.origin reg) where
  cut : Cut reg source customer p
  cut = rw e (cut_is reg source customer)

  pub cut_order : p.from ≤ p.to
  cut_order = cut.order

  pub cut_small : p.to ≤ register_words
  cut_small = cut.small

  pub cut_within : p.to ≤ length ws
  cut_within = rw w cut.within

  pub cut_list : take (p.to - p.from) (drop p.from ws) ≡ lookup_list reg source customer
  cut_list = rw w cut.list
