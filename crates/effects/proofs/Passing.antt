-- The rows of a look-up as one test: none of them is given. Assumes nothing.
use Prim.Native.Nat.{ℕ, ◌≤◌}
use mathlib.Core.Path.{◌≡◌, refl, sym, ap}
use mathlib.Core.Bool.{Bool, true, false, not, true≢false}
use mathlib.Core.List.{List}
use borrow.Author.Tests.{eqb-true, eqb-false}
use lib.Dec.{eqb}
use Rattle.types.specs.declared.Refusal.{Refusal}
use Rattle.types.specs.Rows.{first_given}
use Rattle.register.specs.Register.{last_source}
use Rattle.registers.specs.Registers.{Registers, both_long, both_ok}
use Rattle.effects.specs.Calls.{look_rows}
use Rattle.effects.proofs.Looking as looking
use Rattle.std.specs.Prelude.{is_none, None, Option, Some}

-- No row is given.
abbrev pub passes : List (Option Refusal) → Bool
passes rows = is_none (first_given rows)

module _ (reg : Registers) (source customer : ℕ) where
  -- Behind the other rows the customer's decides.
  module _ (a : both_long reg ≡ true) (b : both_ok reg ≡ true) where
    pub look_customer : source ≤ last_source → not (eqb customer 0) ≡ passes (look_rows reg source customer)
    look_customer h = go (eqb customer 0) refl
      where
        go : (c : Bool) → eqb customer 0 ≡ c → not c ≡ passes (look_rows reg source customer)
        go true e = sym (ap is_none (looking.look_customer reg source customer a b h (eqb-true customer 0 e)))
        go false e = sym (ap is_none (looking.look_passed reg source customer a b h (eqb-false customer 0 e)))

  -- Where the test passes none is given, and both registers keep their rules.
  module _ (h : passes (look_rows reg source customer) ≡ true) where
    pub none_given : first_given (look_rows reg source customer) ≡ None
    none_given = go (first_given (look_rows reg source customer)) refl h
      where
        go : (o : Option Refusal) → first_given (look_rows reg source customer) ≡ o → is_none o ≡ true → first_given (look_rows reg source customer) ≡ None
        go (Some r) e k = absurd (true≢false (sym k))
        go None e k = e

    pub look_formed : both_ok reg ≡ true
    look_formed = looking.formed reg source customer none_given
