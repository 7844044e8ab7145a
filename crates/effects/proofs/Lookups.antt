-- Hop and the look-up do what is said of them. Assumes nothing.
use Prim.Native.Nat.{ℕ, ◌≤◌}
use mathlib.Core.Path.{◌≡◌, refl, sym, ◌∙◌, ap}
use mathlib.Core.Logic.{◌↔◌}
use mathlib.Core.List.{List, []}
use native.Mathlib.Omega.{arith}
use borrow.Author.Tests.{le-ltb, ne_eqb}
use lib.ListN.{get_or}
use Rattle.types.specs.declared.Refusal.{Refusal}
use Rattle.types.specs.Rows.{first_given, FirstAt}
use Rattle.types.proofs.Clashes.{clash, some_not_none}
use Rattle.types.proofs.Refusing.{refused_first, first_refuses, accepted_none}
use Rattle.rules.specs.Records.{list_of, counting}
use Rattle.register.specs.Register.{last_source, records_of}
use Rattle.registers.specs.Registers.{Registers, hop_in, BothFormed}
use Rattle.effects.specs.Calls.{register_rows, hop_unless, hop_answer, look_rows, list_unless, lookup_list}
use Rattle.effects.specs.Laws.{HopCallLaws}
use Rattle.std.specs.Prelude.{Err, None, Ok, Option, Some}

-- ---- Hop

module _ (reg : Registers) (x y : ℕ) where
  -- Hop answers a refusal exactly when that is the first of its rows that is given.
  hop_refuses : (r : Refusal) → (hop_answer reg x y ≡ Err r) ↔ ((i : ℕ) × FirstAt (register_rows reg) i r)
  unfolding hop_answer
  hop_refuses r = (to (first_given (register_rows reg)) refl, λ p. rw (first_refuses (register_rows reg) p.0 r p.1))
    where
      to : (o : Option Refusal) → first_given (register_rows reg) ≡ o → hop_unless o (hop_in reg x y) ≡ Err r → (i : ℕ) × FirstAt (register_rows reg) i r
      to (Some s) e h = let z : s ≡ r = cc in refused_first (register_rows reg) r (e ∙ ap Some z)
      to None e h = clash (cc)

  -- Over well-formed registers it answers the hop.
  pub hop_answers : BothFormed reg → hop_answer reg x y ≡ Ok (hop_in reg x y)
  unfolding hop_answer first_given
  hop_answers w = rw (w.long, w.ok)

-- ---- the look-up

module _ (reg : Registers) (source customer : ℕ) where
  abbrev found : List ℕ
  found = list_of (counting (records_of reg.public) (records_of reg.overrides) customer) source customer

  -- With some row given there is no list.
  lookup_refused : (i : ℕ) (r : Refusal) → get_or (look_rows reg source customer) i None ≡ Some r → lookup_list reg source customer ≡ []
  unfolding lookup_list
  lookup_refused i r h = go (first_given (look_rows reg source customer)) refl
    where
      go : (o : Option Refusal) → first_given (look_rows reg source customer) ≡ o → list_unless o found ≡ []
      go (Some s) e = refl
      go None e = some_not_none (sym h ∙ accepted_none (look_rows reg source customer) e i)

  -- With none it is the list in the register that counts.
  pub lookup_answers : BothFormed reg → source ≤ last_source → 1 ≤ customer → lookup_list reg source customer ≡ found
  unfolding lookup_list first_given
  lookup_answers w a b = rw (w.long, w.ok, le-ltb last_source source a, ne_eqb customer 0 (λ e. absurd (omega arith)))

pub hop_call_laws : HopCallLaws
hop_call_laws =
    record {
      hop_refuses = hop_refuses;
      hop_answers = λ reg w x y. hop_answers reg x y w;
      lookup_refused = lookup_refused;
      lookup_answers = λ reg w source customer. lookup_answers reg source customer w;
    }
