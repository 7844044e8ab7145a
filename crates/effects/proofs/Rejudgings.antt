-- Each way through Re-judge is its definition. Assumes nothing.
use Prim.Native.Nat.{ℕ, suc, ◌≤◌}
use mathlib.Core.Path.{◌≡◌}
use mathlib.Core.Bool.{Bool, true, false, cond}
use mathlib.Core.List.{List, [], ◌∷◌, map}
use native.Mathlib.Omega.{arith}
use lib.ListN.{length}
use Rattle.types.specs.declared.Refusal.{Refusal}
use Rattle.types.specs.declared.Refusal.TheVariants.{TableLength, RegisterMalformed, RoutesMalformed}
use Rattle.types.specs.Rows.{first_given, effect}
use Rattle.registers.specs.Registers.{Registers, hop_in, both_long, both_ok}
use Rattle.ledger.specs.Routes.{ledger_words, most_routes, Route, routes_of, ledger_ok}
use Rattle.ledger.specs.Calls.{differs, count_differing}
use Rattle.ledger.proofs.Holding.{routes-ok, has_room, room_routes}
use Rattle.rejudge.specs.Rejudging.{rejudged_route, rejudged_effect}
use Rattle.effects.specs.Calls.{table_rows, rejudge_effect}
use Rattle.effects.proofs.Keepings.{register_length, ledger_length, register_malformed, ledger_malformed, tables_none}
use Rattle.std.specs.Prelude.{Err, Ok, Some}

-- No more routes differ than there are.
count_within : (rs ss : List Route) → count_differing rs ss ≤ length rs
unfolding count_differing
count_within [] [] = omega arith
count_within [] (s ∷ ss) = omega arith
count_within (r ∷ rs) [] = omega arith
count_within (r ∷ rs) (s ∷ ss) = go (differs r s) (count_within rs ss)
  where
    go : (b : Bool) → count_differing rs ss ≤ length rs → cond b (suc (count_differing rs ss)) (count_differing rs ss) ≤ suc (length rs)
    go true h = omega arith
    go false h = omega arith

module _ (reg : Registers) (led : List ℕ) where
  abbrev anew : List Route
  anew = map (rejudged_route (hop_in reg)) (routes_of led)

  -- A row of the tables refuses.
  rejudge_table : {r : Refusal} → first_given (table_rows reg led) ≡ Some r → effect (Err r) led ≡ rejudge_effect reg led
  unfolding rejudge_effect
  rejudge_table e = rw e

  pub rejudge_register_length : both_long reg ≡ false → effect (Err TableLength) led ≡ rejudge_effect reg led
  rejudge_register_length a = rejudge_table (register_length reg led a)

  module _ (a : both_long reg ≡ true) where
    pub rejudge_ledger_length : (length led ≡ ledger_words → ⊥) → effect (Err TableLength) led ≡ rejudge_effect reg led
    rejudge_ledger_length b = rejudge_table (ledger_length reg led a b)

    module _ (b : length led ≡ ledger_words) where
      pub rejudge_register_malformed : both_ok reg ≡ false → effect (Err RegisterMalformed) led ≡ rejudge_effect reg led
      rejudge_register_malformed c = rejudge_table (register_malformed reg led a b c)

      module _ (c : both_ok reg ≡ true) where
        pub rejudge_ledger_malformed : ledger_ok led ≡ false → effect (Err RoutesMalformed) led ≡ rejudge_effect reg led
        rejudge_ledger_malformed d = rejudge_table (ledger_malformed reg led a b c d)

        module _ (d : ledger_ok led ≡ true) where
          pub few_changed : {n : ℕ} → n ≡ count_differing (routes_of led) anew → n ≤ most_routes
          few_changed e = omega (arith, count_within (routes_of led) anew, room_routes (routes_of led) (has_room (routes_of led) (routes-ok led d)))

          pub rejudge_done : {n : ℕ} {led' : List ℕ} → effect n led' ≡ rejudged_effect (hop_in reg) led → effect (Ok n) led' ≡ rejudge_effect reg led
          unfolding rejudge_effect
          rejudge_done e = rw (tables_none reg led a b c d) (λ i. effect (Ok (e i).answer) (e i).words)
