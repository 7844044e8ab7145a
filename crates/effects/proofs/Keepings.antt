-- Each way through Keep is its definition. Assumes nothing.
use Prim.Native.Nat.{ℕ}
use mathlib.Core.Path.{◌≡◌, sym, ◌∙◌, ap}
use mathlib.Core.Bool.{true, false}
use mathlib.Core.List.{List, [], ◌++◌}
use borrow.Author.Tests.{eq-eqb, ne_eqb}
use lib.ListN.{length}
use Rattle.types.specs.Numbers.{verdict_of}
use Rattle.types.specs.declared.Ground.{Ground}
use Rattle.types.specs.declared.Cause.TheVariants.{ByGround}
use Rattle.types.specs.declared.Verdict.TheVariants.{Invalid}
use Rattle.types.specs.declared.Answer.{Answer}
use Rattle.types.specs.declared.Answer.TheVariants.{Plain}
use Rattle.types.specs.declared.Refusal.{Refusal}
use Rattle.types.specs.declared.Refusal.TheVariants.{TableLength, RegisterMalformed, RoutesMalformed}
use Rattle.types.specs.Rows.{or_else, first_given, Effect, effect, unless_refused}
use Rattle.types.proofs.Clashes.{clash}
use Rattle.as_path.specs.declared.Reading.TheVariants as reading
use Rattle.as_path.specs.Reading.{content_of, reading_of}
use Rattle.rules.specs.Verdicts.{judged}
use Rattle.rules.specs.Judging.{judge_rows, answer_to, judged_route, refusal_in}
use Rattle.rules.proofs.Judges.{first_append}
use Rattle.registers.specs.Registers.{Registers, hop_in, both_long, both_ok}
use Rattle.ledger.specs.Routes.{ledger_words, Route, routes_of, ledger_of, ledger_ok}
use Rattle.ledger.specs.Calls.{route_for, put_route, store_rows, store_effect}
use Rattle.effects.specs.Calls.{Keeping, keeping, table_rows, path_in, kept_answer, kept_route, keep_rows, keep_effect}
use Rattle.effects.specs.Helpers.{stored_effect, Ready}
use Rattle.effects.proofs.Judgings.{read_refused, read_ground, read_grounded, PathRead, path_judged, judged_row, judged_ready}
use Rattle.std.specs.Prelude.{Err, None, Ok, Option, Result, Some}

-- ---- rows 1, 2 and 3 of the tables

module _ (reg : Registers) (led : List ℕ) where
  pub register_length : both_long reg ≡ false → first_given (table_rows reg led) ≡ Some TableLength
  unfolding first_given
  register_length a = rw a

  module _ (a : both_long reg ≡ true) where
    pub ledger_length : (length led ≡ ledger_words → ⊥) → first_given (table_rows reg led) ≡ Some TableLength
    unfolding first_given
    ledger_length b = rw (a, ne_eqb (length led) ledger_words b)

    module _ (b : length led ≡ ledger_words) where
      pub register_malformed : both_ok reg ≡ false → first_given (table_rows reg led) ≡ Some RegisterMalformed
      unfolding first_given
      register_malformed c = rw (a, eq-eqb (length led) ledger_words b, c)

      pub ledger_malformed : both_ok reg ≡ true → ledger_ok led ≡ false → first_given (table_rows reg led) ≡ Some RoutesMalformed
      unfolding first_given
      ledger_malformed c d = rw (a, eq-eqb (length led) ledger_words b, c, d)

      pub tables_none : both_ok reg ≡ true → ledger_ok led ≡ true → first_given (table_rows reg led) ≡ None
      unfolding first_given
      tables_none c d = rw (a, eq-eqb (length led) ledger_words b, c, d)

-- ---- Keep

module _ (reg : Registers) (led : List ℕ) (k : Keeping) where
  -- The first given of Keep's rows: of the tables, of the judging, of the store.
  pub keep_first :
      first_given (keep_rows reg led k)
      ≡ or_else (first_given (table_rows reg led))
      (or_else (first_given (judge_rows k.role k.neighbour k.attribute)) (first_given (store_rows led (kept_route reg k))))
  keep_first =
      first_append (table_rows reg led) (judge_rows k.role k.neighbour k.attribute ++ store_rows led (kept_route reg k))
      ∙ ap (or_else (first_given (table_rows reg led)))
      (first_append (judge_rows k.role k.neighbour k.attribute) (store_rows led (kept_route reg k)))

  -- A row of the tables refuses.
  keep_table : {r : Refusal} → first_given (table_rows reg led) ≡ Some r → effect (Err r) led ≡ keep_effect reg led k
  unfolding keep_effect
  keep_table e = rw (keep_first, e)

  pub keep_register_length : both_long reg ≡ false → effect (Err TableLength) led ≡ keep_effect reg led k
  keep_register_length a = keep_table (register_length reg led a)

  module _ (a : both_long reg ≡ true) where
    pub keep_ledger_length : (length led ≡ ledger_words → ⊥) → effect (Err TableLength) led ≡ keep_effect reg led k
    keep_ledger_length b = keep_table (ledger_length reg led a b)

    module _ (b : length led ≡ ledger_words) where
      pub keep_register_malformed : both_ok reg ≡ false → effect (Err RegisterMalformed) led ≡ keep_effect reg led k
      keep_register_malformed c = keep_table (register_malformed reg led a b c)

      module _ (c : both_ok reg ≡ true) where
        pub keep_ledger_malformed : ledger_ok led ≡ false → effect (Err RoutesMalformed) led ≡ keep_effect reg led k
        keep_ledger_malformed d = keep_table (ledger_malformed reg led a b c d)

        module _ (d : ledger_ok led ≡ true) where
          -- Rows 9 to 17.
          pub keep_refused : {r : Refusal} → kept_answer reg k ≡ Err r → effect (Err r) led ≡ keep_effect reg led k
          unfolding keep_effect
          keep_refused e =
              rw (keep_first, tables_none reg led a b c d, sym (judged_row (hop_in reg) k.role k.neighbour k.attribute) ∙ ap refusal_in e)

          -- An answered judging is stored.
          pub keep_stored : {answer : Answer} → kept_answer reg k ≡ Ok answer
              → stored_effect led (route_for k.number k.role k.neighbour (verdict_of answer) (path_in (content_of k.role k.neighbour k.attribute))) answer
              ≡ keep_effect reg led k
          unfolding keep_effect
          keep_stored e =
              rw (keep_first, tables_none reg led a b c d, sym (judged_row (hop_in reg) k.role k.neighbour k.attribute) ∙ ap refusal_in e, e)

-- ---- rows 18 and 20, and the store

module _ (led : List ℕ) (r : Route) (answer : Answer) where
  abbrev done : Effect (Result Unit Refusal)
  done = effect (Ok tt) (ledger_of (put_route r (routes_of led)))

  abbrev answered : Effect (Result Answer Refusal)
  answered = effect (Ok answer) (ledger_of (put_route r (routes_of led)))

  -- What the store answers is what the keeping answers.
  pub stored_done : {x : Result Unit Refusal} {led' : List ℕ} → effect x led' ≡ store_effect led r → x ≡ Ok tt → effect (Ok answer) led' ≡ stored_effect led r answer
  unfolding store_effect
  stored_done {x} {led'} e m = go (first_given (store_rows led r)) e
    where
      go : (o : Option Refusal) → effect x led' ≡ unless_refused o led done
          → effect (Ok answer) led' ≡ unless_refused o led answered
      go (Some s) e = let z : ◌≡◌ {A = Result Unit Refusal} (Ok tt) (Err s) = sym m ∙ ap (λ y. y.answer) e in clash (cc)
      go None e = λ i. effect (Ok answer) (e i).words

  pub stored_refused : {x : Result Unit Refusal} {s : Refusal} {led' : List ℕ} → effect x led' ≡ store_effect led r → x ≡ Err s
      → effect (Err s) led' ≡ stored_effect led r answer
  unfolding store_effect
  stored_refused {x} {s} {led'} e m = go (first_given (store_rows led r)) e
    where
      go : (o : Option Refusal) → effect x led' ≡ unless_refused o led done
          → effect (Err s) led' ≡ unless_refused o led answered
      go (Some t) e =
          let y : ◌≡◌ {A = Result Unit Refusal} (Err s) (Err t) = sym m ∙ ap (λ y. y.answer) e in
          let z : s ≡ t = cc in
          λ i. effect (Err (z i)) (e i).words
      go None e = let z : ◌≡◌ {A = Result Unit Refusal} (Err s) (Ok tt) = sym m ∙ ap (λ y. y.answer) e in clash (cc)

-- ---- a role that is known

module _ {reg : Registers} {led : List ℕ} {role neighbour : ℕ} {xs : List ℕ} (number : ℕ) (p : Ready reg led role neighbour xs) where
  abbrev step : Effect (Result Answer Refusal)
  step = keep_effect reg led (keeping number role neighbour xs)

  ready : judged_route (hop_in reg) role neighbour xs ≡ answer_to (hop_in reg) role (content_of role neighbour xs)
  ready = judged_ready (hop_in reg) role neighbour xs p.argued

  pub keep_faulty : {r : Refusal} → reading_of (content_of role neighbour xs) ≡ Err r → effect (Err r) led ≡ step
  keep_faulty {r} e =
      keep_refused reg led (keeping number role neighbour xs) p.long p.long_ledger p.ok p.ok_ledger
      (ready ∙ sym (read_refused (hop_in reg) role (content_of role neighbour xs) r e))

  pub keep_ground : {g : Ground} → reading_of (content_of role neighbour xs) ≡ Ok (reading.OnGround g)
      → stored_effect led (route_for number role neighbour (Invalid (ByGround g)) []) (Plain (Invalid (ByGround g))) ≡ step
  keep_ground {g} e =
      sym (ap (λ k. stored_effect led (route_for number role neighbour (Invalid (ByGround g)) (path_in k)) (Plain (Invalid (ByGround g))))
      (read_grounded (content_of role neighbour xs) g e))
      ∙ keep_stored reg led (keeping number role neighbour xs) p.long p.long_ledger p.ok p.ok_ledger
      (ready ∙ sym (read_ground (hop_in reg) role (content_of role neighbour xs) g e))

  pub keep_path : {n : ℕ} (q : PathRead (content_of role neighbour xs) n)
      → stored_effect led (route_for number role neighbour (verdict_of (judged (hop_in reg) q.path role)) q.path) (judged (hop_in reg) q.path role)
      ≡ step
  keep_path q =
      sym (ap (λ k. stored_effect led (route_for number role neighbour (verdict_of (judged (hop_in reg) q.path role)) (path_in k)) (judged (hop_in reg) q.path role))
      q.is)
      ∙ keep_stored reg led (keeping number role neighbour xs) p.long p.long_ledger p.ok p.ok_ledger
      (ready ∙ sym (path_judged role neighbour xs q (hop_in reg)))
