-- Well-formed tables are never refused as tables, and an accepted call leaves a well-formed ledger. Assumes nothing.
use Prim.Native.Nat.{ℕ, ◌≤◌}
use mathlib.Core.Path.{◌≡◌, refl, sym, ◌∙◌, ap}
use mathlib.Core.Bool.{true, false}
use mathlib.Core.List.{List, [], ◌∷◌, ◌++◌, map}
use native.Mathlib.Omega.{arith}
use borrow.Author.Tests.{eqb-true, not-false}
use Rattle.types.specs.declared.Refusal.{Refusal}
use Rattle.types.specs.Numbers.{refusal_number}
use Rattle.types.specs.Rows.{or_else, first_given, effect, unless_refused}
use Rattle.types.proofs.Refusing.{accepted_none, row_passed}
use Rattle.rules.specs.Judging.{judge_rows, refusal_in}
use Rattle.rules.proofs.Judges.{first_append}
use Rattle.registers.specs.Registers.{Registers, hop_in, BothFormed}
use Rattle.ledger.specs.Routes.{routes_of, ledger_of, room_for, routes_ok}
use Rattle.ledger.specs.Calls.{holds_route, put_route, store_rows, count_differing}
use Rattle.ledger.proofs.Holding.{routes-ok}
use Rattle.ledger.proofs.Changes.{put_ok}
use Rattle.ledger.proofs.Refusals.{Ledger, routes_ledger}
use Rattle.rejudge.specs.Rejudging.{rejudged_route}
use Rattle.rejudge.proofs.Rejudgements.{rejudged_ok}
use Rattle.effects.specs.Calls.{Keeping, table_rows, judge_answer, kept_answer, kept_route, keep_rows, keep_effect, rejudge_rows, rejudge_effect}
use Rattle.effects.proofs.Judgings.{judge_answers, judged_row}
use Rattle.effects.proofs.Keepings.{tables_none}
use Rattle.effects.proofs.KeptRoutes.{kept_ok}
use Rattle.effects.proofs.Refusals.{keep_none, keep_reads, refused_from, route_ranges, route_numbers, stored_numbers}
use Rattle.std.specs.Prelude.{Err, None, Ok, Option, Some}

-- ---- rows 1, 2 and 3

module _ (reg : Registers) (led : List ℕ) (w : BothFormed reg) (l : Ledger led) where
  -- Well-formed registers and a well-formed ledger are given none of rows 1, 2 and 3.
  pub tables_pass : first_given (table_rows reg led) ≡ None
  tables_pass = tables_none reg led w.long l.long w.ok l.ok

  -- Re-judge never refuses them: it counts and rewrites.
  pub rejudge_accepts :
      rejudge_effect reg led
      ≡ record {
        answer = Ok (count_differing (routes_of led) (map (rejudged_route (hop_in reg)) (routes_of led)));
        words = ledger_of (map (rejudged_route (hop_in reg)) (routes_of led));
      }
  unfolding rejudge_effect
  rejudge_accepts = rw tables_pass

  -- Keep refuses them by no row before 9.
  pub keep_passes : (k : Keeping) (r : Refusal) → (keep_effect reg led k).answer ≡ Err r → 9 ≤ refusal_number r
  keep_passes k r e =
      let later = judge_rows k.role k.neighbour k.attribute ++ store_rows led (kept_route reg k) in
      refused_from 9 later (route_ranges ++ ((18, 18) ∷ (20, 20) ∷ [])) (stored_numbers reg led k)
      (omega arith, (omega arith, (omega arith, (omega arith, (omega arith, (omega arith, tt)))))) r
      (ap (λ o. or_else o (first_given later)) (sym tables_pass) ∙ sym (first_append (table_rows reg led) later) ∙ sym (keep_reads reg led k) ∙ ap refusal_in e)

-- Judge refuses well-formed registers by no row before 9.
pub judge_passes : (reg : Registers) → BothFormed reg → (role neighbour : ℕ) (attribute : List ℕ) (r : Refusal)
    → judge_answer reg role neighbour attribute ≡ Err r → 9 ≤ refusal_number r
judge_passes reg w role neighbour attribute r e =
    refused_from 9 (judge_rows role neighbour attribute) route_ranges (route_numbers role neighbour attribute)
    (omega arith, (omega arith, (omega arith, (omega arith, tt)))) r
    (sym (judged_row (hop_in reg) role neighbour attribute) ∙ ap refusal_in (sym (judge_answers reg role neighbour attribute w.long w.ok) ∙ e))

-- ---- what an accepted call has passed

-- Tables that are given none of rows 1, 2 and 3 are well formed.
pub passed_tables : (reg : Registers) (led : List ℕ) → first_given (table_rows reg led) ≡ None → BothFormed reg × Ledger led
passed_tables reg led e =
    let given = accepted_none (table_rows reg led) e in (
      record { long = not-false _ (row_passed _ _ (given 0)); ok = not-false _ (row_passed _ _ (given 2)) },
      record { long = eqb-true _ _ (not-false _ (row_passed _ _ (given 1))); ok = not-false _ (row_passed _ _ (given 3)) },
    )

-- An accepted Keep had well-formed tables, a judging that rows 9 to 17 did not refuse, a free number and room.
pub record Accepted (reg : Registers) (led : List ℕ) (k : Keeping) : Type 0 where
  pub register : BothFormed reg
  pub ledger : Ledger led
  pub argued : first_given (judge_rows k.role k.neighbour k.attribute) ≡ None
  pub free : holds_route k.number (routes_of led) ≡ false
  pub room : room_for (put_route (kept_route reg k) (routes_of led)) ≡ true

module _ (reg : Registers) (led : List ℕ) (k : Keeping) where
  -- With no row given, a Keep is accepted.
  pub accepted : first_given (keep_rows reg led k) ≡ None → Accepted reg led k
  accepted e =
      let parts = keep_none reg led k e in
      let tables = passed_tables reg led parts.0 in
      let store = accepted_none (store_rows led (kept_route reg k)) parts.2 in
      record {
        register = tables.0;
        ledger = tables.1;
        argued = parts.1;
        free = row_passed _ _ (store 0);
        room = not-false _ (row_passed _ _ (store 1));
      }

  -- The routes that it leaves keep the rules.
  pub kept_routes_ok : Accepted reg led k → routes_ok (put_route (kept_route reg k) (routes_of led)) ≡ true
  kept_routes_ok a = put_ok (routes_of led) (routes-ok led a.ledger.ok) (kept_route reg k) (kept_ok reg k a.argued) a.room

  -- Keep leaves a well-formed ledger well formed.
  pub keep_preserves : Ledger led → Ledger (keep_effect reg led k).words
  unfolding keep_effect
  keep_preserves l = go (first_given (keep_rows reg led k)) refl
    where
      go : (o : Option Refusal) → first_given (keep_rows reg led k) ≡ o
          → Ledger (unless_refused o led (effect (kept_answer reg k) (ledger_of (put_route (kept_route reg k) (routes_of led))))).words
      go (Some _) e = l
      go None e = routes_ledger (put_route (kept_route reg k) (routes_of led)) (kept_routes_ok (accepted e))

-- Re-judge leaves a well-formed ledger well formed.
pub rejudge_preserves : (reg : Registers) (led : List ℕ) → Ledger led → Ledger (rejudge_effect reg led).words
unfolding rejudge_effect
rejudge_preserves reg led l = go (first_given (rejudge_rows reg led))
  where
    go : (o : Option Refusal)
        → Ledger (unless_refused o led
        (record {
          answer = Ok (count_differing (routes_of led) (map (rejudged_route (hop_in reg)) (routes_of led)));
          words = ledger_of (map (rejudged_route (hop_in reg)) (routes_of led));
        })).words
    go (Some _) = l
    go None = routes_ledger (map (rejudged_route (hop_in reg)) (routes_of led)) (rejudged_ok (hop_in reg) (routes_of led) (routes-ok led l.ok))
