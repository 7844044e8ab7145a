-- Demand 1: every call is refused exactly by the first of its rows that is given, and then changes no word. Assumes nothing.
use Prim.Native.Nat.{ℕ}
use mathlib.Core.Path.{◌≡◌, refl, sym, ◌∙◌}
use mathlib.Core.Bool.{Bool, true, false, not, cond}
use mathlib.Core.List.{List, [], ◌∷◌}
use native.Mathlib.Omega.{arith}
use lib.Dec.{eqb, ltb}
use Rattle.types.specs.declared.Origin.{Origin}
use Rattle.types.specs.declared.Origin.TheVariants.{Public, Overrides}
use Rattle.types.specs.declared.Hop.{Hop}
use Rattle.types.specs.declared.Refusal.{Refusal}
use Rattle.types.specs.declared.Refusal.TheVariants.{TableLength, RegisterMalformed, SourceNumber, CustomerZero}
use Rattle.types.specs.Numbers.{refusal_place}
use Rattle.types.specs.Rows.{first_given, Effect, unless_refused, Numbered, Ranged}
use Rattle.types.proofs.Refusing.{refused_first, first_refuses, accepted_none, none_accepted, numbered}
use Rattle.register.specs.Register.{last_source, records_of}
use Rattle.register.specs.Calls.{file_rows, withdraw_rows, clear_rows, file_effect, withdraw_effect, clear_effect, holds_record}
use Rattle.register.proofs.Refusals.{file_numbers, withdraw_numbers, clear_numbers}
use Rattle.registers.specs.Registers.{Registers, chosen, hop_in, both_long, both_ok}
use Rattle.ledger.specs.Calls.{drop_rows, drop_effect}
use Rattle.ledger.proofs.Refusals.{drop_numbers}
use Rattle.rules.specs.Judging.{refusal_in}
use Rattle.effects.specs.Calls.{register_rows, keep_effect, rejudge_effect, hop_unless, hop_answer, look_rows}
use Rattle.effects.proofs.Refusals.{judge_reads, keep_reads, judge_numbers, keep_numbers, rejudge_numbers}
use Rattle.effects.proofs.Lookups.{hop_call_laws}
use Rattle.effects.proofs.Places.{placed, all_outside, no_place, Placed, judge_placed, keep_placed, place_within}
use Rattle.history.specs.Calls.{Call, file, withdraw, clear, keep, drop, rejudge, Tables, says, rewritten, leaves}
use Rattle.history.specs.Replies.{ModelReply, shown_filed, shown_removal, shown_cleared, shown_judged, shown_rejudged, shown}
use Rattle.history.specs.Refusals.{AnyCall, change, judge, hop, rows_of, call_rows, call_numbers, numbers_of, look_numbers, in_order, refused_by, hop_refusal, refusal_of, left_by, call_attribute, attribute_of, Demand1}
use Rattle.std.specs.Prelude.{Err, None, Ok, Option, Result, Some}
use Rattle.types.specs.declared.Answer.{Answer}
use Rattle.types.specs.declared.Filed.TheVariants.{New}
use Rattle.types.specs.declared.Filed.TheVariants.{Replaced}

-- ---- what a call answers is the first of its rows that is given

-- A call that is refused by its rows, and whose accepted answer is no refusal.
by_rows : {A : Type 0} (show : Result A Refusal → ModelReply) → ((r : Refusal) → refused_by (show (Err r)) ≡ Some r)
    → (o : Option Refusal) (ws : List ℕ) (done : Effect (Result A Refusal)) → refused_by (show done.answer) ≡ None
    → refused_by (show (unless_refused o ws done).answer) ≡ o
by_rows show e (Some r) ws done h = e r
by_rows show e None ws done h = h

-- A filing that is accepted is not refused.
filed_done : (b : Bool) → refused_by (shown_filed (Ok (cond b Replaced New))) ≡ None
filed_done true = refl
filed_done false = refl

-- What is shown of a judging's answer is its refusal.
judged_shown : (j : Result Answer Refusal) → refused_by (shown_judged j) ≡ refusal_in j
judged_shown (Ok a) = refl
judged_shown (Err r) = refl

call_first : (t : Tables) (c : Call) → refused_by (shown (says t c)) ≡ first_given (call_rows t c)
unfolding file_effect withdraw_effect clear_effect drop_effect rejudge_effect
call_first t (file o source customer list) =
    by_rows shown_filed (λ r. refl) _ _ _ (filed_done (holds_record customer source (records_of (chosen o t.registers))))
call_first t (withdraw o source customer) = by_rows shown_removal (λ r. refl) _ _ _ refl
call_first t (clear o source) = by_rows shown_cleared (λ r. refl) _ _ _ refl
call_first t (keep k) =
    judged_shown (keep_effect t.registers t.ledger k).answer
    ∙ keep_reads t.registers t.ledger k
call_first t (drop number) = by_rows shown_removal (λ r. refl) _ _ _ refl
call_first t rejudge = by_rows shown_rejudged (λ r. refl) _ _ _ refl

-- Hop is refused as its rows refuse it.
hop_reads : (reg : Registers) (x y : ℕ) → hop_refusal (hop_answer reg x y) ≡ first_given (register_rows reg)
unfolding hop_answer
hop_reads reg x y = go (first_given (register_rows reg)) (hop_in reg x y)
  where
    go : (o : Option Refusal) (h : Hop) → hop_refusal (hop_unless o h) ≡ o
    go (Some r) h = refl
    go None h = refl

answers_first : (t : Tables) (c : AnyCall) → refusal_of t c ≡ first_given (rows_of t c)
answers_first t (change c) = call_first t c
answers_first t (judge role neighbour attribute) = judge_reads t.registers role neighbour attribute
answers_first t (hop x y) = hop_reads t.registers x y

-- The words of one register again.
same_words : (o : Origin) (reg : Registers) → rewritten o reg (chosen o reg) ≡ reg
same_words Public reg = refl
same_words Overrides reg = refl

-- A refused call leaves the tables.
call_leaves : (t : Tables) (c : Call) (r : Refusal) → first_given (call_rows t c) ≡ Some r → leaves t c ≡ t
unfolding file_effect withdraw_effect clear_effect drop_effect rejudge_effect keep_effect
call_leaves t (file o source customer list) r e = rw (e, same_words o t.registers)
call_leaves t (withdraw o source customer) r e = rw (e, same_words o t.registers)
call_leaves t (clear o source) r e = rw (e, same_words o t.registers)
call_leaves t (keep k) r e = rw e
call_leaves t (drop number) r e = rw e
call_leaves t rejudge r e = rw e

refused_stays : (t : Tables) (c : AnyCall) (r : Refusal) → refusal_of t c ≡ Some r → left_by t c ≡ t
refused_stays t (change c) r e = call_leaves t c r (sym (call_first t c) ∙ e)
refused_stays t (judge role neighbour attribute) r e = refl
refused_stays t (hop x y) r e = refl

-- ---- numbers

-- Rows that have one number each have it as a range.
abbrev single : List ℕ → List (ℕ × ℕ)
single [] = []
single (n ∷ ns) = (n, n) ∷ single ns

ranges : (rows : List (Option Refusal)) (ns : List ℕ) → Numbered rows ns → Ranged rows (single ns)
ranges [] [] h = tt
ranges [] (n ∷ ns) h = h
ranges (row ∷ rows) [] h = h
ranges (row ∷ rows) (n ∷ ns) h =
    (λ r e. let q = h.0 r e in (omega (arith, q), omega (arith, q)), ranges rows ns h.1)

call-numbers : (t : Tables) (c : Call) → Ranged (call_rows t c) (call_numbers c)
call-numbers t (file o source customer list) =
    let reg = chosen o t.registers in
    ranges (file_rows reg source customer list) (1 ∷ 2 ∷ 4 ∷ 5 ∷ 6 ∷ 8 ∷ []) (file_numbers reg source customer list)
call-numbers t (withdraw o source customer) =
    let reg = chosen o t.registers in
    ranges (withdraw_rows reg source customer) (1 ∷ 2 ∷ 4 ∷ 5 ∷ 7 ∷ []) (withdraw_numbers reg source customer)
call-numbers t (clear o source) =
    let reg = chosen o t.registers in
    ranges (clear_rows reg source) (1 ∷ 2 ∷ 4 ∷ []) (clear_numbers reg source 0)
call-numbers t (keep k) = keep_numbers t.registers t.ledger k
call-numbers t (drop number) = ranges (drop_rows t.ledger number) (1 ∷ 3 ∷ 19 ∷ []) (drop_numbers t.ledger number)
call-numbers t rejudge = rejudge_numbers t.registers t.ledger

-- Those of a look-up, which Hop's begin.
look-numbers : (reg : Registers) (source customer : ℕ) → Ranged (look_rows reg source customer) look_numbers
look-numbers reg source customer =
    ranges (look_rows reg source customer) (1 ∷ 2 ∷ 4 ∷ 5 ∷ []) (
      numbered (not (both_long reg)) TableLength,
      (
        numbered (not (both_ok reg)) RegisterMalformed,
        (numbered (ltb last_source source) SourceNumber, (numbered (eqb customer 0) CustomerZero, tt)),
      ),
    )

hop_numbers : (reg : Registers) → Ranged (register_rows reg) ((1, 1) ∷ (2, 2) ∷ [])
hop_numbers reg = let n = look-numbers reg 0 1 in (n.0, (n.1.0, tt))

row_numbers : (t : Tables) (c : AnyCall) → Ranged (rows_of t c) (numbers_of c)
row_numbers t (change c) = call-numbers t c
row_numbers t (judge role neighbour attribute) = judge_numbers t.registers role neighbour attribute
row_numbers t (hop x y) = hop_numbers t.registers

in-order : (c : AnyCall) → in_order 1 (numbers_of c) ≡ true
in-order (change (file o source customer list)) = refl
in-order (change (withdraw o source customer)) = refl
in-order (change (clear o source)) = refl
in-order (change (keep k)) = refl
in-order (change (drop number)) = refl
in-order (change rejudge) = refl
in-order (judge role neighbour attribute) = refl
in-order (hop x y) = refl

-- ---- places

-- A call that is handed no attribute is refused without a place.
unplaced : {A : Type 0} (t : Tables) (c : Call) → all_outside (call_numbers c) ≡ true → (r : Refusal) (p : ℕ) → first_given (call_rows t c) ≡ Some r
    → refusal_place r ≡ Some p → A
unplaced t c o r p e h = absurd (no_place (call_rows t c) (call_numbers c) o (call-numbers t c) r e p h)

call_placed : (t : Tables) (c : Call) (r : Refusal) (p : ℕ) → refused_by (shown (says t c)) ≡ Some r → refusal_place r ≡ Some p → Placed (call_attribute c) r p
call_placed t (file o source customer list) r p e h =
    unplaced t (file o source customer list) refl r p (sym (call_first t (file o source customer list)) ∙ e) h
call_placed t (withdraw o source customer) r p e h = unplaced t (withdraw o source customer) refl r p (sym (call_first t (withdraw o source customer)) ∙ e) h
call_placed t (clear o source) r p e h = unplaced t (clear o source) refl r p (sym (call_first t (clear o source)) ∙ e) h
call_placed t (keep k) r p e h =
    keep_placed t.registers t.ledger k r (sym (judged_shown (keep_effect t.registers t.ledger k).answer) ∙ e) p h
call_placed t (drop number) r p e h = unplaced t (drop number) refl r p (sym (call_first t (drop number)) ∙ e) h
call_placed t rejudge r p e h = unplaced t rejudge refl r p (sym (call_first t rejudge) ∙ e) h

any_placed : (t : Tables) (c : AnyCall) (r : Refusal) (p : ℕ) → refusal_of t c ≡ Some r → refusal_place r ≡ Some p → Placed (attribute_of c) r p
any_placed t (change c) r p e h = call_placed t c r p e h
any_placed t (judge role neighbour attribute) r p e h =
    judge_placed role neighbour attribute t.registers r e p h
any_placed t (hop x y) r p e h =
    absurd (no_place (register_rows t.registers) ((1, 1) ∷ (2, 2) ∷ []) refl (hop_numbers t.registers) r (sym (hop_reads t.registers x y) ∙ e) p h)

-- ---- the demand

pub demand1 : Demand1
demand1 = record {
  refused_first = λ t c r. (
    λ e. refused_first (rows_of t c) r (sym (answers_first t c) ∙ e),
    λ p. answers_first t c ∙ first_refuses (rows_of t c) p.0 r p.1,
  );
  accepted_none = λ t c. (
    λ e. accepted_none (rows_of t c) (sym (answers_first t c) ∙ e),
    λ h. answers_first t c ∙ none_accepted (rows_of t c) h,
  );
  rows_numbered = row_numbers;
  numbers_ordered = in-order;
  refused_leaves = refused_stays;
  places_numbered = placed;
  place_first = λ t c r p e h. let q = any_placed t c r p e h in (q.fault, (q.is, q.first));
  place_within = λ t c r p e h. (place_within (attribute_of c) r p (any_placed t c r p e h)).0;
  look_empty = λ t. hop_call_laws.lookup_refused t.registers;
  look_numbered = λ t. look-numbers t.registers;
}
