-- Each call is refused by the first of its rows that is given, and by no other; a refusal leaves the ledger's words. Assumes nothing.
use Prim.Native.Nat.{ℕ, ◌≤◌}
use mathlib.Core.Path.{◌≡◌, refl, sym, ◌∙◌, ap}
use mathlib.Core.Bool.{Bool, not}
use mathlib.Core.Logic.{◌↔◌}
use mathlib.Core.List.{List, [], ◌∷◌, ◌++◌}
use native.Mathlib.Omega.{arith}
use lib.Dec.{eqb, ltb}
use lib.ListN.{length}
use Rattle.types.specs.declared.Fault.{Fault}
use Rattle.types.specs.declared.Fault.TheVariants.{CutShort, UnknownType, Confederation, NoNumbers, ZeroNumber}
use Rattle.types.specs.declared.Refusal.{Refusal}
use Rattle.types.specs.declared.Refusal.TheVariants.{TableLength, RegisterMalformed, RoutesMalformed, RoleNumber, NeighbourZero, AttributeLength, Attribute, PathLength, RouteTaken, RoutesFull}
use Rattle.types.specs.Numbers.{refusal_number, fault_number}
use Rattle.types.specs.Roles.{is_role}
use Rattle.types.specs.Rows.{row_if, or_else, first_given, effect, unless_refused, FirstAt, Ranged}
use Rattle.types.proofs.Clashes.{some_not_none}
use Rattle.types.proofs.Refusing.{refused_first, first_refuses, answers_first, refusal_leaves, numbered}
use Rattle.as_path.specs.Reading.{most_numbers, Content, faulty, grounded, merged, content_of}
use Rattle.rules.specs.Judging.{most_bytes, content_row, judge_rows, unless_given, judged_route, refusal_in}
use Rattle.rules.proofs.Judges.{first_append}
use Rattle.registers.specs.Registers.{Registers, hop_in, both_long, both_ok}
use Rattle.ledger.specs.Routes.{ledger_words, routes_of, ledger_of, room_for, ledger_ok}
use Rattle.ledger.specs.Calls.{holds_route, put_route, store_rows}
use Rattle.effects.specs.Calls.{Keeping, register_rows, table_rows, judge_rows_over, rejudge_rows, judge_answer, kept_answer, kept_route, keep_rows, keep_effect, rejudge_effect}
use Rattle.effects.proofs.Judgings.{judged_row}
use Rattle.effects.proofs.Keepings.{keep_first}
use Rattle.std.specs.Prelude.{Err, None, Ok, Option, Result, Some}
use Rattle.types.specs.declared.Answer.{Answer}

-- ---- exactly when a call is refused, and what a refusal leaves

-- What is read as a refusal is that refusal.
pub refusal_is : (j : Result Answer Refusal) (r : Refusal) → refusal_in j ≡ Some r → j ≡ Err r
refusal_is (Ok a) r e = some_not_none (sym e)
refusal_is (Err s) r e = cc

-- What is read as no refusal is no refusal.
pub refusal_none : (j : Result Answer Refusal) (r : Refusal) → refusal_in j ≡ None → j ≡ Err r → ⊥
refusal_none j r e f = some_not_none (ap refusal_in (sym f) ∙ e)

-- An answer that is refused as rows are refuses exactly by the first of them that is given.
refuses_first : (j : Result Answer Refusal) (rows : List (Option Refusal)) → refusal_in j ≡ first_given rows → (r : Refusal)
    → (j ≡ Err r) ↔ ((i : ℕ) × FirstAt rows i r)
refuses_first j rows e r = (
  λ h. refused_first rows r (sym e ∙ ap refusal_in h),
  λ p. refusal_is j r (e ∙ first_refuses rows p.0 r p.1),
)

-- Of two choices that give no row neither gives one.
pub neither : (o p : Option Refusal) → or_else o p ≡ None → (o ≡ None) × (p ≡ None)
neither (Some r) p e = some_not_none e
neither None p e = (refl, e)

module _ (reg : Registers) (role neighbour : ℕ) (attribute : List ℕ) where
  -- Judge is refused as its rows refuse it.
  pub judge_reads : refusal_in (judge_answer reg role neighbour attribute) ≡ first_given (judge_rows_over reg role neighbour attribute)
  unfolding judge_answer
  judge_reads = by_table (first_given (register_rows reg)) ∙ sym (first_append (register_rows reg) (judge_rows role neighbour attribute))
    where
      by_table : (o : Option Refusal) → refusal_in (unless_given o (judged_route (hop_in reg) role neighbour attribute))
          ≡ or_else o (first_given (judge_rows role neighbour attribute))
      by_table (Some r) = refl
      by_table None = judged_row (hop_in reg) role neighbour attribute

  -- Judge answers a refusal exactly when that is the first of its rows that is given.
  pub judge_refuses : (r : Refusal)
      → (judge_answer reg role neighbour attribute ≡ Err r) ↔ ((i : ℕ) × FirstAt (judge_rows_over reg role neighbour attribute) i r)
  judge_refuses = refuses_first (judge_answer reg role neighbour attribute) (judge_rows_over reg role neighbour attribute) judge_reads

module _ (reg : Registers) (led : List ℕ) (k : Keeping) where
  -- What no row of is given: the tables, the judging, the store.
  pub keep_none : first_given (keep_rows reg led k) ≡ None
      → (first_given (table_rows reg led) ≡ None) × (first_given (judge_rows k.role k.neighbour k.attribute) ≡ None)
      × (first_given (store_rows led (kept_route reg k)) ≡ None)
  keep_none e =
      let t = neither (first_given (table_rows reg led)) _ (sym (keep_first reg led k) ∙ e) in
      let j = neither (first_given (judge_rows k.role k.neighbour k.attribute)) (first_given (store_rows led (kept_route reg k))) t.1 in
      (t.0, j.0, j.1)

  -- Keep is refused as its rows refuse it.
  pub keep_reads : refusal_in (keep_effect reg led k).answer ≡ first_given (keep_rows reg led k)
  unfolding keep_effect
  keep_reads = go (first_given (keep_rows reg led k)) refl
    where
      go : (o : Option Refusal) → first_given (keep_rows reg led k) ≡ o
          → refusal_in (unless_refused o led (effect (kept_answer reg k) (ledger_of (put_route (kept_route reg k) (routes_of led))))).answer ≡ o
      go (Some r) e = refl
      go None e = judged_row (hop_in reg) k.role k.neighbour k.attribute ∙ (keep_none e).1

  -- Keep answers a refusal exactly when that is the first of its rows that is given.
  pub keep_refuses : (r : Refusal) → ((keep_effect reg led k).answer ≡ Err r) ↔ ((i : ℕ) × FirstAt (keep_rows reg led k) i r)
  keep_refuses = refuses_first (keep_effect reg led k).answer (keep_rows reg led k) keep_reads

  -- Refused, it leaves the ledger's words.
  pub keep_leaves : (r : Refusal) → (keep_effect reg led k).answer ≡ Err r → (keep_effect reg led k).words ≡ led
  unfolding keep_effect
  keep_leaves r h = rw (sym keep_reads ∙ ap refusal_in h)

module _ (reg : Registers) (led : List ℕ) (r : Refusal) where
  -- Re-judge answers a refusal exactly when that is the first of its rows that is given.
  pub rejudge_refuses : ((rejudge_effect reg led).answer ≡ Err r) ↔ ((i : ℕ) × FirstAt (rejudge_rows reg led) i r)
  unfolding rejudge_effect
  rejudge_refuses = answers_first (rejudge_rows reg led) led _ _ r

  -- Refused, it leaves the ledger's words.
  pub rejudge_leaves : (rejudge_effect reg led).answer ≡ Err r → (rejudge_effect reg led).words ≡ led
  unfolding rejudge_effect
  rejudge_leaves = refusal_leaves (rejudge_rows reg led) led _ _ r

-- ---- the rows in the order of their numbers

-- A row with one refusal has its number.
ranged : (b : Bool) (s r : Refusal) → row_if b s ≡ Some r → (refusal_number s ≤ refusal_number r) × (refusal_number r ≤ refusal_number s)
ranged b s r e = let n = numbered b s r e in (omega (arith, n), omega (arith, n))

-- Faults are rows 12 to 16.
fault_within : (f : Fault) → (12 ≤ fault_number f) × (fault_number f ≤ 17)
fault_within CutShort = (omega arith, omega arith)
fault_within UnknownType = (omega arith, omega arith)
fault_within Confederation = (omega arith, omega arith)
fault_within NoNumbers = (omega arith, omega arith)
fault_within ZeroNumber = (omega arith, omega arith)

-- The row of a content is one of 12 to 17.
content_number : (c : Content) (r : Refusal) → content_row c ≡ Some r → (12 ≤ refusal_number r) × (refusal_number r ≤ 17)
content_number (faulty f p) r e = let z : Attribute f p ≡ r = cc in rw (← z) (fault_within f)
content_number (grounded g) r e = some_not_none (sym e)
content_number (merged path) r e =
    let n : refusal_number r ≡ 17 = numbered (ltb most_numbers (length path)) PathLength r e in
    (omega (arith, n), omega (arith, n))

-- Rows and their ranges, one list after another.
ranged_append : (xs : List (Option Refusal)) (ns : List (ℕ × ℕ)) (ys : List (Option Refusal)) (ms : List (ℕ × ℕ))
    → Ranged xs ns → Ranged ys ms → Ranged (xs ++ ys) (ns ++ ms)
ranged_append [] [] ys ms p q = q
ranged_append [] (n ∷ ns) ys ms p q = absurd p
ranged_append (x ∷ xs) [] ys ms p q = absurd p
ranged_append (x ∷ xs) (n ∷ ns) ys ms p q = (p.0, ranged_append xs ns ys ms p.1 q)

-- No range begins below a number.
abbrev pub From : ℕ → List (ℕ × ℕ) → Type 0
From m [] = Unit
From m (n ∷ ns) = (m ≤ n.0) × From m ns

-- Then no row does that refuses.
pub refused_from : (m : ℕ) (rows : List (Option Refusal)) (ns : List (ℕ × ℕ)) → Ranged rows ns → From m ns → (r : Refusal)
    → first_given rows ≡ Some r → m ≤ refusal_number r
unfolding first_given
refused_from m [] ns p f r e = some_not_none (sym e)
refused_from m (row ∷ rows) [] p f r e = absurd p
refused_from m (Some s ∷ rows) (n ∷ ns) p f r e = omega (arith, (p.0 r e).0, f.0)
refused_from m (None ∷ rows) (n ∷ ns) p f r e = refused_from m rows ns p.1 f.1 r e

-- Rows 9, 10, 11, and one of 12 to 17.
abbrev pub route_ranges : List (ℕ × ℕ)
route_ranges = (9, 9) ∷ (10, 10) ∷ (11, 11) ∷ (12, 17) ∷ []

pub route_numbers : (role neighbour : ℕ) (attribute : List ℕ) → Ranged (judge_rows role neighbour attribute) route_ranges
route_numbers role neighbour attribute = (
  ranged (not (is_role role)) RoleNumber,
  (
    ranged (eqb neighbour 0) NeighbourZero,
    (ranged (ltb most_bytes (length attribute)) AttributeLength, (content_number (content_of role neighbour attribute), tt)),
  ),
)

-- Judge: rows 1, 2, 9, 10, 11, and one of 12 to 17.
pub judge_numbers : (reg : Registers) (role neighbour : ℕ) (attribute : List ℕ)
    → Ranged (judge_rows_over reg role neighbour attribute) ((1, 1) ∷ (2, 2) ∷ route_ranges)
judge_numbers reg role neighbour attribute = (
  ranged (not (both_long reg)) TableLength,
  (ranged (not (both_ok reg)) RegisterMalformed, route_numbers role neighbour attribute),
)

-- Re-judge: rows 1, 1, 2, 3.
pub rejudge_numbers : (reg : Registers) (led : List ℕ) → Ranged (rejudge_rows reg led) ((1, 1) ∷ (1, 1) ∷ (2, 2) ∷ (3, 3) ∷ [])
rejudge_numbers reg led = (
  ranged (not (both_long reg)) TableLength,
  (
    ranged (not (eqb (length led) ledger_words)) TableLength,
    (ranged (not (both_ok reg)) RegisterMalformed, (ranged (not (ledger_ok led)) RoutesMalformed, tt)),
  ),
)

module _ (reg : Registers) (led : List ℕ) (k : Keeping) where
  -- The rows of the store: 18, 20.
  pub store_ranges : Ranged (store_rows led (kept_route reg k)) ((18, 18) ∷ (20, 20) ∷ [])
  store_ranges = (
    ranged (holds_route k.number (routes_of led)) RouteTaken,
    (ranged (not (room_for (put_route (kept_route reg k) (routes_of led)))) RoutesFull, tt),
  )

  -- The rows of the judging and of the store: 9, 10, 11, one of 12 to 17, 18, 20.
  pub stored_numbers :
      Ranged (judge_rows k.role k.neighbour k.attribute ++ store_rows led (kept_route reg k)) (route_ranges ++ ((18, 18) ∷ (20, 20) ∷ []))
  stored_numbers =
      ranged_append (judge_rows k.role k.neighbour k.attribute) route_ranges (store_rows led (kept_route reg k)) ((18, 18) ∷ (20, 20) ∷ [])
      (route_numbers k.role k.neighbour k.attribute) store_ranges

  -- Keep: rows 1, 1, 2, 3, then these.
  pub keep_numbers : Ranged (keep_rows reg led k) ((1, 1) ∷ (1, 1) ∷ (2, 2) ∷ (3, 3) ∷ (route_ranges ++ ((18, 18) ∷ (20, 20) ∷ [])))
  keep_numbers =
      ranged_append (table_rows reg led) ((1, 1) ∷ (1, 1) ∷ (2, 2) ∷ (3, 3) ∷ [])
      (judge_rows k.role k.neighbour k.attribute ++ store_rows led (kept_route reg k)) (route_ranges ++ ((18, 18) ∷ (20, 20) ∷ []))
      (rejudge_numbers reg led) stored_numbers
