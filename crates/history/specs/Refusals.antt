-- Demand 1: over any tables, malformed ones among them, every call is refused exactly by the first of its rows that is given, and then changes no
-- word ("Refusals").
use Rattle.std.specs.Prelude.{ℕ, ◌≤◌, ◌<◌, ◌≡◌, Bool, true, ◌&&◌, List, [], ◌∷◌, ◌++◌, ◌↔◌, leb, length, get_or, Err, None, Ok, Option, Result, Some}
use Rattle.types.specs.declared.Fault.{Fault}
use Rattle.types.specs.declared.Refusal.{Refusal}
use Rattle.types.specs.declared.Refusal.TheVariants.{Attribute}
use Rattle.types.specs.Numbers.{refusal_number, refusal_place}
use Rattle.types.specs.Rows.{FirstAt, Ranged}
use Rattle.as_path.specs.Segments.{number_bytes}
use Rattle.as_path.specs.Faults.{first_fault}
use Rattle.register.specs.Calls.{file_rows, withdraw_rows, clear_rows}
use Rattle.registers.specs.Registers.{chosen}
use Rattle.ledger.specs.Calls.{drop_rows}
use Rattle.rules.specs.Judging.{refusal_in}
use Rattle.effects.specs.Calls.{register_rows, judge_rows_over, keep_rows, rejudge_rows, judge_answer, hop_answer, look_rows, lookup_list}
use Rattle.history.specs.Calls.{Call, file, withdraw, clear, keep, drop, rejudge, Tables, says, leaves}
use Rattle.history.specs.Replies.{ModelReply, new, replaced, done, gone, refused, shown}
use Rattle.types.specs.declared.Hop.{Hop}

-- Every call of the filter that can be refused: one that can change a table, Judge, or Hop.
pub data AnyCall : Type 0 where
  change : Call → AnyCall
  judge : (role neighbour : ℕ) → (attribute : List ℕ) → AnyCall
  hop : (x y : ℕ) → AnyCall

-- ---- the rows of a call

abbrev pub call_rows : Tables → Call → List (Option Refusal)
call_rows t (file o source customer list) = file_rows (chosen o t.registers) source customer list
call_rows t (withdraw o source customer) = withdraw_rows (chosen o t.registers) source customer
call_rows t (clear o source) = clear_rows (chosen o t.registers) source
call_rows t (keep k) = keep_rows t.registers t.ledger k
call_rows t (drop number) = drop_rows t.ledger number
call_rows t rejudge = rejudge_rows t.registers t.ledger

abbrev pub rows_of : Tables → AnyCall → List (Option Refusal)
rows_of t (change c) = call_rows t c
rows_of t (judge role neighbour attribute) = judge_rows_over t.registers role neighbour attribute
rows_of t (hop x y) = register_rows t.registers

-- The numbers of the rows as the rules list them. Row 1 comes once for both lent registers and once for the ledger; 12 to 16 are one row, by place,
-- with 17 for an attribute that has no fault.
abbrev pub route_numbers : List (ℕ × ℕ)
route_numbers = (9, 9) ∷ (10, 10) ∷ (11, 11) ∷ (12, 17) ∷ []

abbrev pub call_numbers : Call → List (ℕ × ℕ)
call_numbers (file o source customer list) = (1, 1) ∷ (2, 2) ∷ (4, 4) ∷ (5, 5) ∷ (6, 6) ∷ (8, 8) ∷ []
call_numbers (withdraw o source customer) = (1, 1) ∷ (2, 2) ∷ (4, 4) ∷ (5, 5) ∷ (7, 7) ∷ []
call_numbers (clear o source) = (1, 1) ∷ (2, 2) ∷ (4, 4) ∷ []
call_numbers (keep k) = (1, 1) ∷ (1, 1) ∷ (2, 2) ∷ (3, 3) ∷ (route_numbers ++ ((18, 18) ∷ (20, 20) ∷ []))
call_numbers (drop number) = (1, 1) ∷ (3, 3) ∷ (19, 19) ∷ []
call_numbers rejudge = (1, 1) ∷ (1, 1) ∷ (2, 2) ∷ (3, 3) ∷ []

abbrev pub numbers_of : AnyCall → List (ℕ × ℕ)
numbers_of (change c) = call_numbers c
numbers_of (judge role neighbour attribute) = (1, 1) ∷ (2, 2) ∷ route_numbers
numbers_of (hop x y) = (1, 1) ∷ (2, 2) ∷ []

-- Those at which a look-up has no list.
abbrev pub look_numbers : List (ℕ × ℕ)
look_numbers = (1, 1) ∷ (2, 2) ∷ (4, 4) ∷ (5, 5) ∷ []

-- Ranges in their order, from a number on.
abbrev pub in_order : ℕ → List (ℕ × ℕ) → Bool
in_order m [] = true
in_order m (n ∷ ns) = leb m n.0 && leb n.0 n.1 && in_order n.1 ns

-- ---- what a call answers and leaves

abbrev pub refused_by : ModelReply → Option Refusal
refused_by new = None
refused_by replaced = None
refused_by done = None
refused_by (gone n) = None
refused_by (refused r) = Some r

abbrev pub hop_refusal : Result Hop Refusal → Option Refusal
hop_refusal (Ok h) = None
hop_refusal (Err r) = Some r

-- The refusal that the filter's answer is, if it is one.
abbrev pub refusal_of : Tables → AnyCall → Option Refusal
refusal_of t (change c) = refused_by (shown (says t c))
refusal_of t (judge role neighbour attribute) = refusal_in (judge_answer t.registers role neighbour attribute)
refusal_of t (hop x y) = hop_refusal (hop_answer t.registers x y)

-- Judge and Hop are lent the registers only to be read.
abbrev pub left_by : Tables → AnyCall → Tables
left_by t (change c) = leaves t c
left_by t (judge role neighbour attribute) = t
left_by t (hop x y) = t

-- The attribute that a call is handed; no bytes if it is handed none.
abbrev pub call_attribute : Call → List ℕ
call_attribute (file o source customer list) = []
call_attribute (withdraw o source customer) = []
call_attribute (clear o source) = []
call_attribute (keep k) = k.attribute
call_attribute (drop number) = []
call_attribute rejudge = []

abbrev pub attribute_of : AnyCall → List ℕ
attribute_of (change c) = call_attribute c
attribute_of (judge role neighbour attribute) = attribute
attribute_of (hop x y) = []

-- ---- the demand

pub record Demand1 : Type 0 where
  -- A call answers a refusal exactly when one of its rows is given as that refusal and no row before it is given.
  pub refused_first : (t : Tables) (c : AnyCall) (r : Refusal) → (refusal_of t c ≡ Some r) ↔ ((i : ℕ) × FirstAt (rows_of t c) i r)
  -- It is accepted exactly when none is given.
  pub accepted_none : (t : Tables) (c : AnyCall) → (refusal_of t c ≡ None) ↔ ((i : ℕ) → get_or (rows_of t c) i None ≡ None)
  -- Its rows have the numbers that the rules list.
  pub rows_numbered : (t : Tables) (c : AnyCall) → Ranged (rows_of t c) (numbers_of c)
  -- These stand in their order.
  pub numbers_ordered : (c : AnyCall) → in_order 1 (numbers_of c) ≡ true
  -- A refused call leaves every word of all tables.
  pub refused_leaves : (t : Tables) (c : AnyCall) (r : Refusal) → refusal_of t c ≡ Some r → left_by t c ≡ t
  -- A refusal has a place exactly when its number is 12 to 16.
  pub places_numbered : (r : Refusal) → ((12 ≤ refusal_number r) × (refusal_number r ≤ 16)) ↔ ((p : ℕ) × (refusal_place r ≡ Some p))
  -- It is then the first fault of the call's attribute, and the place is the fault's, at a byte of the attribute.
  pub place_first : (t : Tables) (c : AnyCall) (r : Refusal) (p : ℕ) → refusal_of t c ≡ Some r → refusal_place r ≡ Some p
      → (f : Fault) × ((r ≡ Attribute f p) × (first_fault number_bytes (attribute_of c) ≡ Some (f, p)))
  pub place_within : (t : Tables) (c : AnyCall) (r : Refusal) (p : ℕ) → refusal_of t c ≡ Some r → refusal_place r ≡ Some p
      → p < length (attribute_of c)
  -- The look-up is no call that is refused: where one of its rows is given, which have these numbers, it hands back the empty list.
  pub look_empty : (t : Tables) (source customer i : ℕ) (r : Refusal) → get_or (look_rows t.registers source customer) i None ≡ Some r
      → lookup_list t.registers source customer ≡ []
  pub look_numbered : (t : Tables) (source customer : ℕ) → Ranged (look_rows t.registers source customer) look_numbers
