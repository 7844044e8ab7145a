-- The place of a refusal is that of the attribute's first fault. Assumes nothing.
use Prim.Native.Nat.{ℕ, ◌≤◌, ◌<◌}
use mathlib.Core.Path.{◌≡◌, refl, sym, ap, ◌∙◌}
use mathlib.Core.Bool.{Bool, true, false, ◌&&◌, ◌||◌}
use mathlib.Core.List.{List, [], ◌∷◌}
use mathlib.Core.Logic.{◌↔◌}
use native.Mathlib.Omega.{arith}
use borrow.Author.Tests.{ltb-true, ltb-false}
use lib.Dec.{ltb}
use lib.ListN.{length}
use Rattle.types.specs.declared.Fault.{Fault}
use Rattle.types.specs.declared.Fault.TheVariants.{CutShort, UnknownType, Confederation, NoNumbers, ZeroNumber}
use Rattle.types.specs.declared.Refusal.{Refusal}
use Rattle.types.specs.declared.Refusal.TheVariants.{TableLength, RegisterMalformed, RoutesMalformed, SourceNumber, CustomerZero, ProviderList, NoRecord, RegisterFull, RoleNumber, NeighbourZero, AttributeLength, Attribute, PathLength, RouteTaken, NoRoute, RoutesFull, OutputLength, Edition, Contents, SnapshotLength}
use Rattle.types.specs.Numbers.{fault_number, refusal_number, refusal_place}
use Rattle.types.specs.Rows.{or_else, first_given, Ranged}
use Rattle.types.proofs.Clashes.{clash, some_not_none}
use Rattle.types.proofs.Refusing.{row_given, row_passed, accepted_none}
use Rattle.as_path.specs.Segments.{number_bytes}
use Rattle.as_path.specs.Faults.{first_fault}
use Rattle.as_path.specs.Reading.{most_numbers, Content, faulty, grounded, merged, content_of}
use Rattle.as_path.proofs.Contents.{content_fault}
use Rattle.as_path.proofs.Laws.{fault_laws}
use Rattle.keyed.proofs.Orders.{both_left, both_right}
use Rattle.rules.specs.Judging.{most_bytes, argument_rows, content_row, judge_rows, refusal_in}
use Rattle.rules.proofs.Judges.{first_append}
use Rattle.registers.specs.Registers.{Registers}
use Rattle.ledger.specs.Calls.{store_rows}
use Rattle.effects.specs.Calls.{Keeping, register_rows, table_rows, judge_answer, kept_route, keep_effect}
use Rattle.effects.proofs.Keepings.{keep_first}
use Rattle.effects.proofs.Refusals.{judge_reads, keep_reads, route_numbers, judge_numbers, rejudge_numbers, store_ranges}
use Rattle.std.specs.Prelude.{None, Option, Some}

-- ---- a refusal has a place exactly when its number is 12 to 16

-- A refusal without a place has no byte.
nowhere : {A : Type 0} (p : ℕ) → None ≡ Some p → A
nowhere p e = clash (cc)

-- Faults are rows 12 to 16.
fault_range : (f : Fault) → (12 ≤ fault_number f) × (fault_number f ≤ 16)
fault_range CutShort = (omega arith, omega arith)
fault_range UnknownType = (omega arith, omega arith)
fault_range Confederation = (omega arith, omega arith)
fault_range NoNumbers = (omega arith, omega arith)
fault_range ZeroNumber = (omega arith, omega arith)

-- A refusal has a place exactly when its number is 12 to 16.
pub placed : (r : Refusal) → ((12 ≤ refusal_number r) × (refusal_number r ≤ 16)) ↔ ((p : ℕ) × (refusal_place r ≡ Some p))
placed TableLength = (λ h. absurd (omega (arith, h.0)), λ p. nowhere p.0 p.1)
placed RegisterMalformed = (λ h. absurd (omega (arith, h.0)), λ p. nowhere p.0 p.1)
placed RoutesMalformed = (λ h. absurd (omega (arith, h.0)), λ p. nowhere p.0 p.1)
placed SourceNumber = (λ h. absurd (omega (arith, h.0)), λ p. nowhere p.0 p.1)
placed CustomerZero = (λ h. absurd (omega (arith, h.0)), λ p. nowhere p.0 p.1)
placed ProviderList = (λ h. absurd (omega (arith, h.0)), λ p. nowhere p.0 p.1)
placed NoRecord = (λ h. absurd (omega (arith, h.0)), λ p. nowhere p.0 p.1)
placed RegisterFull = (λ h. absurd (omega (arith, h.0)), λ p. nowhere p.0 p.1)
placed RoleNumber = (λ h. absurd (omega (arith, h.0)), λ p. nowhere p.0 p.1)
placed NeighbourZero = (λ h. absurd (omega (arith, h.0)), λ p. nowhere p.0 p.1)
placed AttributeLength = (λ h. absurd (omega (arith, h.0)), λ p. nowhere p.0 p.1)
placed (Attribute f q) = (λ h. (q, refl), λ p. fault_range f)
placed PathLength = (λ h. absurd (omega (arith, h.1)), λ p. nowhere p.0 p.1)
placed RouteTaken = (λ h. absurd (omega (arith, h.1)), λ p. nowhere p.0 p.1)
placed NoRoute = (λ h. absurd (omega (arith, h.1)), λ p. nowhere p.0 p.1)
placed RoutesFull = (λ h. absurd (omega (arith, h.1)), λ p. nowhere p.0 p.1)
placed OutputLength = (λ h. absurd (omega (arith, h.1)), λ p. nowhere p.0 p.1)
placed Edition = (λ h. absurd (omega (arith, h.1)), λ p. nowhere p.0 p.1)
placed Contents = (λ h. absurd (omega (arith, h.1)), λ p. nowhere p.0 p.1)
placed SnapshotLength = (λ h. absurd (omega (arith, h.1)), λ p. nowhere p.0 p.1)

-- A range without 12 to 16.
abbrev outside : ℕ × ℕ → Bool
outside n = ltb n.1 12 || ltb 16 n.0

abbrev pub all_outside : List (ℕ × ℕ) → Bool
all_outside [] = true
all_outside (n ∷ ns) = outside n && all_outside ns

-- A refusal in such a range has no place.
outside_none : (n : ℕ × ℕ) (r : Refusal) → outside n ≡ true → (n.0 ≤ refusal_number r) × (refusal_number r ≤ n.1) → (p : ℕ) → refusal_place r ≡ Some p → ⊥
outside_none n r o h p e = go (ltb n.1 12) refl (ltb 16 n.0) refl o ((placed r).1 (p, e))
  where
    go : (b : Bool) → ltb n.1 12 ≡ b → (c : Bool) → ltb 16 n.0 ≡ c → (b || c) ≡ true → (12 ≤ refusal_number r) × (refusal_number r ≤ 16) → ⊥
    go true x c y q k = let z : n.1 < 12 = ltb-true _ _ x in omega (arith, z, h.1, k.0)
    go false x true y q k = let z : 16 < n.0 = ltb-true _ _ y in omega (arith, z, h.0, k.1)
    go false x false y q k = clash (cc)

-- Nor has the first of rows in such ranges.
pub no_place : (rows : List (Option Refusal)) (ns : List (ℕ × ℕ)) → all_outside ns ≡ true → Ranged rows ns → (r : Refusal) → first_given rows ≡ Some r
    → (p : ℕ) → refusal_place r ≡ Some p → ⊥
unfolding first_given
no_place [] ns o h r e = some_not_none (sym e)
no_place (row ∷ rows) [] o h r e = absurd h
no_place (Some s ∷ rows) (n ∷ ns) o h r e = outside_none n r (both_left (outside n) _ o) (h.0 r e)
no_place (None ∷ rows) (n ∷ ns) o h r e = no_place rows ns (both_right (outside n) _ o) h.1 r e

-- ---- the rows of a judging

-- A place is that of the first fault of an attribute that row 11 let through.
pub record Placed (attribute : List ℕ) (r : Refusal) (p : ℕ) : Type 0 where
  pub fault : Fault
  pub is : r ≡ Attribute fault p
  pub first : first_fault number_bytes attribute ≡ Some (fault, p)
  pub short : length attribute ≤ most_bytes

-- The first row of two lists that is given.
either : (P : Refusal → Type 0) (o q : Option Refusal) → ((r : Refusal) → o ≡ Some r → P r) → (o ≡ None → (r : Refusal) → q ≡ Some r → P r)
    → (r : Refusal) → or_else o q ≡ Some r → P r
either P (Some s) q h g r e = h r e
either P None q h g r e = g refl r e

module _ (role neighbour : ℕ) (attribute : List ℕ) where
  abbrev Told : Refusal → Type 0
  Told r = (p : ℕ) → refusal_place r ≡ Some p → Placed attribute r p

  -- The row of the attribute's content.
  content_placed : length attribute ≤ most_bytes → (r : Refusal) → content_row (content_of role neighbour attribute) ≡ Some r → Told r
  content_placed short r = by_content (content_of role neighbour attribute) refl
    where
      by_content : (c : Content) → content_of role neighbour attribute ≡ c → content_row c ≡ Some r → Told r
      by_content (faulty f q) w e p h =
          let z : Attribute f q ≡ r = cc in
          let y : Some q ≡ Some p = ap refusal_place z ∙ h in
          let x : q ≡ p = cc in
          record {
            fault = f;
            is = sym z ∙ ap (Attribute f) x;
            first = content_fault role neighbour attribute f q w ∙ ap (λ (n : ℕ). Some (f, n)) x;
            short = short;
          }
      by_content (grounded g) w e p h = some_not_none (sym e)
      by_content (merged path) w e p h = nowhere p (ap refusal_place (row_given (ltb most_numbers (length path)) PathLength r e).1 ∙ h)

  -- Rows 9 to 17.
  pub route_placed : (r : Refusal) → first_given (judge_rows role neighbour attribute) ≡ Some r → Told r
  unfolding first_given
  route_placed r e =
      either Told (first_given (argument_rows role neighbour attribute)) (first_given (content_row (content_of role neighbour attribute) ∷ []))
      (λ s f p g. absurd (no_place (argument_rows role neighbour attribute) ((9, 9) ∷ (10, 10) ∷ (11, 11) ∷ []) refl
      (let n = route_numbers role neighbour attribute in (n.0, (n.1.0, (n.1.1.0, tt)))) s f p g))
      (λ none_given. either Told (content_row (content_of role neighbour attribute)) None
      (content_placed (ltb-false _ _ (row_passed _ _ (accepted_none (argument_rows role neighbour attribute) none_given 2))))
      (λ h s f. some_not_none (sym f)))
      r (sym (first_append (argument_rows role neighbour attribute) (content_row (content_of role neighbour attribute) ∷ [])) ∙ e)

  -- Judge.
  pub judge_placed : (reg : Registers) (r : Refusal) → refusal_in (judge_answer reg role neighbour attribute) ≡ Some r → Told r
  judge_placed reg r e =
      either Told (first_given (register_rows reg)) (first_given (judge_rows role neighbour attribute))
      (λ s f p g. absurd (no_place (register_rows reg) ((1, 1) ∷ (2, 2) ∷ []) refl
      (let n = judge_numbers reg role neighbour attribute in (n.0, (n.1.0, tt))) s f p g))
      (λ h. route_placed)
      r (sym (first_append (register_rows reg) (judge_rows role neighbour attribute)) ∙ sym (judge_reads reg role neighbour attribute) ∙ e)

-- Keep.
pub keep_placed : (reg : Registers) (led : List ℕ) (k : Keeping) (r : Refusal) → refusal_in (keep_effect reg led k).answer ≡ Some r
    → (p : ℕ) → refusal_place r ≡ Some p → Placed k.attribute r p
keep_placed reg led k r e =
    either Told' (first_given (table_rows reg led))
    (or_else (first_given (judge_rows k.role k.neighbour k.attribute)) (first_given (store_rows led (kept_route reg k))))
    (λ s f p g. absurd (no_place (table_rows reg led) ((1, 1) ∷ (1, 1) ∷ (2, 2) ∷ (3, 3) ∷ []) refl (rejudge_numbers reg led) s f p g))
    (λ h. either Told' (first_given (judge_rows k.role k.neighbour k.attribute)) (first_given (store_rows led (kept_route reg k)))
    (route_placed k.role k.neighbour k.attribute)
    (λ h s f p g. absurd (no_place (store_rows led (kept_route reg k)) ((18, 18) ∷ (20, 20) ∷ []) refl (store_ranges reg led k) s f p g)))
    r (sym (keep_first reg led k) ∙ sym (keep_reads reg led k) ∙ e)
  where
    Told' : Refusal → Type 0
    Told' s = (p : ℕ) → refusal_place s ≡ Some p → Placed k.attribute s p

-- A place is a byte of the attribute, and so below the most bytes.
pub place_within : (attribute : List ℕ) (r : Refusal) (p : ℕ) → Placed attribute r p → (p < length attribute) × (p < most_bytes)
place_within attribute r p q =
    let h : p < length attribute = fault_laws.fault_within 4 attribute q.fault p (omega arith) q.first in
    (h, omega (arith, h, q.short))
