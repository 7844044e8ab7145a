-- The list of one source for a customer, and the lowest source whose list holds a number, by the records' indices. Assumes nothing.
use Prim.Native.Nat.{ℕ, zero, suc, ◌≤◌, ◌<◌}
use mathlib.Core.Path.{◌≡◌, refl, sym, ◌∙◌}
use mathlib.Core.Bool.{Bool, true, false, cond, true≢false, ◌&&◌, ◌||◌}
use mathlib.Core.List.{List, [], ◌∷◌}
use native.Mathlib.Omega.{arith}
use borrow.Author.Tests.{eq-eqb, eqb-true, leb-true}
use lib.Dec.{eqb, leb}
use lib.ListN.{length}
use Rattle.keyed.specs.Keyed.{same_pair, before_pair, ascends, every, holds}
use Rattle.keyed.proofs.Orders.{ordered_pairs, before_not_same, before_self, before_test, second, both_left, both_right, same_says, same_flip}
use Rattle.keyed.proofs.Ranks.{from_entry, from_ascends, holds_at}
use Rattle.keyed.proofs.Finds.{every_at}
use Rattle.rules.specs.Records.{Record, is_in, list_of, lowest_source}
use Rattle.rules.proofs.Searching.{lowest_is, lowest_only}
use Rattle.register.specs.Register.{last_source, record_at, key_of, record_ok, position_of}
use Rattle.register.specs.Calls.{holds_record}
use Rattle.halves.proofs.Positions.{over, under}
use Rattle.register.proofs.Looking.{begins}

-- A record's list is the list of its source for its customer.
pub list_at : (rs : List Record) (i : ℕ) → ascends key_of same_pair before_pair rs ≡ true → i < length rs
    → list_of rs (record_at rs i).source (record_at rs i).customer ≡ (record_at rs i).providers
unfolding list_of ascends
list_at [] i a h = absurd (omega arith)
list_at (r ∷ rs) zero a h = rw (eq-eqb r.customer r.customer refl, eq-eqb r.source r.source refl)
list_at (r ∷ rs) (suc i) a h =
    let b = from_entry key_of same_pair before_pair ordered_pairs (key_of r) rs (record_at [] 0) i a (omega arith) in
    rw (before_not_same same_pair before_pair ordered_pairs (key_of r) (key_of (record_at rs i)) b)
    (list_at rs i (from_ascends key_of same_pair before_pair ordered_pairs (key_of r) rs a) (omega arith))

-- A number that it lists is in that list.
pub list_lists : (rs : List Record) → ascends key_of same_pair before_pair rs ≡ true → (x y i : ℕ) → i < length rs → (record_at rs i).customer ≡ x
    → is_in y (record_at rs i).providers ≡ true → is_in y (list_of rs (record_at rs i).source x) ≡ true
list_lists rs a x y i h e t = rw (← e, list_at rs i a h) t

-- A record of a customer and a source, whose list holds a number.
pub record Listed (rs : List Record) (x y source : ℕ) : Type 0 where
  pub at : ℕ
  pub within : at < length rs
  pub owner : (record_at rs at).customer ≡ x
  pub from : (record_at rs at).source ≡ source
  pub inside : is_in y (record_at rs at).providers ≡ true

-- A number in the list of a source is in the list of one of its records.
pub list_has : (rs : List Record) (x y source : ℕ) → is_in y (list_of rs source x) ≡ true → Listed rs x y source
unfolding list_of is_in
list_has [] x y source h = absurd (let z : ◌≡◌ {A = ℕ} 0 1 = cc in omega arith)
list_has (r ∷ rs) x y source h = go (eqb r.customer x && eqb r.source source) refl h (list_has rs x y source)
  where
    go : (b : Bool) → (eqb r.customer x && eqb r.source source) ≡ b → is_in y (cond b r.providers (list_of rs source x)) ≡ true
        → (is_in y (list_of rs source x) ≡ true → Listed rs x y source) → Listed (r ∷ rs) x y source
    go true e t ih =
        record {
          at = 0;
          within = omega arith;
          owner = eqb-true _ _ (both_left _ _ e);
          from = eqb-true _ _ (both_right (eqb r.customer x) _ e);
          inside = t;
        }
    go false e t ih =
        let l = ih t in
        record { at = suc l.at; within = omega arith; owner = l.owner; from = l.from; inside = l.inside }

-- A source that has no record of the customer has the empty list.
pub list_none : (rs : List Record) (x source : ℕ) → holds_record x source rs ≡ false → list_of rs source x ≡ []
unfolding list_of holds
list_none [] x source h = refl
list_none (r ∷ rs) x source h =
    go (same_pair (x, source) (key_of r)) refl h (list_none rs x source)
  where
    go : (b : Bool) → same_pair (x, source) (key_of r) ≡ b → (b || holds_record x source rs) ≡ false
        → (holds_record x source rs ≡ false → list_of rs source x ≡ []) → list_of (r ∷ rs) source x ≡ []
    go true e f ih = absurd (true≢false f)
    go false e f ih = rw (same_flip same_pair before_pair ordered_pairs (key_of r) (x, source), e) (ih f)

-- One that has a record has the list at the pair's place.
pub list_here : (rs : List Record) (x source : ℕ) → ascends key_of same_pair before_pair rs ≡ true → holds_record x source rs ≡ true
    → (position_of x source rs < length rs) × (list_of rs source x ≡ (record_at rs (position_of x source rs)).providers)
unfolding position_of
list_here rs x source a h =
    let b = holds_at key_of same_pair before_pair ordered_pairs (x, source) rs (record_at [] 0) a h in
    let k = same_says (x, source) (key_of (record_at rs (position_of x source rs))) b.1 in
    (b.0, (λ q. list_of rs (k q).1 (k q).0) ∙ list_at rs (position_of x source rs) a b.0)

-- There are eight sources.
pub source_low : (rs : List Record) → every record_ok rs ≡ true → (i : ℕ) → i < length rs → (record_at rs i).source < 8
unfolding record_ok
source_low rs ok i h =
    let k : (record_at rs i).source ≤ last_source
    = leb-true _ _ (both_left _ _ (both_right (leb 1 (record_at rs i).customer) _ (every_at record_ok rs (record_at [] 0) ok i h))) in
    omega arith

module _ (rs : List Record) (a : ascends key_of same_pair before_pair rs ≡ true) (ok : every record_ok rs ≡ true) where
  -- The record of the lowest source: no record of x before it lists y.
  pub lowest_listed : (x y i : ℕ) → i < length rs → (record_at rs i).customer ≡ x → is_in y (record_at rs i).providers ≡ true
      → ((j : ℕ) → j < i → (record_at rs j).customer ≡ x → is_in y (record_at rs j).providers ≡ false)
      → (record_at rs i).source ≡ lowest_source rs x y
  lowest_listed x y i h e t before =
      lowest_only
      (record {
        low = omega arith;
        high = omega (arith, source_low rs ok i h);
        passes = λ l. list_lists rs a x y i h e t;
        first = λ s l m. none s m (is_in y (list_of rs s x)) refl;
      })
      (lowest_is (λ s. is_in y (list_of rs s x)) 0 8)
    where
      none : (s : ℕ) → s < (record_at rs i).source → (b : Bool) → is_in y (list_of rs s x) ≡ b → b ≡ false
      none s m false p = refl
      none s m true p =
          let l = list_has rs x y s p in
          let k = (record_at rs i).source in
          let o = over (begins rs a x k) l.at l.within (before_test (key_of (record_at rs l.at)) (x, k) (second l.owner (omega (arith, l.from)))) in
          let u = under (begins rs a x k) i (rw e (before_self (x, k))) in
          absurd (true≢false (sym l.inside ∙ before l.at (omega (arith, o, u)) l.owner))
