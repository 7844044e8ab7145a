-- The scans of demand 2 find exactly the last accepted filing, and the last accepted keeping. Assumes nothing.
use Prim.Native.Nat.{ℕ, zero, suc, ◌<◌, ◌≤◌}
use mathlib.Core.Path.{◌≡◌, refl, sym, ◌∙◌}
use mathlib.Core.Bool.{Bool, true, false, cond, ◌&&◌}
use mathlib.Core.List.{List}
use mathlib.Core.Logic.{◌↔◌, ◌⊎◌, inl, inr}
use native.Mathlib.Omega.{arith}
use native.Mathlib.Decide.{dec_lt}
use borrow.Author.Tests.{eqb-true, eqb-false, eq-eqb}
use lib.Dec.{eqb}
use Rattle.types.specs.declared.Origin.{Origin}
use Rattle.types.proofs.Clashes.{not_both}
use Rattle.keyed.proofs.Orders.{both_left, both_right, both_intro}
use Rattle.register.specs.Register.{records_of}
use Rattle.registers.specs.Registers.{chosen}
use Rattle.ledger.specs.Routes.{routes_of}
use Rattle.history.specs.Calls.{Call, file, withdraw, clear, keep, drop, rejudge, Scope, scope, Tables, call_at, scope_at, said, KeptRoute, route_read, find_record, find_route, providers_of, known}
use Rattle.history.specs.Replies.{shown, accepted}
use Rattle.history.specs.Filings.{same_origin, filed_by, filed_list, kept_by, kept_route_at}
use Rattle.history.specs.Reorderings.{OnPair, Clears, OnRoute}
use Rattle.history.proofs.Origins.{origin_is, origin_self}
use Rattle.history.specs.Sanity.{LastFiled, by_filing, list_held_first, KeepsAs, LastKept, by_keeping, route_held_first}
use Rattle.std.specs.Prelude.{None, Option, Some, option_map}

-- ---- any scan

-- What an accepted call does to the value that is looked for: it gives one, it ends it, or it leaves it.
data Effect {X : Type 0} (by : Call → Option X → Option X) (Gives : Call → X → Type 0) (Touches : Scope → Type 0) (c : Call) : Type 0 where
  gives : (x : X) → Gives c x → Touches (scope c) → ((v : Option X) → by c v ≡ Some x) → Effect by Gives Touches c
  ends : Touches (scope c) → ((v : Option X) → by c v ≡ None) → Effect by Gives Touches c
  misses : (Touches (scope c) → ⊥) → ((v : Option X) → by c v ≡ v) → Effect by Gives Touches c

module _ {X : Type 0} (by : Call → Option X → Option X) (Gives : Call → X → Type 0) (Touches : Scope → Type 0)
    (effect : (c : Call) → Effect by Gives Touches c) (given : (c : Call) (x : X) (v : Option X) → Gives c x → by c v ≡ Some x)
    (first : Option X) (t : Tables) (l : List Call) where
  -- The value after i calls, from the first one on.
  unfoldable scan : ℕ → Option X
  scan zero = first
  scan (suc i) = cond (accepted (shown (said t l i))) (by (call_at l i) (scan i)) (scan i)

  -- No accepted call from one index to before another touches the value.
  abbrev Stands : ℕ → ℕ → Type 0
  Stands from i = (j : ℕ) → from ≤ j → j < i → accepted (shown (said t l j)) ≡ true → Touches (scope_at l j) → ⊥

  -- The last accepted call before index i that touches the value gives it, or there is none and it is the first one.
  data Last (i : ℕ) (x : X) : Type 0 where
    by_call : (index : ℕ) → index < i → Gives (call_at l index) x → accepted (shown (said t l index)) ≡ true → Stands (suc index) i → Last i x
    held_first : first ≡ Some x → Stands 0 i → Last i x

  -- One call more that does not touch it, or is not accepted.
  stands : (from i : ℕ) → Stands from i → (accepted (shown (said t l i)) ≡ true → Touches (scope_at l i) → ⊥) → Stands from (suc i)
  stands from i s n j a b = go (dec_lt j i)
    where
      go : Dec (j < i) → accepted (shown (said t l j)) ≡ true → Touches (scope_at l j) → ⊥
      go (yes c) = s j a c
      go (no c) = let e : j ≡ i = omega arith in rw e n

  later : (i : ℕ) (x : X) → Last i x → (accepted (shown (said t l i)) ≡ true → Touches (scope_at l i) → ⊥) → Last (suc i) x
  later i x (by_call index b g a s) n = by_call index (omega arith) g a (stands (suc index) i s n)
  later i x (held_first e s) n = held_first e (stands 0 i s n)

  -- What the scan finds is given by the last accepted call that touches the value,
  scan_finds : (i : ℕ) (x : X) → scan i ≡ Some x → Last i x
  unfolding scan
  scan_finds zero x e = held_first e (λ j a b. absurd (omega arith))
  scan_finds (suc i) x e = go (accepted (shown (said t l i))) refl e (scan_finds i x)
    where
      touched : Effect by Gives Touches (call_at l i) → accepted (shown (said t l i)) ≡ true → by (call_at l i) (scan i) ≡ Some x
          → (scan i ≡ Some x → Last i x) → Last (suc i) x
      touched (gives y g d q) p f ih =
          let z : Some y ≡ Some x = sym (q (scan i)) ∙ f in
          let w : y ≡ x = cc in
          by_call i (omega arith) (rw (← w) g) p (λ j a b. absurd (omega arith))
      touched (ends d q) p f ih = let z : None ≡ Some x = sym (q (scan i)) ∙ f in let y : ◌≡◌ {A = ℕ} 0 1 = cc in absurd (omega arith)
      touched (misses n q) p f ih = later i x (ih (sym (q (scan i)) ∙ f)) (λ a. n)

      go : (b : Bool) → accepted (shown (said t l i)) ≡ b → cond b (by (call_at l i) (scan i)) (scan i) ≡ Some x → (scan i ≡ Some x → Last i x) → Last (suc i) x
      go true p f ih = touched (effect (call_at l i)) p f ih
      go false p f ih = later i x (ih f) (λ a. not_both p a)

  -- A value that stands over one call more.
  over : (i from : ℕ) (x : X) → from ≤ i → Stands from (suc i) → scan i ≡ Some x → scan (suc i) ≡ Some x
  unfolding scan
  over i from x h s e = go (accepted (shown (said t l i))) refl
    where
      touched : accepted (shown (said t l i)) ≡ true → Effect by Gives Touches (call_at l i) → by (call_at l i) (scan i) ≡ Some x
      touched a (gives y g d q) = absurd (s i h (omega arith) a d)
      touched a (ends d q) = absurd (s i h (omega arith) a d)
      touched a (misses n q) = q (scan i) ∙ e

      go : (b : Bool) → accepted (shown (said t l i)) ≡ b → cond b (by (call_at l i) (scan i)) (scan i) ≡ Some x
      go true a = touched a (effect (call_at l i))
      go false a = e

  -- and what that call gives the scan finds, or else the first value.
  found_scan : (i : ℕ) (x : X) → Last i x → scan i ≡ Some x
  unfolding scan
  found_scan zero x (by_call index b g a s) = absurd (omega arith)
  found_scan zero x (held_first e s) = e
  found_scan (suc i) x (by_call index b g a s) = go (dec_lt index i) (found_scan i x)
    where
      go : Dec (index < i) → (Last i x → scan i ≡ Some x) → cond (accepted (shown (said t l i))) (by (call_at l i) (scan i)) (scan i) ≡ Some x
      go (yes q) ih = over i (suc index) x (omega arith) s (ih (by_call index q g a (λ j c d. s j c (omega arith))))
      go (no n) ih =
          let e : index ≡ i = omega arith in
          rw (rw e at a) (given (call_at l i) x (scan i) (rw e at g))
  found_scan (suc i) x (held_first e s) = over i 0 x (omega arith) s (found_scan i x (held_first e (λ j c d. s j c (omega arith))))

-- ---- filings

module _ (o : Origin) (source customer : ℕ) where
  -- A filing of this list for the pair in this register.
  abbrev Files : Call → List ℕ → Type 0
  Files c list = c ≡ file o source customer list

  -- A step on the pair there, or a clearing of the source.
  abbrev OnList : Scope → Type 0
  OnList c = OnPair o source customer c ⊎ Clears o source c

  -- The test of a pair.
  data Pair (p : Origin) (s c : ℕ) : Type 0 where
    same : p ≡ o → s ≡ source → c ≡ customer → same_origin p o && (eqb c customer && eqb s source) ≡ true → Pair p s c
    other : ((p ≡ o) × (s ≡ source) × (c ≡ customer) → ⊥) → same_origin p o && (eqb c customer && eqb s source) ≡ false → Pair p s c

  -- The same register.
  same-origin : (p : Origin) → p ≡ o → same_origin p o ≡ true
  same-origin p e = rw e (origin_self o)

  -- The test tells whether it is the pair.
  pair : (p : Origin) (s c : ℕ) → Pair p s c
  pair p s c = go (same_origin p o && (eqb c customer && eqb s source)) refl
    where
      go : (b : Bool) → (same_origin p o && (eqb c customer && eqb s source)) ≡ b → Pair p s c
      go true e =
          let f = both_right (same_origin p o) _ e in
          same (origin_is p o (both_left _ _ e)) (eqb-true _ _ (both_right (eqb c customer) _ f)) (eqb-true _ _ (both_left _ _ f)) e
      go false e =
          other (λ q. not_both e (both_intro _ _ (same-origin p q.0) (both_intro _ _ (eq-eqb c customer q.2) (eq-eqb s source q.1)))) e

  -- What each call does to the list of the pair.
  file_effect : (c : Call) → Effect (filed_by o source customer) Files OnList c
  file_effect (file p s c list) = go (pair p s c)
    where
      go : Pair p s c → Effect (filed_by o source customer) Files OnList (file p s c list)
      go (same u v w e) = gives list (λ i. file (u i) (v i) (w i) list) (inl (u, v, w)) (λ v. rw e)
      go (other n e) = misses (elim [ inl p ↦ n p | inr f ↦ f ]) (λ v. rw e)
  file_effect (withdraw p s c) = go (pair p s c)
    where
      go : Pair p s c → Effect (filed_by o source customer) Files OnList (withdraw p s c)
      go (same u v w e) = ends (inl (u, v, w)) (λ v. rw e)
      go (other n e) = misses (elim [ inl p ↦ n p | inr f ↦ f ]) (λ v. rw e)
  file_effect (clear p s) = go (same_origin p o && eqb s source) refl
    where
      go : (b : Bool) → (same_origin p o && eqb s source) ≡ b → Effect (filed_by o source customer) Files OnList (clear p s)
      go true e = ends (inr (origin_is p o (both_left _ _ e), eqb-true _ _ (both_right (same_origin p o) _ e))) (λ v. rw e)
      go false e =
          misses (elim [ inl f ↦ f | inr q ↦ not_both e (both_intro _ _ (same-origin p q.0) (eq-eqb s source q.1)) ]) (λ v. rw e)
  file_effect (keep k) = misses (elim [ inl f ↦ f | inr f ↦ f ]) (λ v. refl)
  file_effect (drop n) = misses (elim [ inl f ↦ f | inr f ↦ f ]) (λ v. refl)
  file_effect rejudge = misses (elim [ inl f ↦ f | inr f ↦ f ]) (λ v. refl)

  -- A filing of the pair gives its list.
  file_given : (c : Call) (list : List ℕ) (v : Option (List ℕ)) → Files c list → filed_by o source customer c v ≡ Some list
  file_given c list v e = rw (e, origin_self o, eq-eqb customer customer refl, eq-eqb source source refl)

  module _ (t : Tables) (l : List Call) where
    -- The list that t holds.
    abbrev first_list : Option (List ℕ)
    first_list = providers_of (find_record (customer, source) (records_of (chosen o t.registers)))

    -- The list that is filed is such a scan.
    filed_scan : (i : ℕ) → filed_list t l i o source customer ≡ scan (filed_by o source customer) Files OnList file_effect file_given first_list t l i
    unfolding filed_list scan
    filed_scan zero = refl
    filed_scan (suc i) = rw (filed_scan i)

    -- What is filed is the last accepted list.
    pub filed_is_last : (i : ℕ) (list : List ℕ) → (filed_list t l i o source customer ≡ Some list) ↔ LastFiled t l i o source customer list
    filed_is_last i list = (
      λ e. forth (scan_finds (filed_by o source customer) Files OnList file_effect file_given first_list t l i list (sym (filed_scan i) ∙ e)),
      λ p. filed_scan i ∙ found_scan (filed_by o source customer) Files OnList file_effect file_given first_list t l i list (back p),
    )
      where
        forth : Last (filed_by o source customer) Files OnList file_effect file_given first_list t l i list → LastFiled t l i o source customer list
        forth (by_call index b g a s) = by_filing index b g a (λ j c d q. (λ x. s j c d q (inl x), λ x. s j c d q (inr x)))
        forth (held_first e s) = list_held_first e (λ j c d q. (λ x. s j c d q (inl x), λ x. s j c d q (inr x)))

        back : LastFiled t l i o source customer list → Last (filed_by o source customer) Files OnList file_effect file_given first_list t l i list
        back (by_filing index b g a s) = by_call index b g a (λ j c d q x. elim x [ inl y ↦ (s j c d q).0 y | inr y ↦ (s j c d q).1 y ])
        back (list_held_first e s) = held_first e (λ j c d q x. elim x [ inl y ↦ (s j c d q).0 y | inr y ↦ (s j c d q).1 y ])

-- ---- keepings

module _ (number : ℕ) where
  -- What each call does to the route under the number.
  keep_effect : (c : Call) → Effect (kept_by number) (KeepsAs number) (OnRoute number) c
  keep_effect (file o s c list) = misses (λ f. f) (λ v. refl)
  keep_effect (withdraw o s c) = misses (λ f. f) (λ v. refl)
  keep_effect (clear o s) = misses (λ f. f) (λ v. refl)
  keep_effect (keep k) = go (eqb k.number number) refl
    where
      go : (b : Bool) → eqb k.number number ≡ b → Effect (kept_by number) (KeepsAs number) (OnRoute number) (keep k)
      go true e =
          let p : k.number ≡ number = eqb-true _ _ e in
          gives (route_read k) (record { arguments = k; under = p; keeping = refl; reads = refl }) p (λ v. rw e)
      go false e = misses (eqb-false _ _ e) (λ v. rw e)
  keep_effect (drop n) = go (eqb n number) refl
    where
      go : (b : Bool) → eqb n number ≡ b → Effect (kept_by number) (KeepsAs number) (OnRoute number) (drop n)
      go true e = ends (eqb-true _ _ e) (λ v. rw e)
      go false e = misses (eqb-false _ _ e) (λ v. rw e)
  keep_effect rejudge = misses (λ f. f) (λ v. refl)

  -- A keeping under the number gives its route.
  keep_given : (c : Call) (r : KeptRoute) (v : Option KeptRoute) → KeepsAs number c r → kept_by number c v ≡ Some r
  keep_given c r v k = rw (k.keeping, k.reads, eq-eqb k.arguments.number number k.under)

  module _ (t : Tables) (l : List Call) where
    -- The route that t holds.
    abbrev first_route : Option KeptRoute
    first_route = option_map known (find_route number (routes_of t.ledger))

    -- The route that is kept is such a scan.
    kept_scan : (i : ℕ) → kept_route_at t l i number ≡ scan (kept_by number) (KeepsAs number) (OnRoute number) keep_effect keep_given first_route t l i
    unfolding kept_route_at scan
    kept_scan zero = refl
    kept_scan (suc i) = rw (kept_scan i)

    -- What is kept is the last accepted keeping's route.
    pub kept_is_last : (i : ℕ) (r : KeptRoute) → (kept_route_at t l i number ≡ Some r) ↔ LastKept t l i number r
    kept_is_last i r = (
      λ e. forth (scan_finds (kept_by number) (KeepsAs number) (OnRoute number) keep_effect keep_given first_route t l i r (sym (kept_scan i) ∙ e)),
      λ p. kept_scan i ∙ found_scan (kept_by number) (KeepsAs number) (OnRoute number) keep_effect keep_given first_route t l i r (back p),
    )
      where
        forth : Last (kept_by number) (KeepsAs number) (OnRoute number) keep_effect keep_given first_route t l i r → LastKept t l i number r
        forth (by_call index b g a s) = by_keeping index b g a s
        forth (held_first e s) = route_held_first e s

        back : LastKept t l i number r → Last (kept_by number) (KeepsAs number) (OnRoute number) keep_effect keep_given first_route t l i r
        back (by_keeping index b g a s) = by_call index b g a s
        back (route_held_first e s) = held_first e s
