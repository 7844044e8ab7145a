-- What a record that is put in changes: the lists of its own customer, and there what it holds and what its source's list held. Assumes nothing.
use Prim.Native.Nat.{ℕ}
use mathlib.Core.Path.{◌≡◌, refl, sym, ap, ◌∙◌}
use mathlib.Core.Bool.{Bool, true, false, cond, ◌&&◌, ◌||◌, true≢false}
use mathlib.Core.List.{List, [], ◌∷◌, ◌++◌}
use borrow.Author.Tests.{eqb-true}
use lib.Dec.{eqb}
use Rattle.keyed.specs.Keyed.{same_pair, before_pair, put}
use Rattle.keyed.proofs.Orders.{ordered_pairs, ordered_ℕ, same_flip, both_left}
use Rattle.rules.specs.Records.{Record, is_in, attested, united, list_of}
use Rattle.providers.proofs.Seeking.{in_append}
use Rattle.register.specs.Register.{key_of}
use Rattle.register.specs.Calls.{put_record}

-- ---- of other customers nothing changes

module _ (r : Record) (x : ℕ) (other : eqb r.customer x ≡ false) where
  pub put_other : (rs : List Record) → (attested (put_record r rs) x ≡ attested rs x) × (united (put_record r rs) x ≡ united rs x)
  unfolding attested united put
  put_other [] = (rw other, rw other)
  put_other (q ∷ qs) = go (same_pair (key_of r) (key_of q)) (before_pair (key_of r) (key_of q)) refl (put_other qs)
    where
      Same : List Record → List Record → Type 0
      Same ps rs = (attested ps x ≡ attested rs x) × (united ps x ≡ united rs x)

      go : (s b : Bool) → same_pair (key_of r) (key_of q) ≡ s → Same (put_record r qs) qs
          → Same (cond s (r ∷ qs) (cond b (r ∷ (q ∷ qs)) (q ∷ put_record r qs))) (q ∷ qs)
      go true b e ih =
          let z : r.customer ≡ q.customer = eqb-true _ _ (both_left _ _ e) in
          let n : eqb q.customer x ≡ false = rw z at other in
          (rw (other, n), rw (other, n))
      go false true e ih = (rw other, rw other)
      go false false e ih = (rw ih.0, rw ih.1)

-- ---- the customer's own lists

-- It has a record then.
pub put_attests : (r : Record) (rs : List Record) → attested (put_record r rs) r.customer ≡ true
unfolding attested put
put_attests r [] = rw (ordered_ℕ.same_self r.customer)
put_attests r (q ∷ qs) = go (same_pair (key_of r) (key_of q)) (before_pair (key_of r) (key_of q)) (put_attests r qs)
  where
    or-true : (b : Bool) → (b || true) ≡ true
    or-true true = refl
    or-true false = refl

    go : (s b : Bool) → attested (put_record r qs) r.customer ≡ true
        → attested (cond s (r ∷ qs) (cond b (r ∷ (q ∷ qs)) (q ∷ put_record r qs))) r.customer ≡ true
    go true b ih = rw (ordered_ℕ.same_self r.customer)
    go false true ih = rw (ordered_ℕ.same_self r.customer)
    go false false ih = rw ih (or-true (eqb q.customer r.customer))

-- A number is in the united lists by the first record, or by the others.
in_united : (y x : ℕ) (q : Record) (qs : List Record)
    → is_in y (united (q ∷ qs) x) ≡ ((eqb q.customer x && is_in y q.providers) || is_in y (united qs x))
unfolding united
in_united y x q qs = go (eqb q.customer x)
  where
    go : (b : Bool) → is_in y (cond b (q.providers ++ united qs x) (united qs x)) ≡ ((b && is_in y q.providers) || is_in y (united qs x))
    go true = in_append y q.providers (united qs x)
    go false = refl

module _ (r : Record) (y : ℕ) where
  -- Whether the record's list holds y, and whether the united lists of its customer do.
  abbrev new : Bool
  new = is_in y r.providers

  abbrev among : List Record → Bool
  among rs = is_in y (united rs r.customer)

  -- Whether another record is of that customer and lists it.
  abbrev listed_by : Record → Bool
  listed_by q = eqb q.customer r.customer && is_in y q.providers

  -- It is put in front.
  among_first : (rs : List Record) → among (r ∷ rs) ≡ (new || among rs)
  among_first rs = rw (in_united y r.customer r rs, ordered_ℕ.same_self r.customer)

  -- All that it lists is listed.
  pub put_lists : (rs : List Record) → new ≡ true → among (put_record r rs) ≡ true
  unfolding put
  put_lists [] h = rw (among_first [], h)
  put_lists (q ∷ qs) h = go (same_pair (key_of r) (key_of q)) (before_pair (key_of r) (key_of q)) (put_lists qs h)
    where
      either : (s t : Bool) → t ≡ true → (s || t) ≡ true
      either true t e = refl
      either false t e = e

      go : (s b : Bool) → among (put_record r qs) ≡ true → among (cond s (r ∷ qs) (cond b (r ∷ (q ∷ qs)) (q ∷ put_record r qs))) ≡ true
      go true b ih = rw (among_first qs, h)
      go false true ih = rw (among_first (q ∷ qs), h)
      go false false ih = in_united y r.customer q (put_record r qs) ∙ either (listed_by q) (among (put_record r qs)) ih

  -- What was listed still is, unless it was in the source's own list.
  pub put_loses : (rs : List Record) → among rs ≡ true → (is_in y (list_of rs r.source r.customer) || among (put_record r rs)) ≡ true
  unfolding put list_of united is_in
  put_loses [] h = absurd (true≢false (sym h))
  put_loses (q ∷ qs) h =
      rw (same_flip same_pair before_pair ordered_pairs (key_of r) (key_of q))
      (go (same_pair (key_of q) (key_of r)) (before_pair (key_of r) (key_of q)) (put_loses qs))
    where
      own : Bool
      own = is_in y (list_of qs r.source r.customer)

      was : (listed_by q || among qs) ≡ true
      was = sym (in_united y r.customer q qs) ∙ h

      replaced : (c q n u : Bool) → ((c && q) || u) ≡ true → (q || (n || u)) ≡ true
      replaced c true n u e = refl
      replaced c false true u e = refl
      replaced true false false u e = e
      replaced false false false u e = e

      before : (w n : Bool) → (w || (n || true)) ≡ true
      before true n = refl
      before false true = refl
      before false false = refl

      behind : (w p u u' : Bool) → (p || u) ≡ true → (u ≡ true → (w || u') ≡ true) → (w || (p || u')) ≡ true
      behind true p u u' e ih = refl
      behind false true u u' e ih = refl
      behind false false u u' e ih = ih e

      go : (s b : Bool) → (among qs ≡ true → (own || among (put_record r qs)) ≡ true)
          → (is_in y (cond s q.providers (list_of qs r.source r.customer)) || among (cond s (r ∷ qs) (cond b (r ∷ (q ∷ qs)) (q ∷ put_record r qs)))) ≡ true
      go true b ih = rw (among_first qs) (replaced (eqb q.customer r.customer) (is_in y q.providers) new (among qs) was)
      go false true ih = rw (among_first (q ∷ qs), h) (before own new)
      go false false ih = rw (in_united y r.customer q (put_record r qs)) (behind own (listed_by q) (among qs) (among (put_record r qs)) was ih)

  -- What is listed then was before, unless the record lists it.
  pub put_gains : (rs : List Record) → among (put_record r rs) ≡ true → (new || among rs) ≡ true
  unfolding put
  put_gains [] h = sym (among_first []) ∙ h
  put_gains (q ∷ qs) h = rw (in_united y r.customer q qs) (go (same_pair (key_of r) (key_of q)) (before_pair (key_of r) (key_of q)) h (put_gains qs))
    where
      more : (n p u u' : Bool) → (p || u') ≡ true → (u' ≡ true → (n || u) ≡ true) → (n || (p || u)) ≡ true
      more true p u u' e ih = refl
      more false true u u' e ih = refl
      more false false u u' e ih = ih e

      replaced : (n p u : Bool) → (n || u) ≡ true → (n || (p || u)) ≡ true
      replaced true p u e = refl
      replaced false true u e = refl
      replaced false false u e = e

      go : (s b : Bool) → among (cond s (r ∷ qs) (cond b (r ∷ (q ∷ qs)) (q ∷ put_record r qs))) ≡ true
          → (among (put_record r qs) ≡ true → (new || among qs) ≡ true) → (new || (listed_by q || among qs)) ≡ true
      go true b h ih = replaced new (listed_by q) (among qs) (sym (among_first qs) ∙ h)
      go false true h ih = sym (ap (λ u. new || u) (in_united y r.customer q qs)) ∙ sym (among_first (q ∷ qs)) ∙ h
      go false false h ih = more new (listed_by q) (among qs) (among (put_record r qs)) (sym (in_united y r.customer q (put_record r qs)) ∙ h) ih
