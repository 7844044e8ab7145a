-- A number sought in a customer's united lists, from an index of the records on and record by record. Assumes nothing.
use Prim.Native.Nat.{ℕ, zero, suc, ◌+◌, ◌≤◌, ◌<◌}
use mathlib.Core.Path.{◌≡◌, refl, sym, ◌∙◌}
use mathlib.Core.Bool.{Bool, true, false, cond, ◌||◌}
use mathlib.Core.List.{List, [], ◌∷◌, ◌++◌}
use native.Mathlib.Numerals.{add-one}
use native.Mathlib.Omega.{arith}
use borrow.Author.Tests.{eqb-true, eq-eqb, ne_eqb}
use lib.Dec.{eqb}
use lib.ListN.{length, drop, drop_of_length-le}
use lib.Seq.{drop-cons, drop-nil}
use Rattle.types.specs.declared.Origin.{Origin}
use Rattle.types.specs.declared.Hop.TheVariants.{NoAttestation, ProviderPlus, NotProviderPlus}
use Rattle.rules.specs.Records.{Record, is_in, attested, united, lowest_source, hop_of}
use Rattle.providers.proofs.Seeking.{in_append}
use Rattle.register.specs.Register.{record_at}
use Rattle.register.specs.Laws.{Lists}

-- ---- records

-- What records tell of a customer: whether it is attested, and its lists, united.
abbrev pub told : ℕ → List Record → Bool × List ℕ
told x rs = (attested rs x, united rs x)

module _ (x : ℕ) where
  -- Another's record tells nothing.
  other : (r : Record) (rs : List Record) → (r.customer ≡ x → ⊥) → told x (r ∷ rs) ≡ told x rs
  unfolding attested united
  other r rs n = rw (ne_eqb r.customer x n)

  -- Nor do records from i to k of which none is x's.
  pub skips : (rs : List Record) (i k : ℕ) → i ≤ k → k ≤ length rs → ((j : ℕ) → i ≤ j → j < k → (record_at rs j).customer ≡ x → ⊥)
      → told x (drop i rs) ≡ told x (drop k rs)
  skips [] i k l m n = rw (drop-nil i, drop-nil k)
  skips (r ∷ rs) zero zero l m n = refl
  skips (r ∷ rs) zero (suc k) l m n =
      other r rs (n 0 (omega arith) (omega arith)) ∙ skips rs 0 k (omega arith) (omega arith) (λ j s t. n (suc j) (omega arith) (omega arith))
  skips (r ∷ rs) (suc i) zero l m n = absurd (omega arith)
  skips (r ∷ rs) (suc i) (suc k) l m n = skips rs i k (omega arith) (omega arith) (λ j s t. n (suc j) (omega arith) (omega arith))

  -- Past the last record x is not attested.
  pub past_all : (rs : List Record) (i : ℕ) → length rs ≤ i → attested (drop i rs) x ≡ false
  unfolding attested
  past_all rs i h = rw (drop_of_length-le rs h)

  module _ (rs : List Record) (i : ℕ) (h : i < length rs) (e : (record_at rs i).customer ≡ x) where
    -- Record i is x's, so x is attested.
    pub attests : attested (drop i rs) x ≡ true
    unfolding attested
    attests = rw (drop-cons rs i (record_at [] 0) h, eq-eqb (record_at rs i).customer x e)

    -- Its list is united with those behind it.
    pub unites : (y : ℕ) → is_in y (united (drop i rs) x) ≡ (is_in y (record_at rs i).providers || is_in y (united (drop (i + 1) rs) x))
    unfolding united
    unites y =
        rw (add-one, drop-cons rs i (record_at [] 0) h, eq-eqb (record_at rs i).customer x e)
        (in_append y (record_at rs i).providers (united (drop (suc i) rs) x))

  -- Where x is not attested, its union is empty.
  pub none_united : (rs : List Record) → attested rs x ≡ false → united rs x ≡ []
  unfolding attested united
  none_united [] e = refl
  none_united (r ∷ rs) e = go (eqb r.customer x) e (none_united rs)
    where
      go : (b : Bool) → (b || attested rs x) ≡ false → (attested rs x ≡ false → united rs x ≡ [])
          → cond b (r.providers ++ united rs x) (united rs x) ≡ []
      go true e ih = absurd (let z : ◌≡◌ {A = ℕ} 0 1 = cc in omega arith)
      go false e ih = ih e

  -- The hop asks first whether the union holds y.
  pub hop_is : (o : Origin) (rs : List Record) (y : ℕ)
      → cond (is_in y (united rs x)) (ProviderPlus o (lowest_source rs x y)) (cond (attested rs x) (NotProviderPlus o) NoAttestation) ≡ hop_of o rs x y
  unfolding hop_of is_in
  hop_is o rs y = go (attested rs x) refl
    where
      go : (b : Bool) → attested rs x ≡ b
          → cond (is_in y (united rs x)) (ProviderPlus o (lowest_source rs x y)) (cond b (NotProviderPlus o) NoAttestation)
          ≡ cond b (cond (is_in y (united rs x)) (ProviderPlus o (lowest_source rs x y)) (NotProviderPlus o)) NoAttestation
      go true p = refl
      go false p = rw (none_united rs p)

-- ---- the union, record by record

-- Of two tests the second holds, so one of them does.
either_right : (a b : Bool) → b ≡ true → (a || b) ≡ true
either_right true b h = refl
either_right false b h = h

-- A number in the list of one of a customer's records is in the customer's united lists.
pub listed_united : (rs : List Record) (x y i : ℕ) → i < length rs → (record_at rs i).customer ≡ x → is_in y (record_at rs i).providers ≡ true
    → is_in y (united rs x) ≡ true
unfolding united
listed_united [] x y i h e t = absurd (omega arith)
listed_united (r ∷ rs) x y zero h e t = rw (eq-eqb r.customer x e, in_append y r.providers (united rs x), t)
listed_united (r ∷ rs) x y (suc i) h e t = go (eqb r.customer x) (listed_united rs x y i (omega arith) e t)
  where
    go : (b : Bool) → is_in y (united rs x) ≡ true → is_in y (cond b (r.providers ++ united rs x) (united rs x)) ≡ true
    go true ih = in_append y r.providers (united rs x) ∙ either_right (is_in y r.providers) (is_in y (united rs x)) ih
    go false ih = ih

-- One record further on.
further : (r : Record) (rs : List Record) (x y : ℕ) → Lists rs x y → Lists (r ∷ rs) x y
further r rs x y l = record { at = suc l.at; within = omega arith; owner = l.owner; inside = l.inside }

-- A number in a customer's united lists is in the list of one of its records.
pub united_listed : (rs : List Record) (x y : ℕ) → is_in y (united rs x) ≡ true → Lists rs x y
unfolding united is_in
united_listed [] x y h = absurd (let z : ◌≡◌ {A = ℕ} 0 1 = cc in omega arith)
united_listed (r ∷ rs) x y h = go (eqb r.customer x) refl h (united_listed rs x y)
  where
    here : eqb r.customer x ≡ true → (b : Bool) → is_in y r.providers ≡ b → (b || is_in y (united rs x)) ≡ true
        → (is_in y (united rs x) ≡ true → Lists rs x y) → Lists (r ∷ rs) x y
    here p true q g ih = record { at = 0; within = omega arith; owner = eqb-true r.customer x p; inside = q }
    here p false q g ih = further r rs x y (ih g)

    go : (b : Bool) → eqb r.customer x ≡ b → is_in y (cond b (r.providers ++ united rs x) (united rs x)) ≡ true
        → (is_in y (united rs x) ≡ true → Lists rs x y) → Lists (r ∷ rs) x y
    go true p g ih = here p (is_in y r.providers) refl (sym (in_append y r.providers (united rs x)) ∙ g) ih
    go false p g ih = further r rs x y (ih g)
