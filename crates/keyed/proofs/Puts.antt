-- `put` and `without` by position: at the rank of the key. Both keep the order. Assumes nothing.
use mathlib.Core.Path.{◌≡◌, refl, ap, ◌∙◌}
use mathlib.Core.Bool.{Bool, true, false, cond, ◌||◌}
use mathlib.Core.List.{List, [], ◌∷◌, ◌++◌}
use Prim.Native.Nat.{ℕ, suc}
use native.Mathlib.Omega.{arith}
use lib.ListN.{length, take, drop}
use Rattle.keyed.specs.Keyed.{Ordered, ascends_from, ascends, holds, rank, put, without}
use Rattle.keyed.proofs.Orders.{both_left, both_right, before_not_back, same_not_before, same_flip}
use Rattle.keyed.proofs.Ranks.{from_chain, from_ascends, from_holds}

-- The first of two tests of which neither holds.
pub neither_left : (a b : Bool) → (a || b) ≡ false → a ≡ false
neither_left true b h = h
neither_left false b h = refl

-- The second of two tests of which neither holds.
pub neither_right : (a b : Bool) → (a || b) ≡ false → b ≡ false
neither_right true b h = cc
neither_right false b h = h

module _ {E K : Type 0} (key : E → K) (same before : K → K → Bool) where
  -- To leave out a key that is not held leaves the list as it is.
  pub erase_none : (k : K) (es : List E) → holds key same before k es ≡ false → without key same before (same k) es ≡ es
  unfolding holds without
  erase_none k [] h = refl
  erase_none k (e ∷ es) h = rw (neither_left (same k (key e)) (holds key same before k es) h)
      (ap (λ fs. e ∷ fs) (erase_none k es (neither_right (same k (key e)) (holds key same before k es) h)))

  -- An entry under a new key makes the list longer by one.
  pub length_put_new : (e : E) (es : List E) → holds key same before (key e) es ≡ false → length (put key same before e es) ≡ suc (length es)
  unfolding holds put
  length_put_new e [] h = refl
  length_put_new e (f ∷ fs) h = rw (neither_left (same (key e) (key f)) (holds key same before (key e) fs) h)
      (go (before (key e) (key f)) (length_put_new e fs (neither_right (same (key e) (key f)) (holds key same before (key e) fs) h)))
    where
      go : (b : Bool) → length (put key same before e fs) ≡ suc (length fs)
          → length (cond b (e ∷ (f ∷ fs)) (f ∷ put key same before e fs)) ≡ suc (suc (length fs))
      go true ih = refl
      go false ih = ap suc ih

module _ {E K : Type 0} (key : E → K) (same before : K → K → Bool) (o : Ordered same before) where
  -- A key from which a list ascends is not held.
  pub from_not_held : (k : K) (es : List E) → ascends_from key same before k es ≡ true → holds key same before k es ≡ false
  from_not_held k es a = go (holds key same before k es) refl
    where
      go : (b : Bool) → holds key same before k es ≡ b → b ≡ false
      go false p = refl
      go true p = cc (from_holds key same before o k k es a p, o.not_self k)

  -- An entry under a new key goes in at its rank.
  pub put_new : (e : E) (es : List E) → holds key same before (key e) es ≡ false
      → put key same before e es ≡ take (rank key same before (key e) es) es ++ (e ∷ drop (rank key same before (key e) es) es)
  unfolding holds put rank
  put_new e [] h = refl
  put_new e (f ∷ fs) h = rw n (go (before (key f) (key e)) refl (put_new e fs (neither_right (same (key e) (key f)) (holds key same before (key e) fs) h)))
    where
      n : same (key e) (key f) ≡ false
      n = neither_left (same (key e) (key f)) (holds key same before (key e) fs) h

      go : (b : Bool) → before (key f) (key e) ≡ b
          → put key same before e fs ≡ take (rank key same before (key e) fs) fs ++ (e ∷ drop (rank key same before (key e) fs) fs)
          → cond (before (key e) (key f)) (e ∷ (f ∷ fs)) (f ∷ put key same before e fs)
          ≡ take (cond b (suc (rank key same before (key e) fs)) 0) (f ∷ fs) ++ (e ∷ drop (cond b (suc (rank key same before (key e) fs)) 0) (f ∷ fs))
      go true p ih = rw (before_not_back same before o (key f) (key e) p) (ap (λ l. f ∷ l) ih)
      go false p ih = rw (o.either (key f) (key e) (same_flip same before o (key f) (key e) ∙ n) p)

  -- An entry under a key that is held goes in the position of the one at its rank.
  pub put_over : (e : E) (es : List E) → ascends key same before es ≡ true → holds key same before (key e) es ≡ true
      → put key same before e es ≡ take (rank key same before (key e) es) es ++ (e ∷ drop (suc (rank key same before (key e) es)) es)
  unfolding ascends holds put rank
  put_over e [] a h = absurd (let z : ◌≡◌ {A = ℕ} 0 1 = cc in omega arith)
  put_over e (f ∷ fs) a h = go (same (key e) (key f)) refl h (put_over e fs (from_ascends key same before o (key f) fs a))
    where
      go : (b : Bool) → same (key e) (key f) ≡ b → (b || holds key same before (key e) fs) ≡ true
          → (holds key same before (key e) fs ≡ true
          → put key same before e fs ≡ take (rank key same before (key e) fs) fs ++ (e ∷ drop (suc (rank key same before (key e) fs)) fs))
          → cond b (e ∷ fs) (cond (before (key e) (key f)) (e ∷ (f ∷ fs)) (f ∷ put key same before e fs))
          ≡ take (rank key same before (key e) (f ∷ fs)) (f ∷ fs) ++ (e ∷ drop (suc (rank key same before (key e) (f ∷ fs))) (f ∷ fs))
      go true p g ih = rw (same_not_before same before o (key f) (key e) (same_flip same before o (key f) (key e) ∙ p))
      go false p g ih = let x : before (key f) (key e) ≡ true = from_holds key same before o (key f) (key e) fs a g in
          rw (x, before_not_back same before o (key f) (key e) x) (ap (λ l. f ∷ l) (ih g))

  -- To leave out a key that is held takes out the entry at its rank.
  pub erase_at : (k : K) (es : List E) → ascends key same before es ≡ true → holds key same before k es ≡ true
      → without key same before (same k) es ≡ take (rank key same before k es) es ++ drop (suc (rank key same before k es)) es
  unfolding ascends holds without rank
  erase_at k [] a h = refl
  erase_at k (e ∷ es) a h = go (same k (key e)) refl h (erase_at k es (from_ascends key same before o (key e) es a))
    where
      go : (b : Bool) → same k (key e) ≡ b → (b || holds key same before k es) ≡ true
          → (holds key same before k es ≡ true
          → without key same before (same k) es ≡ take (rank key same before k es) es ++ drop (suc (rank key same before k es)) es)
          → cond b (without key same before (same k) es) (e ∷ without key same before (same k) es)
          ≡ take (rank key same before k (e ∷ es)) (e ∷ es) ++ drop (suc (rank key same before k (e ∷ es))) (e ∷ es)
      go true p g ih = let q : k ≡ key e = o.same_is k (key e) p in
          rw (same_not_before same before o (key e) k (same_flip same before o (key e) k ∙ p))
          (erase_none key same before k es (from_not_held k es (rw q a)))
      go false p g ih = rw (from_holds key same before o (key e) k es a g) (ap (λ l. e ∷ l) (ih g))

  -- An entry under a key that is held leaves the length as it is.
  pub length_put_over : (e : E) (es : List E) → ascends key same before es ≡ true → holds key same before (key e) es ≡ true
      → length (put key same before e es) ≡ length es
  unfolding ascends holds put
  length_put_over e [] a h = absurd (let z : ◌≡◌ {A = ℕ} 0 1 = cc in omega arith)
  length_put_over e (f ∷ fs) a h = go (same (key e) (key f)) h (length_put_over e fs (from_ascends key same before o (key f) fs a))
    where
      go : (b : Bool) → (b || holds key same before (key e) fs) ≡ true
          → (holds key same before (key e) fs ≡ true → length (put key same before e fs) ≡ length fs)
          → length (cond b (e ∷ fs) (cond (before (key e) (key f)) (e ∷ (f ∷ fs)) (f ∷ put key same before e fs))) ≡ suc (length fs)
      go true g ih = refl
      go false g ih = let x : before (key f) (key e) ≡ true = from_holds key same before o (key f) (key e) fs a g in
          rw (before_not_back same before o (key f) (key e) x) (ap suc (ih g))

  -- To leave out a key that is held makes the list shorter by one.
  pub length_erase_at : (k : K) (es : List E) → ascends key same before es ≡ true → holds key same before k es ≡ true
      → suc (length (without key same before (same k) es)) ≡ length es
  unfolding ascends holds without
  length_erase_at k [] a h = absurd (let z : ◌≡◌ {A = ℕ} 0 1 = cc in omega arith)
  length_erase_at k (e ∷ es) a h = go (same k (key e)) refl h (length_erase_at k es (from_ascends key same before o (key e) es a))
    where
      go : (b : Bool) → same k (key e) ≡ b → (b || holds key same before k es) ≡ true
          → (holds key same before k es ≡ true → suc (length (without key same before (same k) es)) ≡ length es)
          → suc (length (cond b (without key same before (same k) es) (e ∷ without key same before (same k) es))) ≡ suc (length es)
      go true p g ih = let q : k ≡ key e = o.same_is k (key e) p in
          ap (λ l. suc (length l)) (erase_none key same before k es (from_not_held k es (rw q a)))
      go false p g ih = ap suc (ih g)

  -- An entry behind the key that a list ascends from goes in behind it.
  pub from_put : (j : K) (e : E) (es : List E) → before j (key e) ≡ true → ascends_from key same before j es ≡ true
      → ascends_from key same before j (put key same before e es) ≡ true
  unfolding ascends_from put
  from_put j e [] h a = rw h
  from_put j e (f ∷ fs) h a = go (same (key e) (key f)) refl (before (key e) (key f)) refl (from_put (key f) e fs)
    where
      tail : ascends_from key same before (key f) fs ≡ true
      tail = both_right (before j (key f)) (ascends_from key same before (key f) fs) a

      go : (b : Bool) → same (key e) (key f) ≡ b → (c : Bool) → before (key e) (key f) ≡ c
          → (before (key f) (key e) ≡ true → ascends_from key same before (key f) fs ≡ true
          → ascends_from key same before (key f) (put key same before e fs) ≡ true)
          → ascends_from key same before j (cond b (e ∷ fs) (cond c (e ∷ (f ∷ fs)) (f ∷ put key same before e fs))) ≡ true
      go true p c q ih = rw (o.same_is (key e) (key f) p) a
      go false p true q ih = rw (h, q) tail
      go false p false q ih = rw (both_left (before j (key f)) (ascends_from key same before (key f) fs) a) (ih (o.either (key e) (key f) p q) tail)

  -- `put` keeps the order.
  pub ascends_put : (e : E) (es : List E) → ascends key same before es ≡ true → ascends key same before (put key same before e es) ≡ true
  unfolding ascends ascends_from put
  ascends_put e [] a = refl
  ascends_put e (f ∷ fs) a = go (same (key e) (key f)) refl (before (key e) (key f)) refl
    where
      go : (b : Bool) → same (key e) (key f) ≡ b → (c : Bool) → before (key e) (key f) ≡ c
          → ascends key same before (cond b (e ∷ fs) (cond c (e ∷ (f ∷ fs)) (f ∷ put key same before e fs))) ≡ true
      go true p c q = rw (o.same_is (key e) (key f) p) a
      go false p true q = rw q a
      go false p false q = from_put (key f) e fs (o.either (key e) (key f) p q) a

  -- `without` keeps what ascends from a key.
  pub from_without : (j : K) (test : K → Bool) (es : List E) → ascends_from key same before j es ≡ true
      → ascends_from key same before j (without key same before test es) ≡ true
  unfolding ascends_from without
  from_without j test [] a = refl
  from_without j test (e ∷ es) a = go (test (key e)) (λ i. from_without i test es)
    where
      x : before j (key e) ≡ true
      x = both_left (before j (key e)) (ascends_from key same before (key e) es) a

      tail : ascends_from key same before (key e) es ≡ true
      tail = both_right (before j (key e)) (ascends_from key same before (key e) es) a

      go : (b : Bool) → ((i : K) → ascends_from key same before i es ≡ true → ascends_from key same before i (without key same before test es) ≡ true)
          → ascends_from key same before j (cond b (without key same before test es) (e ∷ without key same before test es)) ≡ true
      go true ih = ih j (from_chain key same before o j (key e) es x tail)
      go false ih = rw x (ih (key e) tail)

  -- `without` keeps the order.
  pub ascends_without : (test : K → Bool) (es : List E) → ascends key same before es ≡ true
      → ascends key same before (without key same before test es) ≡ true
  unfolding ascends without
  ascends_without test [] a = refl
  ascends_without test (e ∷ es) a = go (test (key e)) (ascends_without test es (from_ascends key same before o (key e) es a))
    where
      go : (b : Bool) → ascends key same before (without key same before test es) ≡ true
          → ascends key same before (cond b (without key same before test es) (e ∷ without key same before test es)) ≡ true
      go true ih = ih
      go false ih = from_without (key e) test es a
