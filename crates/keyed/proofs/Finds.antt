-- What is found under a key, after `put` and `without`; it decides the list. Tests of all entries, and counts. Assumes nothing.
use mathlib.Core.Path.{◌≡◌, refl, sym, ◌∙◌}
use mathlib.Core.Bool.{Bool, true, false, cond, ◌||◌}
use mathlib.Core.List.{List, [], ◌∷◌}
use Prim.Native.Nat.{ℕ, zero, suc, ◌+◌, ◌<◌}
use native.Mathlib.Omega.{arith}
use lib.ListN.{length, get_or}
use Rattle.keyed.specs.Keyed.{Ordered, ascends_from, ascends, find, holds, rank, put, without, every, count_of}
use Rattle.keyed.proofs.Orders.{both_intro, both_left, both_right, same_not_before, same_flip}
use Rattle.keyed.proofs.Ranks.{from_ascends, from_holds}
use Rattle.keyed.proofs.Puts.{from_not_held}
use Rattle.std.specs.Prelude.{None, Option, Some}

-- What all entries pass, the one at an index passes.
pub every_at : {E : Type 0} (p : E → Bool) (es : List E) (d : E) → every p es ≡ true → (i : ℕ) → i < length es → p (get_or es i d) ≡ true
unfolding every
every_at p [] d a i h = absurd (omega arith)
every_at p (e ∷ es) d a zero h = both_left (p e) (every p es) a
every_at p (e ∷ es) d a (suc i) h = every_at p es d (both_right (p e) (every p es) a) i (omega arith)

-- Something is found.
abbrev pub is_some : {E : Type 0} → Option E → Bool
is_some None = false
is_some (Some e) = true

module _ {E K : Type 0} (key : E → K) (same before : K → K → Bool) where
  -- A key is held if and only if an entry is found under it.
  pub find_holds : (k : K) (es : List E) → holds key same before k es ≡ is_some (find key same before k es)
  unfolding holds find
  find_holds k [] = refl
  find_holds k (e ∷ es) = go (same k (key e)) (find_holds k es)
    where
      go : (b : Bool) → holds key same before k es ≡ is_some (find key same before k es)
          → (b || holds key same before k es) ≡ is_some (cond b (Some e) (find key same before k es))
      go true ih = refl
      go false ih = ih

  -- Under a key that is not held nothing is found.
  pub find_none : (k : K) (es : List E) → holds key same before k es ≡ false → find key same before k es ≡ None
  find_none k es h = go (find key same before k es) (sym (find_holds k es) ∙ h)
    where
      go : (f : Option E) → is_some f ≡ false → f ≡ None
      go None p = refl
      go (Some e) p = cc

  -- An entry that is put in passes the test that all passed, if it does.
  pub every_put : (p : E → Bool) (e : E) (es : List E) → p e ≡ true → every p es ≡ true → every p (put key same before e es) ≡ true
  unfolding every put
  every_put p e [] q h = rw q
  every_put p e (f ∷ fs) q h = go (same (key e) (key f)) (before (key e) (key f)) (every_put p e fs q tail)
    where
      tail : every p fs ≡ true
      tail = both_right (p f) (every p fs) h

      go : (b c : Bool) → every p (put key same before e fs) ≡ true
          → every p (cond b (e ∷ fs) (cond c (e ∷ (f ∷ fs)) (f ∷ put key same before e fs))) ≡ true
      go true c ih = rw q tail
      go false true ih = rw q h
      go false false ih = rw (both_left (p f) (every p fs) h) ih

  -- What all entries pass, those that are left pass.
  pub every_without : (p : E → Bool) (test : K → Bool) (es : List E) → every p es ≡ true → every p (without key same before test es) ≡ true
  unfolding every without
  every_without p test [] h = refl
  every_without p test (e ∷ es) h = go (test (key e)) (every_without p test es (both_right (p e) (every p es) h))
    where
      go : (b : Bool) → every p (without key same before test es) ≡ true
          → every p (cond b (without key same before test es) (e ∷ without key same before test es)) ≡ true
      go true ih = ih
      go false ih = rw (both_left (p e) (every p es) h) ih

  -- What all entries pass, the one found under a key passes.
  pub every_found : (p : E → Bool) (k : K) (es : List E) (e : E) → every p es ≡ true → find key same before k es ≡ Some e → p e ≡ true
  unfolding every find
  every_found p k [] e a f = absurd (let z : ◌≡◌ {A = ℕ} 0 1 = cc in omega arith)
  every_found p k (x ∷ es) e a f = go (same k (key x)) f (every_found p k es e (both_right (p x) _ a))
    where
      go : (b : Bool) → cond b (Some x) (find key same before k es) ≡ Some e → (find key same before k es ≡ Some e → p e ≡ true) → p e ≡ true
      go true f ih = let z : x ≡ e = cc in rw (← z) (both_left (p x) (every p es) a)
      go false f ih = ih f

  -- The entries that are left and those that are counted are all.
  pub count_without : (test : K → Bool) (es : List E) → length (without key same before test es) + count_of key same before test es ≡ length es
  unfolding without count_of
  count_without test [] = omega arith
  count_without test (e ∷ es) = go (test (key e)) (count_without test es)
    where
      go : (b : Bool) → length (without key same before test es) + count_of key same before test es ≡ length es
          → length (cond b (without key same before test es) (e ∷ without key same before test es))
          + cond b (suc (count_of key same before test es)) (count_of key same before test es) ≡ suc (length es)
      go true ih = omega arith
      go false ih = omega arith

module _ {E K : Type 0} (key : E → K) (same before : K → K → Bool) (o : Ordered same before) where
  -- The entry found under a key has it.
  pub find_key : (k : K) (es : List E) (e : E) → find key same before k es ≡ Some e → key e ≡ k
  unfolding find
  find_key k [] e h = absurd (let z : ◌≡◌ {A = ℕ} 0 1 = cc in omega arith)
  find_key k (f ∷ fs) e h = go (same k (key f)) refl h (find_key k fs e)
    where
      go : (b : Bool) → same k (key f) ≡ b → cond b (Some f) (find key same before k fs) ≡ Some e
          → (find key same before k fs ≡ Some e → key e ≡ k) → key e ≡ k
      go true p g ih = let q : f ≡ e = cc in cc (o.same_is k (key f) p)
      go false p g ih = ih g

  -- Under a key that is held the entry at its rank is found.
  pub find_at : (k : K) (es : List E) (d : E) → ascends key same before es ≡ true → holds key same before k es ≡ true
      → find key same before k es ≡ Some (get_or es (rank key same before k es) d)
  unfolding ascends holds find rank
  find_at k [] d a h = absurd (let z : ◌≡◌ {A = ℕ} 0 1 = cc in omega arith)
  find_at k (e ∷ es) d a h = go (same k (key e)) refl h (find_at k es d (from_ascends key same before o (key e) es a))
    where
      go : (b : Bool) → same k (key e) ≡ b → (b || holds key same before k es) ≡ true
          → (holds key same before k es ≡ true → find key same before k es ≡ Some (get_or es (rank key same before k es) d))
          → cond b (Some e) (find key same before k es) ≡ Some (get_or (e ∷ es) (rank key same before k (e ∷ es)) d)
      go true p g ih = rw (same_not_before same before o (key e) k (same_flip same before o (key e) k ∙ p))
      go false p g ih = rw (from_holds key same before o (key e) k es a g) (ih g)

  -- What is found after `put`.
  pub find_put : (k : K) (e : E) (es : List E)
      → find key same before k (put key same before e es) ≡ cond (same k (key e)) (Some e) (find key same before k es)
  unfolding find put
  find_put k e [] = refl
  find_put k e (f ∷ fs) = go (same (key e) (key f)) refl (before (key e) (key f)) (find_put k e fs)
    where
      swap : same (key e) (key f) ≡ false → (b c : Bool) → same k (key e) ≡ b → same k (key f) ≡ c
          → cond c (Some f) (cond b (Some e) (find key same before k fs)) ≡ cond b (Some e) (cond c (Some f) (find key same before k fs))
      swap n true true p q = let x : k ≡ key e = o.same_is k (key e) p in let y : k ≡ key f = o.same_is k (key f) q in cc
      swap n true false p q = refl
      swap n false true p q = refl
      swap n false false p q = refl

      drop_other : (b : Bool) → cond b (Some e) (find key same before k fs) ≡ cond b (Some e) (cond b (Some f) (find key same before k fs))
      drop_other true = refl
      drop_other false = refl

      go : (b : Bool) → same (key e) (key f) ≡ b → (c : Bool)
          → find key same before k (put key same before e fs) ≡ cond (same k (key e)) (Some e) (find key same before k fs)
          → find key same before k (cond b (e ∷ fs) (cond c (e ∷ (f ∷ fs)) (f ∷ put key same before e fs)))
          ≡ cond (same k (key e)) (Some e) (cond (same k (key f)) (Some f) (find key same before k fs))
      go true p c ih = rw (← o.same_is (key e) (key f) p) (drop_other (same k (key e)))
      go false p true ih = refl
      go false p false ih = rw ih (swap p (same k (key e)) (same k (key f)) refl refl)

  -- What is found after `without`.
  pub find_without : (k : K) (test : K → Bool) (es : List E)
      → find key same before k (without key same before test es) ≡ cond (test k) None (find key same before k es)
  unfolding find without
  find_without k test [] = go (test k)
    where
      go : (b : Bool) → ◌≡◌ {A = Option E} None (cond b None None)
      go true = refl
      go false = refl
  find_without k test (e ∷ es) = go (test (key e)) refl (same k (key e)) refl (find_without k test es)
    where
      go : (b : Bool) → test (key e) ≡ b → (c : Bool) → same k (key e) ≡ c
          → find key same before k (without key same before test es) ≡ cond (test k) None (find key same before k es)
          → find key same before k (cond b (without key same before test es) (e ∷ without key same before test es))
          ≡ cond (test k) None (cond c (Some e) (find key same before k es))
      go true p true q ih = ih ∙ rw (o.same_is k (key e) q, p)
      go true p false q ih = ih
      go false p true q ih = rw (o.same_is k (key e) q, o.same_self (key e), p)
      go false p false q ih = rw q ih

  -- Under the key of the first entry it is found.
  pub found_first : (e : E) (es : List E) → find key same before (key e) (e ∷ es) ≡ Some e
  unfolding find
  found_first e es = rw (o.same_self (key e))

  -- Under a key from which a list ascends nothing is found.
  pub none_from : (k : K) (es : List E) → ascends_from key same before k es ≡ true → find key same before k es ≡ None
  none_from k es a = find_none key same before k es (from_not_held key same before o k es a)

  -- Two lists that ascend, in which the same is found under every key, are equal.
  pub same_finds : (es fs : List E) → ascends key same before es ≡ true → ascends key same before fs ≡ true
      → ((k : K) → find key same before k es ≡ find key same before k fs) → es ≡ fs
  unfolding ascends ascends_from find
  same_finds [] [] a b h = refl
  same_finds [] (f ∷ fs) a b h = cc (h (key f), found_first f fs)
  same_finds (e ∷ es) [] a b h = cc (h (key e), found_first e es)
  same_finds (e ∷ es) (f ∷ fs) a b h = go (same (key e) (key f)) refl (before (key e) (key f)) refl
      (same_finds es fs (from_ascends key same before o (key e) es a) (from_ascends key same before o (key f) fs b))
    where
      tail : (k : K) → e ≡ f → (c : Bool) → same k (key e) ≡ c → find key same before k es ≡ find key same before k fs
      tail k q true c = let z : k ≡ key e = o.same_is k (key e) c in
          cc (none_from (key e) es a, none_from (key f) fs b)
      tail k q false c = rw (← q, c) at (h k)

      go : (s : Bool) → same (key e) (key f) ≡ s → (t : Bool) → before (key e) (key f) ≡ t
          → (((k : K) → find key same before k es ≡ find key same before k fs) → es ≡ fs) → e ∷ es ≡ f ∷ fs
      go true p t q ih =
          let x : key e ≡ key f = o.same_is (key e) (key f) p in
          let v : e ≡ f = cc (h (key e), found_first e es, found_first f fs) in
          let tails : es ≡ fs = ih (λ k. tail k v (same k (key e)) refl) in
          λ i. v i ∷ tails i
      go false p true q ih = cc (h (key e), found_first e es, none_from (key e) (f ∷ fs) (both_intro _ _ q b))
      go false p false q ih = let x : before (key f) (key e) ≡ true = o.either (key e) (key f) p q in
          cc (h (key f), found_first f fs, none_from (key f) (e ∷ es) (both_intro _ _ x a))
