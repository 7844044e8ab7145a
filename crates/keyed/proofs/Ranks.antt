-- The rank of a key: the entries below it stand before the key, the others do not. Assumes nothing.
use mathlib.Core.Path.{◌≡◌, refl, ap}
use mathlib.Core.Bool.{Bool, true, false, cond, ◌||◌}
use mathlib.Core.List.{List, [], ◌∷◌}
use Prim.Native.Nat.{ℕ, zero, suc, ◌≤◌, ◌<◌}
use native.Mathlib.Omega.{arith}
use lib.ListN.{length, get_or}
use Rattle.keyed.specs.Keyed.{Ordered, ascends_from, ascends, holds, rank}
use Rattle.keyed.proofs.Orders.{both_left, both_right}

module _ {E K : Type 0} (key : E → K) (same before : K → K → Bool) where
  -- A rank is at most the length.
  pub rank_within : (k : K) (es : List E) → rank key same before k es ≤ length es
  unfolding rank
  rank_within k [] = omega arith
  rank_within k (e ∷ es) = go (before (key e) k) (rank_within k es)
    where
      go : (b : Bool) → rank key same before k es ≤ length es → cond b (suc (rank key same before k es)) 0 ≤ suc (length es)
      go true ih = omega arith
      go false ih = omega arith

  -- The entries below the rank stand before the key.
  pub rank_below : (k : K) (es : List E) (d : E) (i : ℕ) → i < rank key same before k es → before (key (get_or es i d)) k ≡ true
  unfolding rank
  rank_below k [] d i h = absurd (omega arith)
  rank_below k (e ∷ es) d zero h = go (before (key e) k) refl h
    where
      go : (b : Bool) → before (key e) k ≡ b → 0 < cond b (suc (rank key same before k es)) 0 → before (key e) k ≡ true
      go true p l = p
      go false p l = absurd (omega arith)
  rank_below k (e ∷ es) d (suc i) h = go (before (key e) k) h (rank_below k es d i)
    where
      go : (b : Bool) → suc i < cond b (suc (rank key same before k es)) 0 → (i < rank key same before k es → before (key (get_or es i d)) k ≡ true)
          → before (key (get_or es i d)) k ≡ true
      go true l ih = ih (omega arith)
      go false l ih = absurd (omega arith)

  -- What a search found is the rank: the entries below it stand before the key, those from it on do not.
  pub rank_only : (k : K) (es : List E) (d : E) (r : ℕ) → r ≤ length es → ((i : ℕ) → i < r → before (key (get_or es i d)) k ≡ true)
      → ((i : ℕ) → r ≤ i → i < length es → before (key (get_or es i d)) k ≡ false) → r ≡ rank key same before k es
  unfolding rank
  rank_only k [] d r h low high = omega arith
  rank_only k (e ∷ es) d zero h low high = rw (high 0 (omega arith) (omega arith))
  rank_only k (e ∷ es) d (suc r) h low high = rw (low 0 (omega arith))
      (ap suc (rank_only k es d r (omega arith) (λ i l. low (suc i) (omega arith)) (λ i l m. high (suc i) (omega arith) (omega arith))))

  -- A key that an entry has is held.
  pub holds_entry : (k : K) (es : List E) (d : E) (i : ℕ) → i < length es → same k (key (get_or es i d)) ≡ true → holds key same before k es ≡ true
  unfolding holds
  holds_entry k [] d i l h = absurd (omega arith)
  holds_entry k (e ∷ es) d zero l h = rw h
  holds_entry k (e ∷ es) d (suc i) l h = go (same k (key e)) (holds_entry k es d i (omega arith) h)
    where
      go : (b : Bool) → holds key same before k es ≡ true → (b || holds key same before k es) ≡ true
      go true ih = refl
      go false ih = ih

  -- A key that the entry at its rank has is held.
  pub holds_of : (k : K) (es : List E) (d : E) → rank key same before k es < length es
      → same k (key (get_or es (rank key same before k es) d)) ≡ true → holds key same before k es ≡ true
  holds_of k es d l h = holds_entry k es d (rank key same before k es) l h

module _ {E K : Type 0} (key : E → K) (same before : K → K → Bool) (o : Ordered same before) where
  -- What ascends from a key ascends from one before it.
  pub from_chain : (j k : K) (es : List E) → before j k ≡ true → ascends_from key same before k es ≡ true → ascends_from key same before j es ≡ true
  unfolding ascends_from
  from_chain j k [] h a = refl
  from_chain j k (e ∷ es) h a =
      let x : before k (key e) ≡ true = both_left (before k (key e)) (ascends_from key same before (key e) es) a in
      rw (o.chain j k (key e) h x) (both_right (before k (key e)) (ascends_from key same before (key e) es) a)

  -- What ascends from a key ascends.
  pub from_ascends : (k : K) (es : List E) → ascends_from key same before k es ≡ true → ascends key same before es ≡ true
  unfolding ascends_from ascends
  from_ascends k [] a = refl
  from_ascends k (e ∷ es) a = both_right (before k (key e)) (ascends_from key same before (key e) es) a

  -- Behind the first entry too the list ascends.
  pub ascends_tail : (e : E) (es : List E) → ascends key same before (e ∷ es) ≡ true → ascends key same before es ≡ true
  unfolding ascends
  ascends_tail e es a = from_ascends (key e) es a

  -- A key stands before each entry of what ascends from it.
  pub from_entry : (k : K) (es : List E) (d : E) (i : ℕ) → ascends_from key same before k es ≡ true → i < length es → before k (key (get_or es i d)) ≡ true
  unfolding ascends_from
  from_entry k [] d i a l = absurd (omega arith)
  from_entry k (e ∷ es) d zero a l = both_left (before k (key e)) (ascends_from key same before (key e) es) a
  from_entry k (e ∷ es) d (suc i) a l =
      let x : before k (key e) ≡ true = both_left (before k (key e)) (ascends_from key same before (key e) es) a in
      from_entry k es d i (from_chain k (key e) es x (both_right (before k (key e)) (ascends_from key same before (key e) es) a)) (omega arith)

  -- A key stands before each key held by what ascends from it.
  pub from_holds : (j k : K) (es : List E) → ascends_from key same before j es ≡ true → holds key same before k es ≡ true → before j k ≡ true
  unfolding ascends_from holds
  from_holds j k [] a h = absurd (let z : ◌≡◌ {A = ℕ} 0 1 = cc in omega arith)
  from_holds j k (e ∷ es) a h = go (same k (key e)) refl h (from_holds (key e) k es)
    where
      x : before j (key e) ≡ true
      x = both_left (before j (key e)) (ascends_from key same before (key e) es) a

      go : (b : Bool) → same k (key e) ≡ b → (b || holds key same before k es) ≡ true
          → (ascends_from key same before (key e) es ≡ true → holds key same before k es ≡ true → before (key e) k ≡ true) → before j k ≡ true
      go true p g ih = rw (o.same_is k (key e) p) x
      go false p g ih = o.chain j (key e) k x (ih (both_right (before j (key e)) (ascends_from key same before (key e) es) a) g)

  -- The entries from the rank on do not stand before the key.
  pub rank_above : (k : K) (es : List E) (d : E) (i : ℕ) → ascends key same before es ≡ true → rank key same before k es ≤ i → i < length es
      → before (key (get_or es i d)) k ≡ false
  unfolding rank ascends
  rank_above k [] d i a h l = absurd (omega arith)
  rank_above k (e ∷ es) d zero a h l = go (before (key e) k) refl h
    where
      go : (b : Bool) → before (key e) k ≡ b → cond b (suc (rank key same before k es)) 0 ≤ 0 → before (key e) k ≡ false
      go true p g = absurd (omega arith)
      go false p g = p
  rank_above k (e ∷ es) d (suc i) a h l = go (before (key e) k) refl h (rank_above k es d i (from_ascends (key e) es a))
    where
      x : before (key e) (key (get_or es i d)) ≡ true
      x = from_entry (key e) es d i a (omega arith)

      not_yet : before (key e) k ≡ false → (c : Bool) → before (key (get_or es i d)) k ≡ c → c ≡ false
      not_yet p true q = cc (o.chain (key e) (key (get_or es i d)) k x q)
      not_yet p false q = refl

      go : (b : Bool) → before (key e) k ≡ b → cond b (suc (rank key same before k es)) 0 ≤ suc i
          → (rank key same before k es ≤ i → i < length es → before (key (get_or es i d)) k ≡ false) → before (key (get_or es i d)) k ≡ false
      go true p g ih = ih (omega arith) (omega arith)
      go false p g ih = not_yet p (before (key (get_or es i d)) k) refl

  -- A key that is held is the key of the entry at its rank.
  pub holds_at : (k : K) (es : List E) (d : E) → ascends key same before es ≡ true → holds key same before k es ≡ true
      → (rank key same before k es < length es) × (same k (key (get_or es (rank key same before k es) d)) ≡ true)
  unfolding rank ascends holds
  holds_at k [] d a h = absurd (let z : ◌≡◌ {A = ℕ} 0 1 = cc in omega arith)
  holds_at k (e ∷ es) d a h = go (same k (key e)) refl h (holds_at k es d (from_ascends (key e) es a))
    where
      go : (b : Bool) → same k (key e) ≡ b → (b || holds key same before k es) ≡ true
          → (holds key same before k es ≡ true → (rank key same before k es < length es) × (same k (key (get_or es (rank key same before k es) d)) ≡ true))
          → (rank key same before k (e ∷ es) < suc (length es)) × (same k (key (get_or (e ∷ es) (rank key same before k (e ∷ es)) d)) ≡ true)
      go true p g ih = let q : k ≡ key e = o.same_is k (key e) p in
          let n : before (key e) k ≡ false = cc (o.not_self k) in rw n (omega arith, p)
      go false p g ih = let both = ih g in rw (from_holds (key e) k es a g) (omega arith, both.1)

  -- A key whose rank is the length is not held.
  pub holds_not_end : (k : K) (es : List E) → ascends key same before es ≡ true → rank key same before k es ≡ length es → holds key same before k es ≡ false
  unfolding holds
  holds_not_end k [] a h = refl
  holds_not_end k (e ∷ es) a h = go (holds key same before k (e ∷ es)) refl
    where
      go : (b : Bool) → holds key same before k (e ∷ es) ≡ b → b ≡ false
      go false p = refl
      go true p = let x = (holds_at k (e ∷ es) e a p).0 in absurd (omega arith)

  -- A key that the entry at its rank does not have is not held.
  pub holds_not_same : (k : K) (es : List E) (d : E) → ascends key same before es ≡ true → same k (key (get_or es (rank key same before k es) d)) ≡ false
      → holds key same before k es ≡ false
  holds_not_same k es d a h = go (holds key same before k es) refl
    where
      go : (b : Bool) → holds key same before k es ≡ b → b ≡ false
      go false p = refl
      go true p = cc (holds_at k es d a p).1

  -- Where the rank is a position of the list, the key is held if and only if the entry there has it.
  pub holds_is : (k : K) (es : List E) (d : E) → ascends key same before es ≡ true → rank key same before k es < length es
      → holds key same before k es ≡ same k (key (get_or es (rank key same before k es) d))
  holds_is k es d a l = go (same k (key (get_or es (rank key same before k es) d))) refl
    where
      go : (b : Bool) → same k (key (get_or es (rank key same before k es) d)) ≡ b → holds key same before k es ≡ b
      go true p = holds_of key same before k es d l p
      go false p = holds_not_same k es d a p
