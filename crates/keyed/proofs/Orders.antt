-- What follows from an order of keys; numbers, and pairs of numbers, are in order. Assumes nothing.
use mathlib.Core.Path.{◌≡◌, refl, sym, ◌∙◌}
use mathlib.Core.Bool.{Bool, true, false, ◌&&◌, ◌||◌}
use Prim.Native.Nat.{ℕ, ◌<◌, ◌≤◌}
use native.Mathlib.Omega.{arith}
use lib.Dec.{eqb, leb, ltb}
use borrow.Author.Tests.{ltb-true, ltb-false, eqb-true, eqb-false, lt-ltb, le-ltb, le-leb, eq-eqb}
use Rattle.keyed.specs.Keyed.{Ordered, same_pair, before_pair}

-- Two tests that hold, hold together.
pub both_intro : (a b : Bool) → a ≡ true → b ≡ true → (a && b) ≡ true
both_intro a b p q = rw (p, q)

-- The first of two tests that both hold.
pub both_left : (a b : Bool) → (a && b) ≡ true → a ≡ true
both_left true b h = refl
both_left false b h = h

-- The second of two tests that both hold.
pub both_right : (a b : Bool) → (a && b) ≡ true → b ≡ true
both_right true b h = h
both_right false b h = cc

-- A number that is not 0 is at least 1.
pub above_zero : (n : ℕ) → eqb n 0 ≡ false → leb 1 n ≡ true
above_zero n e = le-leb 1 n (go (eqb-false n 0 e))
  where
    go : (n ≡ 0 → ⊥) → 1 ≤ n
    go h = omega arith

module _ {K : Type 0} (same before : K → K → Bool) (o : Ordered same before) where
  -- Equal keys are the same.
  pub same_of : (a b : K) → a ≡ b → same a b ≡ true
  same_of a b p = rw (← p) (o.same_self a)

  -- A key that stands before another is not the same.
  pub before_not_same : (a b : K) → before a b ≡ true → same a b ≡ false
  before_not_same a b h = go (same a b) refl
    where
      go : (t : Bool) → same a b ≡ t → t ≡ false
      go false p = refl
      go true p = let q : a ≡ b = o.same_is a b p in cc (o.not_self a)

  -- Of two keys not both stand before the other.
  pub before_not_back : (a b : K) → before a b ≡ true → before b a ≡ false
  before_not_back a b h = go (before b a) refl
    where
      go : (t : Bool) → before b a ≡ t → t ≡ false
      go false p = refl
      go true p = cc (o.chain a b a h p, o.not_self a)

  -- To be the same key goes both ways.
  pub same_flip : (a b : K) → same a b ≡ same b a
  same_flip a b = go (same a b) refl (same b a) refl
    where
      go : (s : Bool) → same a b ≡ s → (t : Bool) → same b a ≡ t → s ≡ t
      go true p true q = refl
      go false p false q = refl
      go true p false q = let e : a ≡ b = o.same_is a b p in cc
      go false p true q = let e : b ≡ a = o.same_is b a q in cc

  -- A key that stands before another is not the same, the other way round.
  pub before_not_same_back : (a b : K) → before a b ≡ true → same b a ≡ false
  before_not_same_back a b h = same_flip b a ∙ before_not_same a b h

  -- The same key does not stand before.
  pub same_not_before : (a b : K) → same a b ≡ true → before a b ≡ false
  same_not_before a b h = let e : a ≡ b = o.same_is a b h in cc (o.not_self a)

-- Numbers by size are in order.
pub ordered_ℕ : Ordered eqb ltb
ordered_ℕ = record {
  same_self = λ a. eq-eqb a a refl;
  same_is = λ a b h. eqb-true a b h;
  not_self = λ a. le-ltb a a (omega arith);
  chain = λ a b c p q. let x = ltb-true a b p in let y = ltb-true b c q in lt-ltb a c (omega arith);
  either = λ a b p q. let x = ltb-false a b q in let y = eqb-false a b p in lt-ltb b a (strict a b x y);
}
  where
    strict : (a b : ℕ) → b ≤ a → (a ≡ b → ⊥) → b < a
    strict a b x y = omega arith

-- What `before_pair` tests.
pub data BeforePair (a b : ℕ × ℕ) : Type 0 where
  first : a.0 < b.0 → BeforePair a b
  second : a.0 ≡ b.0 → a.1 < b.1 → BeforePair a b

-- The test is passed by what it says.
pub before_test : (a b : ℕ × ℕ) → BeforePair a b → before_pair a b ≡ true
before_test a b (first h) = rw (lt-ltb a.0 b.0 h)
before_test a b (second e h) = rw (eq-eqb a.0 b.0 e, lt-ltb a.1 b.1 h) (or_last (ltb a.0 b.0))
  where
    or_last : (t : Bool) → (t || true) ≡ true
    or_last true = refl
    or_last false = refl

-- What the test says.
pub before_says : (a b : ℕ × ℕ) → before_pair a b ≡ true → BeforePair a b
before_says a b = go (ltb a.0 b.0) refl (eqb a.0 b.0) refl (ltb a.1 b.1) refl
  where
    go : (s : Bool) → ltb a.0 b.0 ≡ s → (t : Bool) → eqb a.0 b.0 ≡ t → (u : Bool) → ltb a.1 b.1 ≡ u
        → (s || (t && u)) ≡ true → BeforePair a b
    go true p t q u r h = first (ltb-true a.0 b.0 p)
    go false p true q true r h = second (eqb-true a.0 b.0 q) (ltb-true a.1 b.1 r)
    go false p true q false r h = absurd (let z : ◌≡◌ {A = ℕ} 0 1 = cc in omega arith)
    go false p false q u r h = absurd (let z : ◌≡◌ {A = ℕ} 0 1 = cc in omega arith)

-- Pairs stand before one another in a chain.
pub before_chain : (a b c : ℕ × ℕ) → BeforePair a b → BeforePair b c → BeforePair a c
before_chain a b c (first h) (first k) = first (omega arith)
before_chain a b c (first h) (second e k) = first (omega arith)
before_chain a b c (second d h) (first k) = first (omega arith)
before_chain a b c (second d h) (second e k) = second (d ∙ e) (omega arith)

-- Pairs that are the same are equal.
pub same_says : (a b : ℕ × ℕ) → same_pair a b ≡ true → a ≡ b
same_says a b h = let p = eqb-true a.0 b.0 (both_left (eqb a.0 b.0) (eqb a.1 b.1) h) in
    let q = eqb-true a.1 b.1 (both_right (eqb a.0 b.0) (eqb a.1 b.1) h) in λ i. (p i, q i)

-- No pair stands before itself.
pub before_self : (a : ℕ × ℕ) → before_pair a a ≡ false
before_self a = rw (le-ltb a.0 a.0 (omega arith), eq-eqb a.0 a.0 refl, le-ltb a.1 a.1 (omega arith))

-- Of two pairs that are not the same one stands before the other.
pub either_pair : (a b : ℕ × ℕ) → same_pair a b ≡ false → before_pair a b ≡ false → BeforePair b a
either_pair a b = go (ltb a.0 b.0) refl (eqb a.0 b.0) refl (eqb a.1 b.1) refl (ltb a.1 b.1) refl
  where
    strict : (m n : ℕ) → ltb m n ≡ false → eqb m n ≡ false → n < m
    strict m n p q = let x = ltb-false m n p in let y = eqb-false m n q in omega arith

    go : (s : Bool) → ltb a.0 b.0 ≡ s → (t : Bool) → eqb a.0 b.0 ≡ t → (u : Bool) → eqb a.1 b.1 ≡ u
        → (v : Bool) → ltb a.1 b.1 ≡ v → (t && u) ≡ false → (s || (t && v)) ≡ false → BeforePair b a
    go true p t q u r v w h k = absurd (let z : ◌≡◌ {A = ℕ} 0 1 = cc in omega arith)
    go false p true q true r v w h k = absurd (let z : ◌≡◌ {A = ℕ} 0 1 = cc in omega arith)
    go false p true q false r true w h k = absurd (let z : ◌≡◌ {A = ℕ} 0 1 = cc in omega arith)
    go false p true q false r false w h k = second (sym (eqb-true a.0 b.0 q)) (strict a.1 b.1 w r)
    go false p false q u r v w h k = first (strict a.0 b.0 p q)

-- Pairs of numbers, by the first and then by the second, are in order.
pub ordered_pairs : Ordered same_pair before_pair
ordered_pairs = record {
  same_self = λ a. rw (eq-eqb a.0 a.0 refl, eq-eqb a.1 a.1 refl);
  same_is = same_says;
  not_self = before_self;
  chain = λ a b c p q. before_test a c (before_chain a b c (before_says a b p) (before_says b c q));
  either = λ a b p q. before_test b a (either_pair a b p q);
}
