-- Lists of entries that ascend by a key, no key twice: what a register holds and what a ledger holds.
use Rattle.std.specs.Prelude.{◌≡◌, Bool, true, false, cond, ◌&&◌, ◌||◌, List, [], ◌∷◌, ℕ, suc, eqb, ltb, None, Option, Some}

-- An order of keys, by two tests.
pub record Ordered {K : Type 0} (same before : K → K → Bool) : Type 0 where
  pub same_self : (a : K) → same a a ≡ true
  pub same_is : (a b : K) → same a b ≡ true → a ≡ b
  pub not_self : (a : K) → before a a ≡ false
  pub chain : (a b c : K) → before a b ≡ true → before b c ≡ true → before a c ≡ true
  pub either : (a b : K) → same a b ≡ false → before a b ≡ false → before b a ≡ true

-- Pairs of numbers, by the first and then by the second.
abbrev pub same_pair : (ℕ × ℕ) → (ℕ × ℕ) → Bool
same_pair a b = eqb a.0 b.0 && eqb a.1 b.1

abbrev pub before_pair : (ℕ × ℕ) → (ℕ × ℕ) → Bool
before_pair a b = ltb a.0 b.0 || (eqb a.0 b.0 && ltb a.1 b.1)

-- Every entry passes the test.
unfoldable pub every : {E : Type 0} → (E → Bool) → List E → Bool
every p [] = true
every p (e ∷ es) = p e && every p es

module _ {E K : Type 0} (key : E → K) (same before : K → K → Bool) where
  -- Each key stands before the next one.
  unfoldable pub ascends_from : K → List E → Bool
  ascends_from k [] = true
  ascends_from k (e ∷ es) = before k (key e) && ascends_from (key e) es

  unfoldable pub ascends : List E → Bool
  ascends [] = true
  ascends (e ∷ es) = ascends_from (key e) es

  -- The entry under a key.
  unfoldable pub find : K → List E → Option E
  find k [] = None
  find k (e ∷ es) = cond (same k (key e)) (Some e) (find k es)

  unfoldable pub holds : K → List E → Bool
  holds k [] = false
  holds k (e ∷ es) = same k (key e) || holds k es

  -- How many entries stand before a key.
  unfoldable pub rank : K → List E → ℕ
  rank k [] = 0
  rank k (e ∷ es) = cond (before (key e) k) (suc (rank k es)) 0

  -- An entry goes in at its key, in the position of the one that is there.
  unfoldable pub put : E → List E → List E
  put e [] = e ∷ []
  put e (f ∷ fs) = cond (same (key e) (key f)) (e ∷ fs) (cond (before (key e) (key f)) (e ∷ (f ∷ fs)) (f ∷ put e fs))

  -- The entries whose keys fail the test.
  unfoldable pub without : (K → Bool) → List E → List E
  without test [] = []
  without test (e ∷ es) = cond (test (key e)) (without test es) (e ∷ without test es)

  -- How many entries have keys that pass the test.
  unfoldable pub count_of : (K → Bool) → List E → ℕ
  count_of test [] = 0
  count_of test (e ∷ es) = cond (test (key e)) (suc (count_of test es)) (count_of test es)
