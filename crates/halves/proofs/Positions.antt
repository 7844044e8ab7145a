-- Where the entries of a key begin, or would. Assumes nothing.
use Prim.Native.Nat.{ℕ, ◌≤◌, ◌<◌}
use mathlib.Core.Path.{◌≡◌, refl, sym, ◌∙◌}
use mathlib.Core.Bool.{Bool, true, false, and-false, or-false}
use mathlib.Core.List.{List}
use native.Mathlib.Omega.{arith}
use borrow.Author.Tests.{ltb-true, ltb-false, le-ltb}
use lib.Dec.{eqb, ltb}
use lib.ListN.{length, get_or}
use Rattle.keyed.specs.Keyed.{Ordered, before_pair, ascends, rank}
use Rattle.keyed.proofs.Ranks.{rank_within, rank_below, rank_above}
use Rattle.halves.specs.Halves.{Begins}

module _ {before : ℕ → Bool} {n p : ℕ} (b : Begins before n p) where
  -- An entry that stands before the key is below.
  pub over : (i : ℕ) → i < n → before i ≡ true → i < p
  over i h t = go (ltb i p) refl
    where
      go : (c : Bool) → ltb i p ≡ c → i < p
      go true e = ltb-true i p e
      go false e = absurd (let z : ◌≡◌ {A = ℕ} 0 1 = cc (b.behind i (ltb-false i p e) h) in omega arith)

  -- One that does not is not.
  pub under : (i : ℕ) → before i ≡ false → p ≤ i
  under i t = go (ltb i p) refl
    where
      go : (c : Bool) → ltb i p ≡ c → p ≤ i
      go true e = absurd (let z : ◌≡◌ {A = ℕ} 0 1 = cc (b.below i (ltb-true i p e)) in omega arith)
      go false e = ltb-false i p e

  -- It goes by what the test says of the entries.
  pub alike : {other : ℕ → Bool} → ((i : ℕ) → i < n → before i ≡ other i) → Begins other n p
  alike f =
      record {
        within = b.within;
        below = λ i h. sym (f i (omega (arith, b.within))) ∙ b.below i h;
        behind = λ i h l. sym (f i l) ∙ b.behind i h l;
      }

-- In a list that ascends it is the rank of the key.
pub at_rank : {E K : Type 0} (key : E → K) (same before : K → K → Bool) → Ordered same before → (k : K) (es : List E) (d : E)
    → ascends key same before es ≡ true → Begins (λ i. before (key (get_or es i d)) k) (length es) (rank key same before k es)
at_rank key same before o k es d a =
    record {
      within = rank_within key same before k es;
      below = λ i h. rank_below key same before k es d i h;
      behind = λ i h l. rank_above key same before o k es d i a h l;
    }

-- No second word is below 0, so the first words decide.
pub first_decides : (a b n : ℕ) → ltb a n ≡ before_pair (a, b) (n, 0)
first_decides a b n = rw (le-ltb b 0 (omega arith), and-false (eqb a n), or-false (ltb a n)) refl
