-- What the documents say of the search, as statements. proofs/Laws.antt has their proof.
use Rattle.std.specs.Prelude.{ℕ, suc, ◌-◌, ◌^◌, ◌≤◌, ◌<◌, ◌≡◌, Bool}
use Rattle.halves.specs.Halves.{Begins, searched_from, halvings}

pub record SearchLaws : Type 0 where
  -- Where the entries of a key begin, or would, the search ends, if that is not below the position from which it goes.
  pub found : (before : ℕ → Bool) (n from p : ℕ) → Begins before n p → from ≤ p
      → ((searched_from before n from).low ≡ p) × ((searched_from before n from).high ≡ p)
  -- Whatever the entries are, it takes at most one step more than their number can be halved.
  pub few : (before : ℕ → Bool) (n from : ℕ) → (searched_from before n from).steps ≤ suc (halvings (n - from))
  -- The halvings of n are the least k for which n is below 2 ^ (k + 1),
  pub over : (n : ℕ) → n < 2 ^ suc (halvings n)
  pub under : (n k : ℕ) → n < 2 ^ suc k → halvings n ≤ k
  -- so that eleven steps are enough among 1,024 entries.
  pub eleven : (n : ℕ) → n ≤ 1024 → suc (halvings n) ≤ 11
