-- How often a number can be halved. Assumes nothing.
use Prim.Native.Nat.{ℕ, zero, suc, ◌+◌, ◌-◌, ◌/◌, ◌^◌, ◌≤◌, ◌<◌}
use mathlib.Core.Path.{◌≡◌, refl}
use mathlib.Core.Bool.{Bool, true, false, cond}
use native.Mathlib.Omega.{arith}
use borrow.Author.Tests.{leb-true, leb-false}
use lib.Dec.{leb}
use Rattle.halves.specs.Halves.{halvings_in, halvings}

-- 2 ^ (halvings + 1) is above the number.
over_in : (most n : ℕ) → n ≤ most → n < 2 ^ suc (halvings_in most n)
unfolding halvings_in
over_in zero n h = omega arith
over_in (suc most) n h = go (leb n 1) refl (λ l. over_in most (n / 2) (omega arith))
  where
    go : (b : Bool) → leb n 1 ≡ b → (2 ≤ n → n / 2 < 2 ^ suc (halvings_in most (n / 2))) → n < 2 ^ suc (cond b 0 (suc (halvings_in most (n / 2))))
    go true e ih = let l = leb-true n 1 e in omega arith
    go false e ih = let l = leb-false n 1 e in let x = ih (omega arith) in omega arith

-- No power of two above it has a lower exponent.
under_in : (most n k : ℕ) → n < 2 ^ suc k → halvings_in most n ≤ k
unfolding halvings_in
under_in zero n k h = omega arith
under_in (suc most) n zero h = go (leb n 1) refl
  where
    go : (b : Bool) → leb n 1 ≡ b → cond b 0 (suc (halvings_in most (n / 2))) ≤ 0
    go true e = omega arith
    go false e = let l = leb-false n 1 e in absurd (omega arith)
under_in (suc most) n (suc k) h = go (leb n 1) (under_in most (n / 2) k (omega arith))
  where
    go : (b : Bool) → halvings_in most (n / 2) ≤ k → cond b 0 (suc (halvings_in most (n / 2))) ≤ suc k
    go true ih = omega arith
    go false ih = omega arith

pub over : (n : ℕ) → n < 2 ^ suc (halvings n)
unfolding halvings
over n = over_in n n (omega arith)

pub under : (n k : ℕ) → n < 2 ^ suc k → halvings n ≤ k
unfolding halvings
under n k h = under_in n n k h

pub eleven : (n : ℕ) → n ≤ 1024 → suc (halvings n) ≤ 11
eleven n h = let x = under n 10 (omega arith) in omega arith

-- A number that s of k halvings have left, and at least 1: it can be halved once more.
pub once_more : (k s m half : ℕ) → s ≤ k → 1 ≤ m → m < 2 ^ (k - s) → half ≤ m / 2 → (s + 1 ≤ k) × (half < 2 ^ (k - (s + 1)))
once_more k s m half h l e f = go (k - s) refl e
  where
    go : (d : ℕ) → k - s ≡ d → m < 2 ^ d → (s + 1 ≤ k) × (half < 2 ^ (k - (s + 1)))
    go zero q x = absurd (omega arith)
    go (suc d) q x = let z : k - (s + 1) ≡ d = omega arith in (omega arith, rw z (omega arith))
