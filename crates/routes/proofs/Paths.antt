-- A path without zeros and without runs: each turn of the loops over it. Assumes nothing.
use Prim.Native.Nat.{ℕ, ◌+◌, ◌-◌, ◌≤◌, ◌<◌}
use mathlib.Core.Path.{◌≡◌, refl, sym, ◌∙◌}
use mathlib.Core.Bool.{Bool, true, not, ◌&&◌, and-true}
use mathlib.Core.List.{List, [], ◌∷◌}
use native.Mathlib.Omega.{arith}
use native.Mathlib.Numerals.{add-one}
use lib.Dec.{eqb}
use lib.ListN.{length, get_or, drop, drop_of_length-le}
use lib.Seq.{drop-cons}
use Rattle.std.proofs.Math.Bool.{and_assoc}
use Rattle.ledger.specs.Routes.{no_zero, no_repeat, no_runs}

-- The flag, and the numbers from i on that are left to look at, give the result.
abbrev pub Seeking : List ℕ → Bool → ℕ → Type 0
Seeking l none i = (none && no_zero (drop i l)) ≡ no_zero l

module _ (l : List ℕ) (none : Bool) (i : ℕ) (same : Seeking l none i) where
  -- One number more.
  pub zeros_on : i < length l → Seeking l (none && not (eqb (get_or l i 0) 0)) (i + 1)
  unfolding no_zero
  zeros_on h = rw (add-one i, and_assoc none) (rw (drop-cons l i 0 h) at same)

  -- No number is left.
  pub zeros_none : length l ≤ i → none ≡ no_zero l
  unfolding no_zero
  zeros_none h = sym (and-true none) ∙ (rw (drop_of_length-le l h) at same)

-- The same of neighbours: the number before i is known, and none before it repeats its own.
abbrev pub Comparing : List ℕ → Bool → ℕ → Type 0
Comparing l none i = (none && no_repeat (get_or l (i - 1) 0) (drop i l)) ≡ no_runs l

-- Before the second number.
pub compares : (l : List ℕ) → Comparing l true 1
unfolding no_runs no_repeat
compares [] = refl
compares (x ∷ l) = refl

module _ (l : List ℕ) (none : Bool) (i : ℕ) (same : Comparing l none i) where
  -- One number more.
  pub runs_on : i < length l → Comparing l (none && not (eqb (get_or l i 0) (get_or l (i - 1) 0))) (i + 1)
  unfolding no_repeat
  runs_on h =
      let z : i + 1 - 1 ≡ i = omega arith in
      rw (z, add-one i, and_assoc none) (rw (drop-cons l i 0 h) at same)

  -- No number is left.
  pub runs_none : length l ≤ i → none ≡ no_runs l
  unfolding no_repeat
  runs_none h = sym (and-true none) ∙ (rw (drop_of_length-le l h) at same)
