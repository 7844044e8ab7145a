-- One step. Assumes nothing.
use Prim.Native.Nat.{ℕ, ◌+◌, ◌/◌, ◌≤◌, ◌<◌}
use mathlib.Core.Path.{◌≡◌, refl}
use mathlib.Core.Bool.{Bool, true, false}
use native.Mathlib.Omega.{arith}
use Rattle.keyed.specs.Keyed.{before_pair}
use Rattle.halves.specs.declared.Range.{Range}
use Rattle.halves.specs.Halves.{Begins, size, middle, In, stepped, Narrows}
use Rattle.halves.specs.Helpers.{Open}
use Rattle.halves.proofs.Positions.{over, under}

module _ (r : Range) (h : r.low < r.high) where
  pub part : (b : Bool) → (r.low ≤ (stepped r b).low) × ((stepped r b).high ≤ r.high)
  unfolding stepped
  part true = (omega arith, omega arith)
  part false = (omega arith, omega arith)

  pub half : (b : Bool) → size (stepped r b) ≤ size r / 2
  unfolding stepped
  half true = omega arith
  half false = omega arith

  pub counted : (b : Bool) → (stepped r b).steps ≡ r.steps + 1
  unfolding stepped
  counted true = refl
  counted false = refl

  pub keeps : (b : Bool) {before : ℕ → Bool} {n p : ℕ} → Begins before n p → before (middle r) ≡ b → r.high ≤ n → In r p → In (stepped r b) p
  unfolding stepped
  keeps true s q k i = (let x = over s (middle r) (omega arith) q in omega arith, i.1)
  keeps false s q k i = (i.0, under s (middle r) q)

  -- A step narrows its range.
  pub narrows : (entry key : ℕ × ℕ) → Narrows r entry key (stepped r (before_pair entry key))
  narrows entry key =
      let b = before_pair entry key in
      record { part = part b; half = half b; keeps = λ before n p s q k i. keeps b s q k i; counted = counted b }

-- So what is the step's answer keeps its promise.
pub does : (old : Range) (entry key : ℕ × ℕ) → Open old → {left : Range} → left ≡ stepped old (before_pair entry key)
    → (left ≡ stepped old (before_pair entry key)) × Narrows old entry key left
does old entry key o e = (e, rw e (narrows old o.some entry key))
