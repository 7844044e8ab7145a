-- What cannot be, and so gives anything. Assumes nothing.
use Prim.Native.Nat.{ℕ}
use mathlib.Core.Path.{◌≡◌}
use mathlib.Core.Bool.{Bool, true, false}
use native.Mathlib.Omega.{arith}
use Rattle.std.specs.Prelude.{None, Option, Some}

-- Zero is not one.
pub clash {ℓ} : {X : Type ℓ} → ◌≡◌ {A = ℕ} 0 1 → X
clash z = absurd (omega arith)

-- A test does not both fail and pass.
pub not_both {ℓ} : {X : Type ℓ} {b : Bool} → b ≡ false → b ≡ true → X
not_both p q = clash (cc)

-- Something is not nothing.
pub some_not_none {ℓ} : {X : Type ℓ} {E : Type 0} {e : E} → ◌≡◌ {A = Option E} (Some e) None → X
some_not_none h = clash (cc)
