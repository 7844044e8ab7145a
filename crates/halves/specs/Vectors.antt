-- Steps and halvings, computed.
use Rattle.std.specs.Prelude.{ℕ, ◌≡◌, refl, true, false}
use Rattle.halves.specs.declared.Range.{Range}
use Rattle.halves.specs.Halves.{middle, stepped, halvings_in, halvings}

abbrev range : ℕ → ℕ → ℕ → Range
range low high steps = record { low = low; high = high; steps = steps }

-- Of 1,024 entries a step looks at the one at position 512 and leaves 511 or 512.
pub of_1024 : (middle (range 0 1024 0) ≡ 512) × (stepped (range 0 1024 0) true ≡ range 513 1024 1) × (stepped (range 0 1024 0) false ≡ range 0 512 1)
unfolding stepped
of_1024 = (refl, refl, refl)

-- Of seven it leaves three either way; of one, none.
pub of_seven : (stepped (range 10 17 2) true ≡ range 14 17 3) × (stepped (range 10 17 2) false ≡ range 10 13 3)
unfolding stepped
of_seven = (refl, refl)

pub of_one : (stepped (range 5 6 10) true ≡ range 6 6 11) × (stepped (range 5 6 10) false ≡ range 5 5 11)
unfolding stepped
of_one = (refl, refl)

-- How often some numbers can be halved.
pub halved : (halvings 0 ≡ 0) × (halvings 1 ≡ 0) × (halvings 2 ≡ 1) × (halvings 3 ≡ 1) × (halvings 1023 ≡ 9) × (halvings 1024 ≡ 10) × (halvings 2047 ≡ 10) × (halvings 2048 ≡ 11)
unfolding halvings halvings_in
halved = (refl, refl, refl, refl, refl, refl, refl, refl)
