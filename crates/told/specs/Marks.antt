-- When the first word alone shows that a call was refused.
use Rattle.std.specs.Prelude.{ℕ, ◌≡◌, List, ◌↔◌, get_or}

-- The first word is this one exactly when the result is not 0.
abbrev pub Marks : ℕ → ℕ → List ℕ → Type 0
Marks word result words = (get_or words 0 0 ≡ word) ↔ (result ≡ 0 → ⊥)
