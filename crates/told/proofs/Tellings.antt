-- Words that are told, part by part. Assumes nothing.
use Prim.Native.Nat.{ℕ, ◌-◌}
use mathlib.Core.Path.{◌≡◌}
use mathlib.Core.List.{List, [], ◌∷◌}
use borrow.Author.Tests.{ne_eqb}
use lib.IntN.{ℤ}
use Rattle.types.specs.declared.Origin.{Origin}
use Rattle.types.specs.declared.Hop.{Hop}
use Rattle.types.specs.declared.Hop.TheVariants.{ProviderPlus}
use Rattle.types.specs.Numbers.{origin_number}
use Rattle.registers.specs.declared.Part.{Part}
use Rattle.told.specs.Answers.{told_route, hop_words, part_told}

-- What is told of a judging, part by part.
pub routed : {r r' : ℕ} {ws ws' : List ℕ} {g g' : ℤ} → r ≡ r' → ws ≡ ws' → g ≡ g' → told_route r ws g ≡ told_route r' ws' g'
routed p q h = λ i. told_route (p i) (q i) (h i)

-- A Provider+, told.
pub plus_told : {h : Hop} {o : Origin} {s n : ℕ} → h ≡ ProviderPlus o s → n ≡ origin_number o → 1 ∷ n ∷ s ∷ [] ≡ hop_words h
plus_told e q = rw (e, q)

-- A part that is not empty, told.
pub part-told : (p : Part) {n : ℕ} → (p.from ≡ p.to → ⊥) → n ≡ origin_number p.origin → n ∷ p.from ∷ ((p.to - p.from) ∷ []) ≡ part_told p
part-told p h q = rw (ne_eqb p.from p.to h, q)
