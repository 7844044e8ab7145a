-- Equal words. Assumes nothing.
use Prim.Native.Nat.{ℕ}
use mathlib.Core.Path.{◌≡◌, refl, ap, ◌∙◌}
use mathlib.Core.Bool.{Bool, true, false, cond, ◌&&◌}
use mathlib.Core.List.{List, [], ◌∷◌}
use lib.Dec.{eqb}
use Rattle.std.specs.Cmp.Lexicographic.{pointwise}
use Rattle.text.specs.Bytes.{same_bytes}

-- A choice between x and x.
pub either : {A : Type 0} (b : Bool) (x : A) → cond b x x ≡ x
either true x = refl
either false x = refl

both : (a b : Bool) → (a && b) ≡ cond a b false
both true b = refl
both false b = refl

-- Slices that `==` finds equal are the same bytes.
pub pointwise_is : (word other : List ℕ) → pointwise eqb word other ≡ same_bytes word other
unfolding same_bytes
pointwise_is [] [] = refl
pointwise_is [] (b ∷ bs) = refl
pointwise_is (a ∷ word) [] = refl
pointwise_is (a ∷ word) (b ∷ bs) = both (eqb a b) _ ∙ ap (λ t. cond (eqb a b) t false) (pointwise_is word bs)
