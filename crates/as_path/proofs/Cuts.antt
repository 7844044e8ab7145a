-- The same numbers, however they are cut into sequences. Assumes nothing.
use Prim.Native.Nat.{ℕ, zero, suc, ◌≤◌, ◌<◌}
use mathlib.Core.Path.{◌≡◌, refl}
use mathlib.Core.Bool.{Bool, true, false, not, cond, ◌&&◌, ◌||◌}
use mathlib.Core.List.{List, [], ◌∷◌, ◌++◌}
use native.Mathlib.Omega.{arith}
use borrow.Author.Tests.{ltb-true, ltb-false, eqb-false, eq-eqb}
use lib.Dec.{ltb, eqb}
use lib.ListN.{length, get_or}
use Rattle.types.specs.declared.Ground.TheVariants.{Empty, NotNeighbour}
use Rattle.types.proofs.Clashes.{clash}
use Rattle.types.specs.Roles.{is_route_server}
use Rattle.as_path.specs.Segments.{number_bytes, type_at, count_at, numbers_at, segments}
use Rattle.as_path.specs.Grounds.{has_set, ground_of}
use Rattle.as_path.specs.Merging.{numbers_in, merged_path}
use Rattle.as_path.specs.Reading.{content_of}
use Rattle.as_path.specs.Laws.{Sequences}
use Rattle.as_path.proofs.MergedPaths.{segments_none, segments_some}
use Rattle.as_path.proofs.Grounding.{first_whole}
use Rattle.std.specs.Prelude.{None, Option, Some}
use Rattle.types.specs.declared.Ground.{Ground}

-- The ground of sequences goes by their numbers.
abbrev ground_by : ℕ → ℕ → List ℕ → Option Ground
ground_by role neighbour [] = Some Empty
ground_by role neighbour (x ∷ l) = cond (not (is_route_server role) && not (eqb x neighbour)) (Some NotNeighbour) None

-- A type that is a set's or a sequence's, and no set's.
sequence : (kind : ℕ) (rest : Bool) → (kind ≡ 0 → ⊥) → kind ≤ 2 → (eqb kind 1 || rest) ≡ false → kind ≡ 2
sequence kind rest some known = go (eqb kind 1) refl
  where
    go : (b : Bool) → eqb kind 1 ≡ b → (b || rest) ≡ false → kind ≡ 2
    go true p e = clash (cc)
    go false p e = let h : kind ≡ 1 → ⊥ = eqb-false kind 1 p in omega arith

module _ (role neighbour : ℕ) (a : List ℕ) (s : Sequences a) where
  some_bytes : 0 < length a → ground_of role neighbour (segments number_bytes a) ≡ ground_by role neighbour (numbers_in (segments number_bytes a))
  unfolding ground_of has_set numbers_in numbers_at
  some_bytes h =
      let w = first_whole number_bytes a s.clean h in
      let e = rw (segments_some number_bytes a h) at s.no_set in
      rw (segments_some number_bytes a h, e, eq-eqb (type_at a 0) 2 (sequence (type_at a 0) _ w.typed w.known e)) (go (count_at a 0) w.some _)
    where
      go : (n : ℕ) → (n ≡ 0 → ⊥) → (m : List ℕ)
          → cond (not (is_route_server role) && not (eqb (get_or (numbers_at number_bytes n a 2) 0 0) neighbour)) (Some NotNeighbour) None
          ≡ ground_by role neighbour (numbers_at number_bytes n a 2 ++ m)
      go zero some m = absurd (some refl)
      go (suc n) some m = refl

  -- The ground of sequences, by their numbers.
  by_numbers : ground_of role neighbour (segments number_bytes a) ≡ ground_by role neighbour (numbers_in (segments number_bytes a))
  unfolding ground_of numbers_in
  by_numbers = go (ltb 0 (length a)) refl
    where
      go : (b : Bool) → ltb 0 (length a) ≡ b → ground_of role neighbour (segments number_bytes a) ≡ ground_by role neighbour (numbers_in (segments number_bytes a))
      go true e = some_bytes (ltb-true _ _ e)
      go false e = rw (segments_none number_bytes a (omega (arith, ltb-false)))

-- The same numbers in the same order are read as the same.
pub cut_anyhow : (role neighbour : ℕ) (a b : List ℕ) → Sequences a → Sequences b
    → numbers_in (segments number_bytes a) ≡ numbers_in (segments number_bytes b) → content_of role neighbour a ≡ content_of role neighbour b
unfolding content_of merged_path
cut_anyhow role neighbour a b s t e = rw (s.clean, t.clean, by_numbers role neighbour a s, by_numbers role neighbour b t, e)
