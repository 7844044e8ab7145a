-- What an attribute is read as, case by case. Assumes nothing.
use Prim.Native.Nat.{ℕ, ◌≤◌, ◌<◌}
use mathlib.Core.Path.{◌≡◌, refl, ◌∙◌, ap}
use mathlib.Core.Bool.{Bool, true, false}
use mathlib.Core.List.{List}
use native.Mathlib.Omega.{arith}
use borrow.Author.Tests.{lt-ltb, le-ltb, ltb-true, ltb-false}
use lib.Dec.{ltb}
use lib.ListN.{length}
use Rattle.types.specs.declared.Ground.{Ground}
use Rattle.types.specs.declared.Fault.{Fault}
use Rattle.types.specs.declared.Refusal.TheVariants.{PathLength}
use Rattle.as_path.specs.declared.Reading.TheVariants.{Path}
use Rattle.types.specs.declared.Ground.TheVariants.{Empty}
use Rattle.types.proofs.Clashes.{clash}
use Rattle.as_path.specs.Segments.{number_bytes, segments}
use Rattle.as_path.specs.Faults.{first_fault}
use Rattle.as_path.specs.Grounds.{ground_of}
use Rattle.as_path.specs.Merging.{merged_path}
use Rattle.as_path.specs.Reading.{most_numbers, faulty, grounded, merged, after_ground, after_scan, content_of, reading_of}
use Rattle.as_path.specs.Helpers.{Stored}
use Rattle.as_path.proofs.Grounding.{ground_empty}
use Rattle.std.specs.Prelude.{Option, Some, None, Ok, Err}

module _ (role : ℕ) (neighbour : ℕ) (xs : List ℕ) where
  pub content_faulty : {f : Fault} {p : ℕ} → first_fault number_bytes xs ≡ Some (f, p) → content_of role neighbour xs ≡ faulty f p
  unfolding content_of
  content_faulty e = rw e

  module _ (e : first_fault number_bytes xs ≡ None) where
    pub content_grounded : {g : Ground} → ground_of role neighbour (segments number_bytes xs) ≡ Some g → content_of role neighbour xs ≡ grounded g
    unfolding content_of
    content_grounded e' = rw (e, e')

    pub content_merged : ground_of role neighbour (segments number_bytes xs) ≡ None → content_of role neighbour xs ≡ merged (merged_path (segments number_bytes xs))
    unfolding content_of
    content_merged e' = rw (e, e')

-- How many numbers a merged path has decides row 17.
module _ {before l after : List ℕ} {n : ℕ} (s : Stored before 0 l after n) where
  pub too_long : most_numbers < n → Err PathLength ≡ reading_of (merged l)
  too_long h = rw (lt-ltb most_numbers (length l) (omega (arith, s.index)))

  pub short_enough : n ≤ most_numbers → Ok (Path n) ≡ reading_of (merged l)
  short_enough h =
      let e' : n ≡ length l = omega (arith, s.index) in
      rw (e', le-ltb most_numbers (length l) (omega arith))

-- What a merged path shows: no fault, at least a byte, and which path it is.
pub record Merged (xs l : List ℕ) : Type 0 where
  pub clean : first_fault number_bytes xs ≡ None
  pub some : 0 < length xs
  pub same : l ≡ merged_path (segments number_bytes xs)

pub merged_means : (role neighbour : ℕ) (xs l : List ℕ) → content_of role neighbour xs ≡ merged l → Merged xs l
unfolding content_of
merged_means role neighbour xs l = scan (first_fault number_bytes xs) refl
  where
    empty_is : ltb 0 (length xs) ≡ false → length xs ≡ 0
    empty_is t = let h : length xs ≤ 0 = ltb-false 0 (length xs) t in omega arith

    bytes : ground_of role neighbour (segments number_bytes xs) ≡ None → (b : Bool) → ltb 0 (length xs) ≡ b → 0 < length xs
    bytes g true t = ltb-true 0 (length xs) t
    bytes g false t = clash (let z : Some Empty ≡ None = ground_empty number_bytes xs role neighbour (empty_is t) ∙ g in cc)

    ground : first_fault number_bytes xs ≡ None → (g : Option Ground) → ground_of role neighbour (segments number_bytes xs) ≡ g
        → after_ground g (merged_path (segments number_bytes xs)) ≡ merged l → Merged xs l
    ground f (Some g) e h = clash (cc)
    ground f None e h = record { clean = f; some = bytes e (ltb 0 (length xs)) refl; same = cc }

    scan : (s : Option (Fault × ℕ)) → first_fault number_bytes xs ≡ s → after_scan s (after_ground (ground_of role neighbour (segments number_bytes xs)) (merged_path (segments number_bytes xs))) ≡ merged l → Merged xs l
    scan None e h = ground e (ground_of role neighbour (segments number_bytes xs)) refl h
    scan (Some (f, p)) e h = clash (cc)

-- What is read as a ground has it; what is read as a merged path has none.
pub content_ground : (role neighbour : ℕ) (xs : List ℕ) (s : Option (Fault × ℕ)) (g : Option Ground) → first_fault number_bytes xs ≡ s → ground_of role neighbour (segments number_bytes xs) ≡ g
    → ((h : Ground) → content_of role neighbour xs ≡ grounded h → ground_of role neighbour (segments number_bytes xs) ≡ Some h)
    × ((l : List ℕ) → content_of role neighbour xs ≡ merged l → ground_of role neighbour (segments number_bytes xs) ≡ None)
unfolding content_of
content_ground role neighbour xs (Some (f, p)) g e e' = ((λ h c. clash (let z = rw e at c in cc)), (λ l c. clash (let z = rw e at c in cc)))
content_ground role neighbour xs None (Some g) e e' =
    ((λ h c. let z : grounded g ≡ grounded h = rw (e, e') at c in let y : g ≡ h = cc in e' ∙ ap Some y), (λ l c. clash (let z = rw (e, e') at c in cc)))
content_ground role neighbour xs None None e e' = ((λ h c. clash (let z = rw (e, e') at c in cc)), (λ l c. e'))

-- What is read as a fault has it.
pub content_fault : (role neighbour : ℕ) (xs : List ℕ) (f : Fault) (p : ℕ) → content_of role neighbour xs ≡ faulty f p → first_fault number_bytes xs ≡ Some (f, p)
unfolding content_of
content_fault role neighbour xs f p = scan (first_fault number_bytes xs) refl (ground_of role neighbour (segments number_bytes xs))
  where
    scan : (s : Option (Fault × ℕ)) → first_fault number_bytes xs ≡ s → (g : Option Ground) → after_scan s (after_ground g (merged_path (segments number_bytes xs))) ≡ faulty f p
        → first_fault number_bytes xs ≡ Some (f, p)
    scan None e (Some g) h = clash (cc)
    scan None e None h = clash (cc)
    scan (Some (f', p')) e g h =
        let y : f' ≡ f = cc in
        let z : p' ≡ p = cc in
        rw (← y, ← z) e
