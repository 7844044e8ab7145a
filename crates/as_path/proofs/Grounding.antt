-- The grounds: the walk for a set, the neighbour check on the first segment, and their order. Assumes nothing.
use Prim.Native.Nat.{ℕ, zero, suc, ◌≤◌, ◌<◌}
use mathlib.Core.Path.{◌≡◌, refl, sym, ◌∙◌, ap}
use mathlib.Core.Bool.{true, false, not, cond}
use mathlib.Core.List.{List, map}
use borrow.Author.Tests.{eq-eqb, ne_eqb}
use lib.ListN.{length, get_or}
use Rattle.types.specs.declared.Ground.TheVariants.{Empty, NotNeighbour, AsSet}
use Rattle.types.specs.Roles.{is_route_server}
use Rattle.as_path.specs.Segments.{number_at, numbers_at, type_at, count_at, end_of, starts, segment_at, segments}
use Rattle.as_path.specs.Faults.{fault_among, first_fault}
use Rattle.as_path.specs.Grounds.{has_set, is_not_neighbour, ground_of}
use Rattle.as_path.proofs.MergedPaths.{segments_none, segments_some}
use Rattle.as_path.proofs.Walking.{Whole, Stand, left, first, next, none_left, one_more, whole_here}
use Rattle.std.specs.Prelude.{None, Some}

module _ (w : ℕ) (xs : List ℕ) where
  -- An attribute without a fault begins with a whole segment, if with anything.
  pub first_whole : first_fault w xs ≡ None → 0 < length xs → Whole w xs 0 (fault_among w xs (left (next (first w xs))))
  unfolding first_fault starts
  first_whole e h = whole_here (first w xs) h e

-- The walk for a set: what is left to find.
pub record Seeking (w : ℕ) (xs : List ℕ) (at : ℕ) : Type 0 where
  pub stand : Stand w xs at
  pub clean : fault_among w xs (left stand) ≡ None
  pub same : has_set (segments w xs) ≡ has_set (map (segment_at w xs) (left stand))

pub seeks : (w : ℕ) (xs : List ℕ) → first_fault w xs ≡ None → Seeking w xs 0
unfolding first_fault starts segments
seeks w xs e = record { stand = first w xs; clean = e; same = refl }

module _ {w : ℕ} {xs : List ℕ} {at : ℕ} (k : Seeking w xs at) where
  pub not_found : length xs ≤ at → false ≡ has_set (segments w xs)
  unfolding has_set
  not_found h = sym (k.same ∙ ap (λ ps. has_set (map (segment_at w xs) ps)) (none_left k.stand h))

  module _ (h : at < length xs) where
    pub here : Whole w xs at (fault_among w xs (left (next k.stand)))
    here = whole_here k.stand h k.clean

    pub found : type_at xs at ≡ 1 → true ≡ has_set (segments w xs)
    unfolding has_set
    found e = sym (k.same ∙ rw (one_more k.stand h, eq-eqb (type_at xs at) 1 e) refl)

    pub goes_on : {q : ℕ} → (type_at xs at ≡ 1 → ⊥) → q ≡ end_of w xs at → Seeking w xs q
    unfolding has_set
    goes_on e eq =
        rw eq (record {
          stand = next k.stand;
          clean = here.rest;
          same = k.same ∙ rw (one_more k.stand h, ne_eqb (type_at xs at) 1 e) refl;
        })

-- The first number of a segment.
pub first_number : (w n : ℕ) (xs : List ℕ) (p : ℕ) → (n ≡ 0 → ⊥) → get_or (numbers_at w n xs p) 0 0 ≡ number_at w xs p
unfolding numbers_at
first_number w zero xs p h = absurd (h refl)
first_number w (suc n) xs p h = refl

module _ (w : ℕ) (xs : List ℕ) (role : ℕ) (neighbour : ℕ) where
  pub from_server : type_at xs 0 ≡ 2 → is_route_server role ≡ true → false ≡ is_not_neighbour role neighbour (segment_at w xs 0)
  from_server e s = rw (eq-eqb (type_at xs 0) 2 e, s)

  pub compared :
      type_at xs 0 ≡ 2 → is_route_server role ≡ false → (count_at xs 0 ≡ 0 → ⊥)
      → is_not_neighbour role neighbour (segment_at w xs 0) ≡ not (lib.Dec.eqb (number_at w xs 2) neighbour)
  compared e s h = rw (eq-eqb (type_at xs 0) 2 e, s, first_number w (count_at xs 0) xs 2 h)

  -- The order of the grounds.
  pub ground_empty : length xs ≡ 0 → Some Empty ≡ ground_of role neighbour (segments w xs)
  unfolding ground_of
  ground_empty e = rw (segments_none w xs e)

  pub ground_is :
      0 < length xs
      → ground_of role neighbour (segments w xs)
      ≡ cond (is_not_neighbour role neighbour (segment_at w xs 0)) (Some NotNeighbour) (cond (has_set (segments w xs)) (Some AsSet) None)
  unfolding ground_of
  ground_is h = rw (segments_some w xs h)
