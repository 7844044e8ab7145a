-- The answer depends on the hops between neighbours of the path, both ways, and on no other. Assumes nothing.
use Prim.Native.Nat.{ℕ, ◌+◌, ◌-◌, ◌≤◌}
use mathlib.Core.Path.{◌≡◌, refl, ap}
use mathlib.Core.List.{List}
use mathlib.Core.Bool.{Bool, true, false, not, cond}
use native.Mathlib.Omega.{arith}
use borrow.Author.Tests.{leb-true}
use lib.Dec.{leb, ltb}
use lib.ListN.{length}
use Rattle.types.specs.declared.Hop.{Hop}
use Rattle.types.specs.declared.Refusal.TheVariants.{PathLength}
use Rattle.types.specs.Rows.{first_given}
use Rattle.as_path.specs.Reading.{most_numbers, Content, faulty, grounded, merged, content_of}
use Rattle.rules.specs.Hops.{HopFunction, is_plus, is_not_plus, is_unattested, up, down, lowest, highest}
use Rattle.rules.specs.Verdicts.{lowest_not_plus, highest_not_plus, ramp_up, ramp_down, upstream, downstream, judged}
use Rattle.rules.specs.Judging.{argument_rows, answer_to, unless_given, judged_route}
use Rattle.rules.specs.Laws.{Lowest, Highest, SameHops}
use Rattle.rules.proofs.Searching.{lowest_is, highest_is, lowest_same, highest_same}
use Rattle.rules.proofs.Ramps.{ramp_up_lowest, ramp_down_highest}
use Rattle.std.specs.Prelude.{Err, Ok}

module _ {hop hop' : HopFunction} {path : List ℕ} (same : SameHops hop hop' path) where
  -- The hop upward to AS(u) is the same.
  upward_at : (u : ℕ) → 2 ≤ u → u ≤ length path → up hop path u ≡ up hop' path u
  upward_at u a b =
      let z : u - 1 + 1 ≡ u = omega arith in
      rw z at (same.upward (u - 1) (omega arith) (omega arith))

  -- A search upward of the path finds the same, whatever its test of a hop.
  pub same_lowest : (test : Hop → Bool)
      → lowest (λ u. test (up hop path u)) 2 (length path - 1) ≡ lowest (λ u. test (up hop' path u)) 2 (length path - 1)
  same_lowest test = lowest_same _ _ 2 (length path - 1) (λ j a b. ap test (upward_at j a (omega arith)))

  -- And one downward.
  pub same_highest : (test : Hop → Bool)
      → highest (λ v. test (down hop path v)) 1 (length path - 1) ≡ highest (λ v. test (down hop' path v)) 1 (length path - 1)
  same_highest test = highest_same _ _ 1 (length path - 1) (λ j a b. ap test (same.downward j a (omega arith)))

  -- K is the same.
  pub same_up : ramp_up hop path ≡ ramp_up hop' path
  same_up = omega (arith, ramp_up_lowest hop path, ramp_up_lowest hop' path, same_lowest (λ h. not (is_plus h)))

  -- L is the same.
  pub same_down : ramp_down hop path ≡ ramp_down hop' path
  same_down = omega (arith, ramp_down_highest hop path, ramp_down_highest hop' path, same_highest (λ h. not (is_plus h)))

  -- The upstream verdict is the same: the hop that an Invalid names lies on the path.
  same_upstream : upstream hop path ≡ upstream hop' path
  unfolding upstream
  same_upstream = go (leb (lowest_not_plus hop' path) (length path)) refl
    where
      go : (b : Bool) → leb (lowest_not_plus hop' path) (length path) ≡ b → upstream hop path ≡ upstream hop' path
      go true e =
          let h : up hop path (lowest_not_plus hop' path) ≡ up hop' path (lowest_not_plus hop' path)
          = upward_at _ (lowest_is _ 2 (length path - 1)).low (leb-true _ _ e) in
          rw (same_lowest is_not_plus, e, h)
      go false e = rw (same_lowest is_not_plus, same_lowest is_unattested, e)

  -- And the downstream one.
  same_downstream : downstream hop path ≡ downstream hop' path
  unfolding downstream
  same_downstream = go (leb (lowest_not_plus hop' path) (highest_not_plus hop' path)) refl
    where
      u_is : Lowest (λ u. is_not_plus (up hop' path u)) 2 (length path - 1) (lowest_not_plus hop' path)
      u_is = lowest_is _ 2 (length path - 1)

      v_is : Highest (λ v. is_not_plus (down hop' path v)) 1 (length path - 1) (highest_not_plus hop' path)
      v_is = highest_is _ 1 (length path - 1) (omega arith)

      go : (b : Bool) → leb (lowest_not_plus hop' path) (highest_not_plus hop' path) ≡ b → downstream hop path ≡ downstream hop' path
      go true e =
          let l : lowest_not_plus hop' path ≤ highest_not_plus hop' path = leb-true _ _ e in
          let h : up hop path (lowest_not_plus hop' path) ≡ up hop' path (lowest_not_plus hop' path)
          = upward_at _ u_is.low (omega (arith, v_is.high, u_is.low)) in
          let k : down hop path (highest_not_plus hop' path) ≡ down hop' path (highest_not_plus hop' path)
          = same.downward _ (omega (arith, u_is.low)) (omega (arith, v_is.high, u_is.low)) in
          rw (same_lowest is_not_plus, same_highest is_not_plus, e, h, k)
      go false e = rw (same_lowest is_not_plus, same_highest is_not_plus, e, same_up, same_down)

  -- Records that say the same of the path's hops give the same answer, verdict, places, registers and gap, in every role.
  pub same_judged : (role : ℕ) → judged hop path role ≡ judged hop' path role
  unfolding judged
  same_judged role = rw (same_upstream, same_downstream, same_up, same_down)

-- Hops that judge a route's path alike answer the route alike.
pub same_route : (hop hop' : HopFunction) (role neighbour : ℕ) (attribute : List ℕ)
    → ((path : List ℕ) → content_of role neighbour attribute ≡ merged path → judged hop path role ≡ judged hop' path role)
    → judged_route hop role neighbour attribute ≡ judged_route hop' role neighbour attribute
unfolding judged_route
same_route hop hop' role neighbour attribute h =
    ap (unless_given (first_given (argument_rows role neighbour attribute))) (go (content_of role neighbour attribute) refl)
  where
    go : (c : Content) → content_of role neighbour attribute ≡ c → answer_to hop role c ≡ answer_to hop' role c
    go (faulty f p) e = refl
    go (grounded g) e = refl
    go (merged path) e = ap (λ a. cond (ltb most_numbers (length path)) (Err PathLength) (Ok a)) (h path e)
