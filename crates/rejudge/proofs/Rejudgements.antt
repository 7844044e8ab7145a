-- Routes judged anew: what stays, what a second time does, and that they still keep the rules. Assumes nothing.
use Prim.Native.Nat.{◌≤◌}
use mathlib.Core.Path.{◌≡◌, refl, sym, ◌∙◌, ap}
use mathlib.Core.Bool.{Bool, true, false, cond}
use mathlib.Core.List.{List, [], ◌∷◌, ◌++◌, map}
use native.Mathlib.Omega.{arith}
use borrow.Author.Tests.{eqb-true, eqb-false, eq-eqb, ne_eqb, le-leb}
use lib.Dec.{leb, ltb, eqb}
use lib.ListN.{length, length-map}
use Rattle.types.specs.declared.Verdict.{Verdict}
use Rattle.types.specs.declared.Verdict.TheVariants.{Valid, Invalid, Unknown}
use Rattle.types.specs.Numbers.{verdict_number, place_a, place_b, verdict_of}
use Rattle.types.specs.Roles.{is_role, is_upstream}
use Rattle.as_path.specs.Reading.{most_numbers}
use Rattle.table.specs.Table.{bodies}
use Rattle.keyed.proofs.Orders.{ordered_ℕ, both_left, both_right, both_intro}
use Rattle.keyed.proofs.Mapping.{every_map, ascends_map}
use Rattle.rules.specs.Hops.{HopFunction}
use Rattle.rules.specs.Verdicts.{judged}
use Rattle.rules.specs.Laws.{Within}
use Rattle.rules.proofs.Orders.{places_within}
use Rattle.ledger.specs.Routes.{Route, entry_of, key_of, path_words, path_ok, route_ok, room_for, routes_ok}
use Rattle.ledger.specs.Calls.{stamped, differs}
use Rattle.ledger.proofs.Holding.{has_room, each_ok, in-order, has_role, rules_by_ground}
use Rattle.ledger.proofs.Paths.{path_some, path_few}
use Rattle.rejudge.specs.Rejudging.{rejudged_route}

-- ---- one route

-- A route does not differ from itself.
pub not_differs : (r : Route) → differs r r ≡ false
not_differs r = rw (ordered_ℕ.same_self r.verdict, ordered_ℕ.same_self r.a, ordered_ℕ.same_self r.b)

module _ (hop : HopFunction) (r : Route) where
  -- A route with a ground is left as it is.
  pub left_alone : (r.ground_code ≡ 0 → ⊥) → rejudged_route hop r ≡ r
  left_alone k = rw (ne_eqb r.ground_code 0 k)

  -- One without gets the verdict of its role and path.
  pub gets_verdict : r.ground_code ≡ 0 → rejudged_route hop r ≡ stamped (verdict_of (judged hop r.path r.role)) r
  gets_verdict e = rw (eq-eqb r.ground_code 0 e)

module _ (r : Route) (e : route_ok r ≡ true) where
  module _ (g : r.ground_code ≡ 0) where
    -- Without a ground its path keeps the rules.
    pub path_fine : path_ok r.role r.neighbour r.path ≡ true
    path_fine = rw (eq-eqb r.ground_code 0 g) at (rules_by_ground r e)

    -- It has a number.
    pub some_numbers : 1 ≤ length r.path
    some_numbers = path_some r.role r.neighbour r.path path_fine

    -- And not too many.
    pub few_numbers : length r.path ≤ most_numbers
    few_numbers = path_few r.role r.neighbour r.path path_fine

-- What a stamp leaves, stays whether the route is stamped or not.
stays_either : {X : Type 0} (part : Route → X) (v : Verdict) (r : Route) → part (stamped v r) ≡ part r
    → (b : Bool) → part (cond b (stamped v r) r) ≡ part r
stays_either part v r e true = e
stays_either part v r e false = refl

-- The word of a verdict is at most 2.
word_within : (v : Verdict) → verdict_number v ≤ 2
word_within Valid = omega arith
word_within (Invalid c) = omega arith
word_within (Unknown a b) = omega arith

module _ (hop : HopFunction) where
  -- The routes judged anew.
  abbrev pub anew : Route → Route
  anew = rejudged_route hop

  -- ---- what stays

  module _ (r : Route) where
    -- The verdict that a route gets.
    abbrev gets : Verdict
    gets = verdict_of (judged hop r.path r.role)

    -- The number stays.
    pub number_stays : (anew r).number ≡ r.number
    number_stays = stays_either (λ s. s.number) gets r refl (eqb r.ground_code 0)

    -- The role stays.
    pub role_stays : (anew r).role ≡ r.role
    role_stays = stays_either (λ s. s.role) gets r refl (eqb r.ground_code 0)

    -- The neighbour stays.
    pub neighbour_stays : (anew r).neighbour ≡ r.neighbour
    neighbour_stays = stays_either (λ s. s.neighbour) gets r refl (eqb r.ground_code 0)

    -- The ground stays.
    pub ground_stays : (anew r).ground_code ≡ r.ground_code
    ground_stays = stays_either (λ s. s.ground_code) gets r refl (eqb r.ground_code 0)

    -- The path stays.
    pub path_stays : (anew r).path ≡ r.path
    path_stays = stays_either (λ s. s.path) gets r refl (eqb r.ground_code 0)

    -- ---- a second time

    -- A route judged anew is left as it is by the next time.
    pub once_enough : anew (anew r) ≡ anew r
    once_enough = go (eqb r.ground_code 0) refl
      where
        go : (b : Bool) → eqb r.ground_code 0 ≡ b → anew (anew r) ≡ anew r
        go true e =
            let g = eqb-true _ _ e in
            ap anew (gets_verdict hop r g) ∙ gets_verdict hop (stamped gets r) g ∙ sym (gets_verdict hop r g)
        go false e = ap anew (left_alone hop r (eqb-false _ _ e))

  -- Routes judged anew are left as they are by the next time.
  pub all_once : (rs : List Route) → map anew (map anew rs) ≡ map anew rs
  all_once [] = refl
  all_once (r ∷ rs) = λ q. once_enough r q ∷ all_once rs q

  -- ---- the rules

  -- The places of the verdict lie on the path.
  gets_within : (r : Route) → 1 ≤ length r.path → Within (length r.path) (gets r)
  unfolding judged
  gets_within r h = go (is_upstream r.role) refl
    where
      go : (b : Bool) → is_upstream r.role ≡ b → Within (length r.path) (gets r)
      go true e = rw e (places_within hop r.path h).0
      go false e = rw e (places_within hop r.path h).1

  -- A route without a ground keeps its rules with its verdict.
  stamped_ok : (r : Route) → route_ok r ≡ true → r.ground_code ≡ 0 → route_ok (anew r) ≡ true
  unfolding route_ok
  stamped_ok r e g =
      let v = gets r in
      let w = gets_within r (some_numbers r e g) in
      let few = few_numbers r e g in
      let neighbour : leb 1 r.neighbour ≡ true = both_left (leb 1 r.neighbour) _ (both_right (is_role r.role) _ e) in
      let a : leb (place_a v) most_numbers ≡ true = le-leb (place_a v) most_numbers (omega (arith, w.a)) in
      let b : leb (place_b v) most_numbers ≡ true = le-leb (place_b v) most_numbers (omega (arith, w.b)) in
      let word : leb (verdict_number v) 2 ≡ true = le-leb _ _ (word_within v) in
      ap route_ok (gets_verdict hop r g) ∙ rw (has_role r e, neighbour, word, a, b, g) (path_fine r e g)

  -- A route judged anew keeps its rules.
  pub still_ok : (r : Route) → route_ok r ≡ true → route_ok (anew r) ≡ true
  still_ok r e = go (eqb r.ground_code 0) refl
    where
      go : (b : Bool) → eqb r.ground_code 0 ≡ b → route_ok (anew r) ≡ true
      go true t = stamped_ok r e (eqb-true _ _ t)
      go false t = ap route_ok (left_alone hop r (eqb-false _ _ t)) ∙ e

  -- The paths of routes judged anew are the same.
  same_paths : (rs : List Route) → bodies (map entry_of (map anew rs)) ≡ bodies (map entry_of rs)
  unfolding bodies
  same_paths [] = refl
  same_paths (r ∷ rs) = λ q. path_stays r q ++ same_paths rs q

  -- Routes that keep the rules of a ledger keep them when they are judged anew.
  pub rejudged_ok : (rs : List Route) → routes_ok rs ≡ true → routes_ok (map anew rs) ≡ true
  unfolding routes_ok room_for path_words
  rejudged_ok rs e =
      rw (length-map rs anew, same_paths rs, ascends_map key_of key_of eqb ltb anew number_stays rs, every_map route_ok route_ok anew still_ok rs (each_ok rs e))
      (both_intro (room_for rs) _ (has_room rs e) (in-order rs e))
