-- How many routes differ from those at their places. Assumes nothing.
use Prim.Native.Nat.{ℕ, zero, suc}
use mathlib.Core.Path.{◌≡◌, refl, sym, ◌∙◌, ap}
use mathlib.Core.Bool.{Bool, true, false, cond}
use mathlib.Core.List.{List, [], ◌∷◌, map}
use native.Mathlib.Omega.{arith}
use borrow.Author.Tests.{not-false, eqb-true, eqb-false}
use lib.Dec.{eqb}
use lib.ListN.{length, length-map}
use Rattle.types.specs.declared.Verdict.{Verdict}
use Rattle.types.specs.Numbers.{verdict_number, place_a, place_b, verdict_of}
use Rattle.keyed.proofs.Orders.{both_left, both_right}
use Rattle.rules.specs.Hops.{HopFunction}
use Rattle.rules.specs.Verdicts.{judged}
use Rattle.ledger.specs.Routes.{Route, route_at}
use Rattle.ledger.specs.Calls.{stamped, differs, count_differing}
use Rattle.rejudge.specs.Rejudging.{count_below}
use Rattle.rejudge.proofs.Rejudgements.{not_differs, left_alone, gets_verdict, anew, all_once}

-- One more, or not; and another, or not.
two_counts : (b c : Bool) (n : ℕ) → cond b (suc (cond c (suc n) n)) (cond c (suc n) n) ≡ cond c (suc (cond b (suc n) n)) (cond b (suc n) n)
two_counts true true n = refl
two_counts true false n = refl
two_counts false true n = refl
two_counts false false n = refl

-- The first of them, and the others.
count_first : (p : ℕ → Bool) (n : ℕ) → count_below p (suc n) ≡ cond (p 0) (suc (count_below (λ i. p (suc i)) n)) (count_below (λ i. p (suc i)) n)
unfolding count_below
count_first p zero = refl
count_first p (suc n) =
    ap (λ m. cond (p (suc n)) (suc m) m) (count_first p n) ∙ two_counts (p (suc n)) (p 0) (count_below (λ i. p (suc i)) n)

-- The count is the number of places at which the two differ.
pub count_is : (rs ss : List Route) → length rs ≡ length ss
    → count_differing rs ss ≡ count_below (λ i. differs (route_at rs i) (route_at ss i)) (length rs)
unfolding count_differing count_below
count_is [] [] e = refl
count_is [] (s ∷ ss) e = refl
count_is (r ∷ rs) [] e = absurd (omega arith)
count_is (r ∷ rs) (s ∷ ss) e =
    ap (λ m. cond (differs r s) (suc m) m) (count_is rs ss (omega arith))
    ∙ sym (count_first (λ i. differs (route_at (r ∷ rs) i) (route_at (s ∷ ss) i)) (length rs))

-- Routes do not differ from themselves.
pub count_none : (rs : List Route) → count_differing rs rs ≡ 0
unfolding count_differing
count_none [] = refl
count_none (r ∷ rs) = rw (not_differs r) (count_none rs)

-- A verdict that does not differ from the one that a route has leaves the route as it is.
same_stamp : (v : Verdict) (r : Route) → differs r (stamped v r) ≡ false → stamped v r ≡ r
same_stamp v r e =
    let p = not-false _ e in
    let q = both_right (eqb r.verdict (verdict_number v)) _ p in
    let word = eqb-true r.verdict (verdict_number v) (both_left _ _ p) in
    let a = eqb-true r.a (place_a v) (both_left _ _ q) in
    let b = eqb-true r.b (place_b v) (both_right (eqb r.a (place_a v)) _ q) in
    λ z. record {
      number = r.number;
      role = r.role;
      neighbour = r.neighbour;
      ground_code = r.ground_code;
      verdict = sym word z;
      a = sym a z;
      b = sym b z;
      path = r.path;
    }

-- A route that does not differ from itself judged anew is that one.
same_anew : (hop : HopFunction) (r : Route) → differs r (anew hop r) ≡ false → anew hop r ≡ r
same_anew hop r e = go (eqb r.ground_code 0) refl
  where
    go : (b : Bool) → eqb r.ground_code 0 ≡ b → anew hop r ≡ r
    go true t =
        let g = gets_verdict hop r (eqb-true _ _ t) in
        g ∙ same_stamp (verdict_of (judged hop r.path r.role)) r (ap (differs r) (sym g) ∙ e)
    go false t = left_alone hop r (eqb-false _ _ t)

-- Where no route changes, the routes are as they were.
pub none_changed : (hop : HopFunction) (rs : List Route) → count_differing rs (map (anew hop) rs) ≡ 0 → map (anew hop) rs ≡ rs
unfolding count_differing
none_changed hop [] e = refl
none_changed hop (r ∷ rs) e = go (differs r (anew hop r)) refl e (λ k. none_changed hop rs k)
  where
    go : (b : Bool) → differs r (anew hop r) ≡ b
        → cond b (suc (count_differing rs (map (anew hop) rs))) (count_differing rs (map (anew hop) rs)) ≡ 0
        → (count_differing rs (map (anew hop) rs) ≡ 0 → map (anew hop) rs ≡ rs) → anew hop r ∷ map (anew hop) rs ≡ r ∷ rs
    go true d z rest = absurd (omega arith)
    go false d z rest = λ q. same_anew hop r d q ∷ rest z q

module _ (hop : HopFunction) (rs : List Route) where
  -- So many routes change as places at which the two differ.
  pub changed_is :
      count_differing rs (map (anew hop) rs) ≡ count_below (λ i. differs (route_at rs i) (route_at (map (anew hop) rs) i)) (length rs)
  changed_is = count_is rs (map (anew hop) rs) (sym (length-map rs (anew hop)))

  -- The second time no route changes.
  pub second_none : count_differing (map (anew hop) rs) (map (anew hop) (map (anew hop) rs)) ≡ 0
  second_none = ap (count_differing (map (anew hop) rs)) (all_once hop rs) ∙ count_none (map (anew hop) rs)
