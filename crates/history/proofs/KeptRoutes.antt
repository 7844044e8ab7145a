-- The route that a keeping stores, and one that is judged anew, as the model has them. Assumes nothing.
use mathlib.Core.Path.{◌≡◌, refl}
use mathlib.Core.Bool.{Bool, true, false, cond}
use borrow.Author.Tests.{eqb-true}
use lib.Dec.{eqb}
use lib.ListN.{length}
use Rattle.types.specs.Numbers.{verdict_of}
use Rattle.types.specs.declared.Verdict.{Verdict}
use Rattle.types.specs.Rows.{first_given}
use Rattle.keyed.proofs.Orders.{both_left, both_right}
use Rattle.rules.specs.Hops.{HopFunction}
use Rattle.rules.specs.Verdicts.{judged}
use Rattle.rules.specs.Judging.{judge_rows}
use Rattle.rules.proofs.Judges.{Judgement, on-ground, on_path, judgement}
use Rattle.ledger.specs.Routes.{Route, ground_ok, route_ok}
use Rattle.ledger.specs.Calls.{stamped}
use Rattle.ledger.proofs.Holding.{rules_by_ground}
use Rattle.rejudge.specs.Rejudging.{rejudged_route}
use Rattle.registers.specs.Registers.{Registers, hop_in}
use Rattle.effects.specs.Calls.{Keeping, kept_route}
use Rattle.effects.proofs.KeptRoutes.{judged_ground}
use Rattle.history.specs.Calls.{route_read, known}
use Rattle.history.specs.Model.{with_verdict, with_words, judged_kept}
use Rattle.std.specs.Prelude.{None}

-- ---- a route that is judged anew

-- A route with a ground that keeps the rules is Invalid, and has no places.
pub on_a_ground : (r : Route) → route_ok r ≡ true → eqb r.ground_code 0 ≡ false → (r.verdict ≡ 1) × (r.a ≡ 0) × (r.b ≡ 0)
unfolding ground_ok
on_a_ground r e g =
    let h : ground_ok r ≡ true = rw g at (rules_by_ground r e) in
    let h₁ = both_right (eqb (length r.path) 0) _ h in
    let h₂ = both_right (eqb r.verdict 1) _ h₁ in
    let h₃ = both_right (eqb r.a 0) _ h₂ in
    (eqb-true _ _ (both_left _ _ h₁), eqb-true _ _ (both_left _ _ h₂), eqb-true _ _ (both_left _ _ h₃))

module _ (hop : HopFunction) where
  -- It is the model's route, with the verdict that the model writes.
  pub rejudged_written : (r : Route) → route_ok r ≡ true → rejudged_route hop r ≡ judged_kept hop (known r)
  rejudged_written r e = go (eqb r.ground_code 0) refl
    where
      v : Verdict
      v = verdict_of (judged hop r.path r.role)

      go : (b : Bool) → eqb r.ground_code 0 ≡ b → cond b (stamped v r) r ≡ cond b (with_words (known r) v) (with_verdict (known r) 1 0 0)
      go true g = refl
      go false g =
          let p = on_a_ground r e g in
          λ i. record {
            number = r.number;
            role = r.role;
            neighbour = r.neighbour;
            ground_code = r.ground_code;
            verdict = p.0 i;
            a = p.1 i;
            b = p.2 i;
            path = r.path;
          }

  -- But for the verdict it is the route that it was.
  pub rejudged_known : (r : Route) → known (rejudged_route hop r) ≡ known r
  rejudged_known r = go (eqb r.ground_code 0)
    where
      go : (b : Bool) → known (cond b (stamped (verdict_of (judged hop r.path r.role)) r) r) ≡ known r
      go true = refl
      go false = refl

-- ---- the route that a keeping stores

module _ (reg : Registers) (k : Keeping) (e : first_given (judge_rows k.role k.neighbour k.attribute) ≡ None) where
  -- But for the verdict it is the route that the arguments are read as.
  pub kept_known : known (kept_route reg k) ≡ route_read k
  kept_known = go (judgement (hop_in reg) k.role k.neighbour k.attribute e)
    where
      go : Judgement (hop_in reg) k.role k.neighbour k.attribute → known (kept_route reg k) ≡ route_read k
      go (on-ground g c j) = rw (j, c)
      go (on_path path c short j) = rw (j, c, judged_ground (hop_in reg) path k.role)
