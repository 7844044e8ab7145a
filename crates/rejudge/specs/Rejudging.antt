-- A kept route judged anew ("The calls", Re-judge).
use Rattle.std.specs.Prelude.{ℕ, zero, suc, Bool, cond, List, map, eqb}
use Rattle.types.specs.Numbers.{verdict_of}
use Rattle.types.specs.Rows.{Effect}
use Rattle.rules.specs.Hops.{HopFunction}
use Rattle.rules.specs.Verdicts.{judged}
use Rattle.ledger.specs.Routes.{Route, routes_of, ledger_of}
use Rattle.ledger.specs.Calls.{stamped, count_differing}

-- A route without a ground gets the verdict and places of its role and path; another stays.
abbrev pub rejudged_route : HopFunction → Route → Route
rejudged_route hop r = cond (eqb r.ground_code 0) (stamped (verdict_of (judged hop r.path r.role)) r) r

-- Every route judged anew: how many changed, and the ledger with them.
abbrev pub rejudged_effect : HopFunction → List ℕ → Effect ℕ
rejudged_effect hop ws =
    record {
      answer = count_differing (routes_of ws) (map (rejudged_route hop) (routes_of ws));
      words = ledger_of (map (rejudged_route hop) (routes_of ws));
    }

-- How many of the indices below n pass a test.
unfoldable pub count_below : (ℕ → Bool) → ℕ → ℕ
count_below p zero = 0
count_below p (suc n) = cond (p n) (suc (count_below p n)) (count_below p n)
