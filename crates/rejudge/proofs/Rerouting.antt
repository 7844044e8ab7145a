-- One route judged anew: with a ground it stays, without one it gets its verdict. Assumes nothing.
use Prim.Native.Nat.{ℕ, ◌≤◌}
use mathlib.Core.Path.{◌≡◌, sym, ◌∙◌, ap}
use mathlib.Core.Bool.{Bool, false}
use mathlib.Core.List.{List, []}
use native.Mathlib.Omega.{arith}
use lib.ListN.{length}
use lib.Seq.{set-get_or}
use Rattle.types.specs.Rows.{effect}
use Rattle.rules.specs.Hops.{HopFunction}
use Rattle.verdict.specs.Helpers.{longest_path}
use Rattle.ledger.specs.Routes.{Route, routes_of, route_at}
use Rattle.ledger.specs.Calls.{change_effect}
use Rattle.ledger.specs.Helpers.{RouteIn}
use Rattle.ledger.proofs.Entries.{words_are}
use Rattle.rejudge.specs.Rejudging.{rejudged_route}
use Rattle.rejudge.proofs.Rejudgements.{not_differs, left_alone, some_numbers, few_numbers}

-- What is promised of a route: whether it changed, and the words at the exit.
abbrev pub Promised : HopFunction → List ℕ → ℕ → List ℕ → Bool → Type 0
Promised hop ws i out b = effect b out ≡ change_effect ws i (rejudged_route hop)

module _ {ws : List ℕ} {i : ℕ} (p : RouteIn ws i) where
  -- The route.
  abbrev route : Route
  route = route_at (routes_of ws) i

  -- A route that stays keeps the promise with the words as they are.
  stays : (hop : HopFunction) → rejudged_route hop route ≡ route → Promised hop ws i ws false
  stays hop e =
      rw (e, set-get_or (routes_of ws) i (route_at [] 0), not_differs route) (ap (effect false) (words_are ws p.sound p.size))

  module _ {ground_code : ℕ} (its : ground_code ≡ route.ground_code) where
    -- A ground: nothing is stored.
    pub grounded : (hop : HopFunction) → (ground_code ≡ 0 → ⊥) → Promised hop ws i ws false
    grounded hop k = stays hop (left_alone hop route (λ e. k (its ∙ e)))

    module _ (none : ground_code ≡ 0) {path : List ℕ} (same : path ≡ route.path) where
      -- The path may be judged.
      pub may_judge : (1 ≤ length path) × (length path ≤ longest_path)
      may_judge =
          let l : length path ≡ length route.path = ap length same in
          let short = few_numbers route p.ok (sym its ∙ none) in
          (omega (arith, some_numbers route p.ok (sym its ∙ none)), omega arith)
