-- What the documents say of a ledger's paths, as statements. proofs/Laws.antt has the proof.
use Rattle.std.specs.Prelude.{ℕ, ◌+◌, ◌≤◌, ◌<◌, ◌≡◌, true, false, List, ◌⊎◌, ◌↔◌, length, get_or}
use Rattle.types.specs.Roles.{is_route_server}
use Rattle.as_path.specs.Merging.{merge_runs}
use Rattle.as_path.specs.Reading.{most_numbers}
use Rattle.ledger.specs.Routes.{routes_of, route_at, no_runs, path_ok, ledger_ok}

-- The rules of a path, by its numbers.
pub record PathRules (role neighbour : ℕ) (path : List ℕ) : Type 0 where
  pub some : 1 ≤ length path
  pub few : length path ≤ most_numbers
  pub no-zero : (i : ℕ) → i < length path → get_or path i 0 ≡ 0 → ⊥
  pub no-runs : (i : ℕ) → i + 1 < length path → get_or path i 0 ≡ get_or path (i + 1) 0 → ⊥
  pub first : (is_route_server role ≡ true) ⊎ (get_or path 0 0 ≡ neighbour)

pub record RouteLaws : Type 0 where
  -- A path passes exactly by these rules.
  pub path_rules : (role neighbour : ℕ) (path : List ℕ) → (path_ok role neighbour path ≡ true) ↔ PathRules role neighbour path
  -- The clause on equal neighbours passes just the lists that merging leaves as they are.
  pub left_by_merging : (l : List ℕ) → (no_runs l ≡ true) ↔ (merge_runs l ≡ l)
  -- Words with a route in whose path two equal numbers stand side by side are no ledger, whatever else they hold.
  pub side_by_side : (ws : List ℕ) (i j : ℕ) → i < length (routes_of ws) → j + 1 < length (route_at (routes_of ws) i).path
      → get_or (route_at (routes_of ws) i).path j 0 ≡ get_or (route_at (routes_of ws) i).path (j + 1) 0 → ledger_ok ws ≡ false
