-- The laws of a ledger's paths. Assumes nothing.
use Prim.Native.Nat.{ℕ, zero, suc, ◌+◌, ◌<◌}
use mathlib.Core.Path.{◌≡◌, refl, sym}
use mathlib.Core.Bool.{Bool, true, false, not, cond, ◌||◌}
use mathlib.Core.List.{List, [], ◌∷◌}
use mathlib.Core.Logic.{◌⊎◌, inl, inr, ◌↔◌}
use native.Mathlib.Omega.{arith}
use native.Mathlib.Numerals.{add-one}
use borrow.Author.Tests.{le-leb, eqb-true, eqb-false, eq-eqb, ne_eqb, not-true}
use lib.Dec.{eqb, leb}
use lib.ListN.{length, get_or}
use Rattle.types.specs.Roles.{is_route_server}
use Rattle.as_path.specs.Merging.{merge_runs}
use Rattle.as_path.specs.Reading.{most_numbers}
use Rattle.as_path.proofs.MergedPaths.{merged_no_runs}
use Rattle.as_path.proofs.Laws.{path_laws}
use Rattle.keyed.proofs.Orders.{both_left, both_right, both_intro}
use Rattle.keyed.proofs.Finds.{every_at}
use Rattle.ledger.specs.Routes.{Route, routes_of, route_at, no_zero, no_repeat, no_runs, path_ok, ground_ok, route_ok, ledger_ok}
use Rattle.ledger.specs.Laws.{PathRules, RouteLaws}
use Rattle.ledger.proofs.Paths.{path_some, path_few}
use Rattle.ledger.proofs.Holding.{each_ok, routes-ok, rules_by_ground}

-- ---- a path, by its numbers

zeros_at : (l : List ℕ) → no_zero l ≡ true → (i : ℕ) → i < length l → get_or l i 0 ≡ 0 → ⊥
unfolding no_zero
zeros_at [] e i h = absurd (omega arith)
zeros_at (x ∷ l) e zero h = eqb-false x 0 (not-true _ (both_left _ _ e))
zeros_at (x ∷ l) e (suc i) h = zeros_at l (both_right (not (eqb x 0)) _ e) i (omega arith)

at_zeros : (l : List ℕ) → ((i : ℕ) → i < length l → get_or l i 0 ≡ 0 → ⊥) → no_zero l ≡ true
unfolding no_zero
at_zeros [] f = refl
at_zeros (x ∷ l) f = rw (ne_eqb x 0 (f 0 (omega arith))) (at_zeros l (λ i h. f (suc i) (omega arith)))

repeats_at : (x : ℕ) (l : List ℕ) → no_repeat x l ≡ true → (i : ℕ) → i < length l → get_or (x ∷ l) i 0 ≡ get_or l i 0 → ⊥
unfolding no_repeat
repeats_at x [] e i h q = absurd (omega arith)
repeats_at x (y ∷ l) e zero h q = eqb-false y x (not-true _ (both_left _ _ e)) (sym q)
repeats_at x (y ∷ l) e (suc i) h q = repeats_at y l (both_right (not (eqb y x)) _ e) i (omega arith) q

at_repeats : (x : ℕ) (l : List ℕ) → ((i : ℕ) → i < length l → get_or (x ∷ l) i 0 ≡ get_or l i 0 → ⊥) → no_repeat x l ≡ true
unfolding no_repeat
at_repeats x [] f = refl
at_repeats x (y ∷ l) f = rw (ne_eqb y x (λ q. f 0 (omega arith) (sym q))) (at_repeats y l (λ i h. f (suc i) (omega arith)))

runs_at : (l : List ℕ) → no_runs l ≡ true → (i : ℕ) → i + 1 < length l → get_or l i 0 ≡ get_or l (i + 1) 0 → ⊥
unfolding no_runs
runs_at [] e i h q = absurd (omega arith)
runs_at (x ∷ l) e i h q = repeats_at x l e i (omega arith) (rw (add-one i) at q)

at_runs : (l : List ℕ) → ((i : ℕ) → i + 1 < length l → get_or l i 0 ≡ get_or l (i + 1) 0 → ⊥) → no_runs l ≡ true
unfolding no_runs
at_runs [] f = refl
at_runs (x ∷ l) f = at_repeats x l (λ i h. rw (add-one i) at (f i (omega arith)))

left_by_merging : (l : List ℕ) → (no_runs l ≡ true) ↔ (merge_runs l ≡ l)
left_by_merging l = ((λ e. path_laws.left_alone l (runs_at l e)), (λ e. at_runs l (rw e at (merged_no_runs l))))

path_rules : (role neighbour : ℕ) (path : List ℕ) → (path_ok role neighbour path ≡ true) ↔ PathRules role neighbour path
unfolding path_ok
path_rules role neighbour path = (to, from)
  where
    either : (a : Bool) → is_route_server role ≡ a → (a || eqb (get_or path 0 0) neighbour) ≡ true → (is_route_server role ≡ true) ⊎ (get_or path 0 0 ≡ neighbour)
    either true p e = inl p
    either false p e = inr (eqb-true _ _ e)

    to : path_ok role neighbour path ≡ true → PathRules role neighbour path
    to e =
        let z = both_right (leb (length path) most_numbers) _ (both_right (leb 1 (length path)) _ e) in
        let r = both_right (no_zero path) _ z in
        record {
          some = path_some role neighbour path e;
          few = path_few role neighbour path e;
          no-zero = zeros_at path (both_left _ _ z);
          no-runs = runs_at path (both_left _ _ r);
          first = either (is_route_server role) refl (both_right (no_runs path) _ r);
        }

    is_first : (is_route_server role ≡ true) ⊎ (get_or path 0 0 ≡ neighbour) → (is_route_server role || eqb (get_or path 0 0) neighbour) ≡ true
    is_first (inl p) = rw p
    is_first (inr q) = rw (eq-eqb _ _ q) (or-true (is_route_server role))
      where
        or-true : (a : Bool) → (a || true) ≡ true
        or-true true = refl
        or-true false = refl

    from : PathRules role neighbour path → path_ok role neighbour path ≡ true
    from g =
        both_intro _ _ (le-leb 1 (length path) g.some)
        (both_intro _ _ (le-leb (length path) most_numbers g.few)
        (both_intro _ _ (at_zeros path g.no-zero)
        (both_intro _ _ (at_runs path g.no-runs) (is_first g.first))))

-- ---- two equal numbers side by side

-- On the path of a route that keeps the rules there are none.
apart : (r : Route) → route_ok r ≡ true → (j : ℕ) → j + 1 < length r.path → get_or r.path j 0 ≡ get_or r.path (j + 1) 0 → ⊥
unfolding ground_ok
apart r ok j h q = go (eqb r.ground_code 0) (rules_by_ground r ok)
  where
    go : (b : Bool) → cond b (path_ok r.role r.neighbour r.path) (ground_ok r) ≡ true → ⊥
    go true e = ((path_rules r.role r.neighbour r.path).0 e).no-runs j h q
    go false e = let z : length r.path ≡ 0 = eqb-true _ _ (both_left _ _ e) in omega arith

pub rules_apart : (r : Route) → route_ok r ≡ true → no_runs r.path ≡ true
rules_apart r ok = at_runs r.path (apart r ok)

side_by_side : (ws : List ℕ) (i j : ℕ) → i < length (routes_of ws) → j + 1 < length (route_at (routes_of ws) i).path
    → get_or (route_at (routes_of ws) i).path j 0 ≡ get_or (route_at (routes_of ws) i).path (j + 1) 0 → ledger_ok ws ≡ false
side_by_side ws i j h k q = go (ledger_ok ws) refl
  where
    go : (b : Bool) → ledger_ok ws ≡ b → b ≡ false
    go false e = refl
    go true e = absurd (apart (route_at (routes_of ws) i) (every_at route_ok (routes_of ws) _ (each_ok (routes_of ws) (routes-ok ws e)) i h) j k q)

pub route_laws : RouteLaws
route_laws = record { path_rules = path_rules; left_by_merging = left_by_merging; side_by_side = side_by_side }
