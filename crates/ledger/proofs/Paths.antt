-- The tests of a path. Assumes nothing.
use Prim.Native.Nat.{ℕ, ◌≤◌, ◌<◌}
use mathlib.Core.Path.{◌≡◌}
use mathlib.Core.Bool.{true, false, ◌||◌}
use mathlib.Core.List.{List}
use borrow.Author.Tests.{leb-true, le-leb, lt-leb}
use lib.Dec.{eqb, leb}
use lib.ListN.{length, get_or}
use Rattle.types.specs.declared.Role.TheVariants.{RouteServer}
use Rattle.types.specs.Numbers.{role_number}
use Rattle.as_path.specs.Reading.{most_numbers}
use Rattle.keyed.proofs.Orders.{both_left, both_right}
use Rattle.ledger.specs.Routes.{no_zero, no_runs, path_ok}

module _ (role neighbour : ℕ) (l : List ℕ) where
  -- No number.
  pub path_empty : length l < 1 → false ≡ path_ok role neighbour l
  unfolding path_ok
  path_empty h = rw (lt-leb 1 (length l) h)

  module _ (h : 1 ≤ length l) where
    -- Too many numbers.
    pub path_long : most_numbers < length l → false ≡ path_ok role neighbour l
    unfolding path_ok
    path_long k = rw (le-leb 1 (length l) h, lt-leb (length l) most_numbers k)

    module _ (k : length l ≤ most_numbers) where
      -- A zero among them.
      pub path_zero : no_zero l ≡ false → false ≡ path_ok role neighbour l
      unfolding path_ok
      path_zero e = rw (le-leb 1 (length l) h, le-leb (length l) most_numbers k, e)

      -- Two equal ones side by side.
      pub path_run : no_zero l ≡ true → no_runs l ≡ false → false ≡ path_ok role neighbour l
      unfolding path_ok
      path_run e f = rw (le-leb 1 (length l) h, le-leb (length l) most_numbers k, e, f)

      -- Otherwise the role or the first number decides.
      pub path_first : {server : ℕ} → server ≡ role_number RouteServer → no_zero l ≡ true → no_runs l ≡ true
          → (eqb role server || eqb (get_or l 0 0) neighbour) ≡ path_ok role neighbour l
      unfolding path_ok
      path_first q e f = rw (le-leb 1 (length l) h, le-leb (length l) most_numbers k, e, f, q)

module _ (role neighbour : ℕ) (l : List ℕ) (e : path_ok role neighbour l ≡ true) where
  -- A path that keeps the rules has a number.
  pub path_some : 1 ≤ length l
  unfolding path_ok
  path_some = leb-true _ _ (both_left (leb 1 (length l)) _ e)

  -- And not too many.
  pub path_few : length l ≤ most_numbers
  unfolding path_ok
  path_few = leb-true _ _ (both_left (leb (length l) most_numbers) _ (both_right (leb 1 (length l)) _ e))
