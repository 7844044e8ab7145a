-- Each call is refused by the first of its rows that is given, and by no other; a refusal leaves the words. Assumes nothing.
use Prim.Native.Nat.{ℕ}
use mathlib.Core.Path.{◌≡◌, refl}
use mathlib.Core.Bool.{true, not}
use mathlib.Core.Logic.{◌↔◌}
use mathlib.Core.List.{List, [], ◌∷◌}
use native.Mathlib.Omega.{arith}
use borrow.Author.Tests.{not-false}
use lib.Dec.{eqb}
use lib.ListN.{length}
use Rattle.types.specs.declared.Refusal.{Refusal}
use Rattle.types.specs.declared.Refusal.TheVariants.{TableLength, RoutesMalformed, RouteTaken, NoRoute, RoutesFull}
use Rattle.types.specs.Rows.{first_given, effect, unless_refused, FirstAt, Numbered}
use Rattle.types.proofs.Refusing.{row_passed, accepted_none, answers_first, refusal_leaves, numbered}
use Rattle.ledger.specs.Routes.{ledger_words, Route, routes_of, ledger_of, route_ok, room_for, routes_ok, ledger_ok}
use Rattle.ledger.specs.Calls.{holds_route, put_route, erase_route, store_rows, store_effect, drop_rows, drop_effect}
use Rattle.ledger.proofs.Entries.{words_long}
use Rattle.ledger.proofs.Holding.{room_routes, room_paths, has_room, words_ok, routes-ok}
use Rattle.ledger.proofs.Changes.{put_ok, without_ok}
use Rattle.std.specs.Prelude.{Err, None, Ok, Option, Some}

-- ---- exactly when a call is refused, and what a refusal leaves

module _ (ws : List ℕ) (route : Route) (r : Refusal) where
  -- A store answers a refusal exactly when that is the first of its rows that is given.
  pub store_refuses : ((store_effect ws route).answer ≡ Err r) ↔ ((i : ℕ) × FirstAt (store_rows ws route) i r)
  unfolding store_effect
  store_refuses = answers_first (store_rows ws route) ws _ _ r

  -- Refused, it leaves the words.
  pub store_leaves : (store_effect ws route).answer ≡ Err r → (store_effect ws route).words ≡ ws
  unfolding store_effect
  store_leaves = refusal_leaves (store_rows ws route) ws _ _ r

module _ (ws : List ℕ) (number : ℕ) (r : Refusal) where
  -- A drop answers a refusal exactly when that is the first of its rows that is given.
  pub drop_refuses : ((drop_effect ws number).answer ≡ Err r) ↔ ((i : ℕ) × FirstAt (drop_rows ws number) i r)
  unfolding drop_effect
  drop_refuses = answers_first (drop_rows ws number) ws _ _ r

  -- Refused, it leaves the words.
  pub drop_leaves : (drop_effect ws number).answer ≡ Err r → (drop_effect ws number).words ≡ ws
  unfolding drop_effect
  drop_leaves = refusal_leaves (drop_rows ws number) ws _ _ r

-- ---- the rows in the order of their numbers

-- Storing: rows 18 and 20.
pub store_numbers : (ws : List ℕ) (r : Route) → Numbered (store_rows ws r) (18 ∷ 20 ∷ [])
store_numbers ws r = (
  numbered (holds_route r.number (routes_of ws)) RouteTaken,
  (numbered (not (room_for (put_route r (routes_of ws)))) RoutesFull, tt),
)

-- Drop: rows 1, 3 and 19.
pub drop_numbers : (ws : List ℕ) (number : ℕ) → Numbered (drop_rows ws number) (1 ∷ 3 ∷ 19 ∷ [])
drop_numbers ws number = (
  numbered (not (eqb (length ws) ledger_words)) TableLength,
  (numbered (not (ledger_ok ws)) RoutesMalformed, (numbered (not (holds_route number (routes_of ws))) NoRoute, tt)),
)

-- ---- accepted calls

-- A ledger of the right length that keeps the word rules.
pub record Ledger (ws : List ℕ) : Type 0 where
  pub long : length ws ≡ ledger_words
  pub ok : ledger_ok ws ≡ true

-- Routes that keep the rules are written as one.
pub routes_ledger : (rs : List Route) → routes_ok rs ≡ true → Ledger (ledger_of rs)
routes_ledger rs e =
    let room = has_room rs e in
    record { long = words_long rs (room_routes rs room) (room_paths rs room); ok = words_ok rs e }

module _ (ws : List ℕ) (w : Ledger ws) where
  -- Storing a route that keeps the rules leaves a well-formed ledger well formed.
  pub store_preserves : (r : Route) → route_ok r ≡ true → Ledger (store_effect ws r).words
  unfolding store_effect
  store_preserves r good = go (first_given (store_rows ws r)) refl
    where
      go : (o : Option Refusal) → first_given (store_rows ws r) ≡ o
          → Ledger (unless_refused o ws (effect (Ok (tt {0})) (ledger_of (put_route r (routes_of ws))))).words
      go (Some _) e = w
      go None e =
          let room = not-false _ (row_passed _ _ (accepted_none (store_rows ws r) e 1)) in
          routes_ledger (put_route r (routes_of ws)) (put_ok (routes_of ws) (routes-ok ws w.ok) r good room)

  -- Drop leaves a well-formed ledger well formed.
  pub drop_preserves : (number : ℕ) → Ledger (drop_effect ws number).words
  unfolding drop_effect
  drop_preserves number = go (first_given (drop_rows ws number))
    where
      go : (o : Option Refusal)
          → Ledger (unless_refused o ws (effect (Ok (tt {0})) (ledger_of (erase_route number (routes_of ws))))).words
      go (Some _) = w
      go None = routes_ledger (erase_route number (routes_of ws)) (without_ok (routes_of ws) (routes-ok ws w.ok) (eqb number))
