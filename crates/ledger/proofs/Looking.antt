-- Look-up by number: the binary search, and whether the route is there. Assumes nothing.
use Prim.Native.Nat.{ℕ, ◌+◌, ◌-◌, ◌≤◌, ◌<◌}
use mathlib.Core.Path.{◌≡◌, sym, ◌∙◌, ap}
use mathlib.Core.Bool.{false, true}
use mathlib.Core.List.{List}
use native.Mathlib.Omega.{arith}
use lib.Dec.{ltb, eqb}
use lib.ListN.{length, get_or}
use Rattle.table.proofs.Sounds.{long}
use Rattle.keyed.specs.Keyed.{holds}
use Rattle.keyed.proofs.Orders.{ordered_ℕ, same_flip}
use Rattle.keyed.proofs.Ranks.{rank_within, holds_not_end, holds_is}
use Rattle.halves.specs.declared.Range.{Range}
use Rattle.halves.specs.Halves.{before_in, Begins, searched_from}
use Rattle.halves.proofs.Positions.{alike, at_rank, first_decides}
use Rattle.halves.proofs.Counts.{under}
use Rattle.halves.proofs.Searches as searches
use Rattle.ledger.specs.Routes.{route_head, route_tail, route_width, slot_at}
use Rattle.ledger.specs.Routes.{most_routes, routes_of, route_at, key_of, position_of, ledger_ok}
use Rattle.ledger.specs.Helpers.{most_steps}
use Rattle.ledger.proofs.Entries.{route_count, number_is, slot_within}
use Rattle.ledger.proofs.Holding.{sound, routes-ok, ordered, has_room, room_routes}

-- ---- a well-formed ledger

module _ (ws : List ℕ) (e : ledger_ok ws ≡ true) where
  -- The two counts are within the words.
  pub head_within : 2 ≤ length ws
  head_within = long route_head route_tail ws (sound ws e)

  -- Word 0 counts the routes.
  pub count_is : get_or ws 0 0 ≡ length (routes_of ws)
  count_is = route_count ws (sound ws e)

  -- There are not too many routes.
  pub few : length (routes_of ws) ≤ most_routes
  few = room_routes (routes_of ws) (has_room (routes_of ws) (routes-ok ws e))

  -- Slot i is within the words.
  pub slot_in : (i : ℕ) → i < length (routes_of ws) → slot_at i + route_width ≤ length ws
  slot_in i h = slot_within ws (sound ws e) i h

  -- The key word of slot i.
  pub key_is : (i : ℕ) → i < length (routes_of ws) → get_or ws (slot_at i) 0 ≡ key_of (route_at (routes_of ws) i)
  key_is i h = number_is ws (sound ws e) i h

  module _ (k : ℕ) where
    -- A position is at most the number of routes.
    pub position_within : position_of k (routes_of ws) ≤ length (routes_of ws)
    unfolding position_of
    position_within = rank_within key_of eqb ltb k (routes_of ws)

    module _ {position n : ℕ} (p : position ≡ position_of k (routes_of ws)) (q : n ≡ get_or ws 0 0) where
      -- Past the last route the ledger does not hold the number.
      pub past : n ≤ position → false ≡ holds key_of eqb ltb k (routes_of ws)
      unfolding position_of
      past h = sym (holds_not_end key_of eqb ltb ordered_ℕ k (routes_of ws) (ordered ws e) (omega (arith, count_is, position_within)))

      module _ (h : position < n) where
        -- The slot at the position is within the words.
        pub there_in : slot_at position + route_width ≤ length ws
        there_in = slot_in position (omega (arith, count_is))

        -- The number at the position decides whether the ledger holds the route.
        pub there : eqb (get_or ws (slot_at position) 0) k ≡ holds key_of eqb ltb k (routes_of ws)
        unfolding position_of
        there =
            let l : position < length (routes_of ws) = omega (arith, count_is) in
            ap (λ x. eqb x k) (key_is position l ∙ ap (λ i. key_of (route_at (routes_of ws) i)) p)
            ∙ same_flip eqb ltb ordered_ℕ (key_of (route_at (routes_of ws) (position_of k (routes_of ws)))) k
            ∙ sym (holds_is key_of eqb ltb ordered_ℕ k (routes_of ws) _ (ordered ws e) (omega (arith, count_is)))

-- ---- the search

module _ (ws : List ℕ) (e : ledger_ok ws ≡ true) (k : ℕ) where
  -- A route's position is where the routes from its number on begin.
  pub begins : Begins (λ i. ltb (key_of (route_at (routes_of ws) i)) k) (length (routes_of ws)) (position_of k (routes_of ws))
  unfolding position_of
  begins = at_rank key_of eqb ltb ordered_ℕ k (routes_of ws) _ (ordered ws e)

  -- The same of the words.
  begins_in : Begins (before_in route_width ws (k, 0)) (get_or ws 0 0) (position_of k (routes_of ws))
  begins_in =
      rw (← count_is ws e) at
      (alike begins (λ i l. ap (λ x. ltb x k) (sym (key_is ws e i l)) ∙ first_decides (get_or ws (slot_at i) 0) (get_or ws (slot_at i + 1) 0) k))

  -- The position that a search answers, and how soon.
  pub finds : {r : Range} → r ≡ searched_from (before_in route_width ws (k, 0)) (get_or ws 0 0) 0 → (r.low ≡ position_of k (routes_of ws)) × (r.steps ≤ most_steps)
  finds q =
      let x = under (get_or ws 0 0 - 0) 9 (omega (arith, count_is ws e, few ws e)) in
      let t = searches.few (before_in route_width ws (k, 0)) (get_or ws 0 0) 0 in
      rw q ((searches.found (before_in route_width ws (k, 0)) (get_or ws 0 0) 0 _ begins_in (omega arith)).0, omega arith)
