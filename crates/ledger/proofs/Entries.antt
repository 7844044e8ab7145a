-- A ledger's words and its routes: what each word says. Assumes nothing.
use Prim.Native.Nat.{ℕ, suc, ◌+◌, ◌≤◌, ◌<◌}
use mathlib.Core.Path.{◌≡◌, refl, sym, ◌∙◌, ap}
use mathlib.Core.Bool.{true}
use mathlib.Core.List.{List, [], ◌∷◌, map}
use native.Mathlib.Omega.{arith}
use lib.ListN.{length, get_or, take, drop}
use Rattle.table.specs.Table.{decode, Wide, Sound, well_formed}
use Rattle.table.proofs.Sounds.{nth}
use Rattle.table.proofs.Typed
use Rattle.table.proofs.Typed.{Typing, no_words}
use Rattle.ledger.specs.Routes.{route_head, route_tail, route_width, slot_at, role_word, neighbour_word, ground_word, verdict_word, a_word, b_word, start_word, count_word}
use Rattle.ledger.specs.Routes.{ledger_words, most_routes, most_path_words, Route, route_of, entry_of, routes_of, ledger_of, route_at, path_words}

-- ---- entries and routes

-- The seven head words.
seven_words : (l : List ℕ) → length l ≡ route_head
    → l ≡ get_or l 0 0 ∷ get_or l 1 0 ∷ get_or l 2 0 ∷ get_or l 3 0 ∷ get_or l 4 0 ∷ get_or l 5 0 ∷ get_or l 6 0 ∷ []
seven_words [] e = absurd (omega arith)
seven_words (p ∷ []) e = absurd (omega arith)
seven_words (p ∷ q ∷ []) e = absurd (omega arith)
seven_words (p ∷ q ∷ r ∷ []) e = absurd (omega arith)
seven_words (p ∷ q ∷ r ∷ s ∷ []) e = absurd (omega arith)
seven_words (p ∷ q ∷ r ∷ s ∷ t ∷ []) e = absurd (omega arith)
seven_words (p ∷ q ∷ r ∷ s ∷ t ∷ u ∷ []) e = absurd (omega arith)
seven_words (p ∷ q ∷ r ∷ s ∷ t ∷ u ∷ v ∷ []) e = refl
seven_words (p ∷ q ∷ r ∷ s ∷ t ∷ u ∷ v ∷ w ∷ l) e = absurd (omega arith)

-- Routes are entries of seven head words and no tail.
pub typing : Typing route_head route_tail entry_of route_of
typing = record {
  wide = λ r. (refl, refl);
  back = λ r. refl;
  forth = λ e p q. λ i. record { head = sym (seven_words e.head p) i; body = e.body; tail = sym (no_words e.tail q) i };
}

-- Entries of routes are seven head words wide.
pub entries_wide : (rs : List Route) → Wide route_head route_tail (map entry_of rs)
entries_wide = Typed.entries_wide typing

-- The numbers in the paths before i, and in those before i + 1.
pub paths_next : (rs : List Route) (i : ℕ) → i < length rs → path_words (take (suc i) rs) ≡ path_words (take i rs) + length (route_at rs i).path
unfolding path_words
paths_next rs i h = Typed.bodied_next entry_of rs (route_at [] 0) i h

-- No more numbers in the first paths than in all.
pub paths_take : (rs : List Route) (i : ℕ) → path_words (take i rs) ≤ path_words rs
unfolding path_words
paths_take rs i = Typed.bodied_take entry_of rs i

module _ (rs : List Route) (h : length rs ≤ most_routes) (k : path_words rs ≤ most_path_words) where
  -- Routes within both limits fit into a ledger.
  pub routes_fit : slot_at (length rs) + Typed.bodied entry_of rs ≤ ledger_words
  unfolding path_words
  routes_fit = omega arith

  -- What is written is read back.
  pub routes_of_words : routes_of (ledger_of rs) ≡ rs
  unfolding routes_of ledger_of
  routes_of_words = Typed.records_of_words typing ledger_words rs routes_fit

  -- A ledger has its length.
  pub words_long : length (ledger_of rs) ≡ ledger_words
  unfolding ledger_of
  words_long = Typed.words_long typing ledger_words rs routes_fit

  -- What is written is well-formed.
  pub words_formed : well_formed route_head route_tail (ledger_of rs) ≡ true
  unfolding ledger_of
  words_formed = Typed.words_formed typing ledger_words rs routes_fit

module _ (ws : List ℕ) (s : Sound route_head route_tail ws) where
  -- The entries are those of the routes.
  pub decoded : decode route_head route_tail ws ≡ map entry_of (routes_of ws)
  unfolding routes_of
  decoded = Typed.decoded typing ws s

  -- There are as many routes as entries.
  pub length_routes : length (routes_of ws) ≡ length (decode route_head route_tail ws)
  unfolding routes_of
  length_routes = Typed.length_records typing ws s

  -- A ledger's words are those of its routes.
  pub words_are : length ws ≡ ledger_words → ws ≡ ledger_of (routes_of ws)
  unfolding ledger_of routes_of
  words_are = Typed.words_are typing ws s ledger_words

  -- Word 0 counts the routes.
  pub route_count : get_or ws 0 0 ≡ length (routes_of ws)
  unfolding routes_of
  route_count = Typed.count-word typing ws s

  -- Word 1 counts the numbers in their paths.
  pub path_count : get_or ws 1 0 ≡ path_words (routes_of ws)
  unfolding routes_of path_words
  path_count = Typed.bodies_word typing ws s

  -- Route i is read from entry i.
  pub route_is : (i : ℕ) → route_at (routes_of ws) i ≡ route_of (nth i (decode route_head route_tail ws))
  unfolding routes_of
  route_is = Typed.record_is typing ws s

  module _ (i : ℕ) (h : i < length (routes_of ws)) where
    -- Slot i lies within the words.
    pub slot_within : slot_at i + route_width ≤ length ws
    unfolding routes_of
    slot_within = Typed.slot_within typing ws s i h

    -- The first word of slot i is the number.
    pub number_is : get_or ws (slot_at i) 0 ≡ (route_at (routes_of ws) i).number
    unfolding routes_of
    number_is = Typed.first_word typing ws s i h (omega arith)

    -- The second is the role.
    pub role_is : get_or ws (slot_at i + role_word) 0 ≡ (route_at (routes_of ws) i).role
    unfolding routes_of
    role_is = Typed.head_word typing ws s i h role_word (omega arith)

    -- The third is the neighbour.
    pub neighbour_is : get_or ws (slot_at i + neighbour_word) 0 ≡ (route_at (routes_of ws) i).neighbour
    unfolding routes_of
    neighbour_is = Typed.head_word typing ws s i h neighbour_word (omega arith)

    -- The fourth is the ground.
    pub ground_is : get_or ws (slot_at i + ground_word) 0 ≡ (route_at (routes_of ws) i).ground_code
    unfolding routes_of
    ground_is = Typed.head_word typing ws s i h ground_word (omega arith)

    -- The fifth is the verdict.
    pub verdict_is : get_or ws (slot_at i + verdict_word) 0 ≡ (route_at (routes_of ws) i).verdict
    unfolding routes_of
    verdict_is = Typed.head_word typing ws s i h verdict_word (omega arith)

    -- The sixth is the place a.
    pub a_is : get_or ws (slot_at i + a_word) 0 ≡ (route_at (routes_of ws) i).a
    unfolding routes_of
    a_is = Typed.head_word typing ws s i h a_word (omega arith)

    -- The seventh is the place b.
    pub b_is : get_or ws (slot_at i + b_word) 0 ≡ (route_at (routes_of ws) i).b
    unfolding routes_of
    b_is = Typed.head_word typing ws s i h b_word (omega arith)

    -- The eighth counts the numbers in the paths before it.
    pub path_start : get_or ws (slot_at i + start_word) 0 ≡ path_words (take i (routes_of ws))
    unfolding routes_of path_words
    path_start = Typed.start-word typing ws s i h

    -- The ninth counts those in its own.
    pub path_length : get_or ws (slot_at i + count_word) 0 ≡ length (route_at (routes_of ws) i).path
    unfolding routes_of
    path_length = ap (λ k. get_or ws k 0) (omega arith) ∙ Typed.length_word typing ws s i h

    -- A route's path, as the part of the words that it is.
    pub path_is :
        take (length (route_at (routes_of ws) i).path) (drop (slot_at (length (routes_of ws)) + path_words (take i (routes_of ws))) ws)
        ≡ (route_at (routes_of ws) i).path
    unfolding routes_of path_words
    path_is = Typed.body_part typing ws s i h

    -- It ends within the words.
    pub path_within : slot_at (length (routes_of ws)) + path_words (take i (routes_of ws)) + length (route_at (routes_of ws) i).path ≤ length ws
    unfolding routes_of path_words
    path_within = Typed.body_within typing ws s i h
