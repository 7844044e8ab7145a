-- All routes judged anew, one after another: each turn of the loop. Assumes nothing.
use Prim.Native.Nat.{ℕ, zero, suc, ◌+◌, ◌≤◌, ◌<◌}
use mathlib.Core.Path.{◌≡◌, refl, sym, ◌∙◌, ap}
use mathlib.Core.Bool.{Bool, true, false, cond}
use mathlib.Core.List.{List, [], ◌∷◌, ◌++◌, map}
use native.Mathlib.Omega.{arith}
use native.Mathlib.Numerals.{add-one}
use lib.ListN.{length, drop, set, length-map, drop_of_length-le}
use lib.Seq.{drop-cons}
use Rattle.types.specs.Rows.{effect}
use Rattle.table.specs.Table.{bodies, Sound}
use Rattle.table.proofs.Exact.{length_encode, passes_sound}
use Rattle.keyed.proofs.Finds.{every_at}
use Rattle.rules.specs.Hops.{HopFunction}
use Rattle.ledger.specs.Routes.{ledger_words, route_head, route_tail, most_routes, most_path_words, Route, entry_of, routes_of, ledger_of, route_at, path_words, route_ok, ledger_ok}
use Rattle.ledger.specs.Calls.{differs, count_differing}
use Rattle.ledger.proofs.Entries.{entries_wide, routes_fit, routes_of_words, words_formed, words_are}
use Rattle.ledger.proofs.Holding.{sound, routes-ok, has_room, room_paths, each_ok}
use Rattle.ledger.proofs.Looking.{few}
use Rattle.ledger.specs.Helpers.{RouteIn}
use Rattle.rejudge.specs.Rejudging.{rejudged_effect}
use Rattle.rejudge.proofs.Rerouting.{Promised}
use Rattle.rejudge.proofs.Rejudgements.{anew, path_stays}

-- ---- some routes judged anew

module _ (hop : HopFunction) where
  -- The first i routes judged anew.
  unfoldable pub first_anew : ℕ → List Route → List Route
  first_anew zero rs = rs
  first_anew (suc i) [] = []
  first_anew (suc i) (r ∷ rs) = anew hop r ∷ first_anew i rs

  -- There are as many.
  first_length : (i : ℕ) (rs : List Route) → length (first_anew i rs) ≡ length rs
  unfolding first_anew
  first_length zero rs = refl
  first_length (suc i) [] = refl
  first_length (suc i) (r ∷ rs) = ap suc (first_length i rs)

  -- Their paths are the same.
  first_paths : (i : ℕ) (rs : List Route) → path_words (first_anew i rs) ≡ path_words rs
  unfolding path_words first_anew bodies
  first_paths i rs = ap length (go i rs)
    where
      go : (i : ℕ) (rs : List Route) → bodies (map entry_of (first_anew i rs)) ≡ bodies (map entry_of rs)
      go zero rs = refl
      go (suc i) [] = refl
      go (suc i) (r ∷ rs) = λ q. path_stays hop r q ++ go i rs q

  -- The next one is as it was.
  first_at : (i : ℕ) (rs : List Route) → route_at (first_anew i rs) i ≡ route_at rs i
  unfolding first_anew
  first_at zero rs = refl
  first_at (suc i) [] = refl
  first_at (suc i) (r ∷ rs) = first_at i rs

  -- That one too judged anew.
  first_next : (i : ℕ) (rs : List Route) → set (first_anew i rs) i (anew hop (route_at rs i)) ≡ first_anew (suc i) rs
  unfolding first_anew
  first_next zero [] = refl
  first_next zero (r ∷ rs) = refl
  first_next (suc i) [] = refl
  first_next (suc i) (r ∷ rs) = ap (λ l. anew hop r ∷ l) (first_next i rs)

  -- All of them.
  first_all : (i : ℕ) (rs : List Route) → length rs ≤ i → first_anew i rs ≡ map (anew hop) rs
  unfolding first_anew
  first_all zero [] h = refl
  first_all zero (r ∷ rs) h = absurd (omega arith)
  first_all (suc i) [] h = refl
  first_all (suc i) (r ∷ rs) h = ap (λ l. anew hop r ∷ l) (first_all i rs (omega arith))

  -- How many of the routes from i on change.
  abbrev pub changes : ℕ → List Route → ℕ
  changes i rs = count_differing (drop i rs) (map (anew hop) (drop i rs))

  -- One route less is left.
  changes_next : (i : ℕ) (rs : List Route) → i < length rs
      → changes i rs ≡ cond (differs (route_at rs i) (anew hop (route_at rs i))) (suc (changes (suc i) rs)) (changes (suc i) rs)
  unfolding count_differing
  changes_next i rs h = ap (λ l. count_differing l (map (anew hop) l)) (drop-cons rs i (route_at [] 0) h)

  -- None is left.
  changes_end : (i : ℕ) (rs : List Route) → length rs ≤ i → changes i rs ≡ 0
  unfolding count_differing
  changes_end i rs h = rw (drop_of_length-le rs h)

-- ---- words

-- Words of routes within both limits are a ledger that holds them.
record Held (ws : List ℕ) (rs : List Route) : Type 0 where
  sound : Sound route_head route_tail ws
  size : length ws ≡ ledger_words
  routes : routes_of ws ≡ rs

held : (rs : List Route) → length rs ≤ most_routes → path_words rs ≤ most_path_words → Held (ledger_of rs) rs
unfolding ledger_of
held rs h k =
    record {
      sound = passes_sound route_head route_tail (ledger_of rs) (words_formed rs h k);
      size = length_encode route_head route_tail ledger_words (map entry_of rs) (entries_wide rs) (rw (length-map rs entry_of) (routes_fit rs h k));
      routes = routes_of_words rs h k;
    }

-- A ledger's paths keep their limit.
short_paths : (ws : List ℕ) → ledger_ok ws ≡ true → path_words (routes_of ws) ≤ most_path_words
short_paths ws e = room_paths (routes_of ws) (has_room (routes_of ws) (routes-ok ws e))

-- ---- the loop

-- The first i routes are judged anew; those that changed and those that will are all that change.
pub record Turned (hop : HopFunction) (start : List ℕ) (n : ℕ) (ws : List ℕ) (changed i : ℕ) : Type 0 where
  pub long : length start ≡ ledger_words
  pub ok : ledger_ok start ≡ true
  pub count : n ≡ length (routes_of start)
  pub within : i ≤ n
  pub small : n ≤ most_routes
  pub fewer : changed ≤ i
  pub words : ws ≡ ledger_of (first_anew hop i (routes_of start))
  pub sum : changed + changes hop i (routes_of start) ≡ changes hop 0 (routes_of start)

-- Before the first turn.
pub turns : (hop : HopFunction) (start : List ℕ) {n : ℕ} → length start ≡ ledger_words → ledger_ok start ≡ true → n ≡ length (routes_of start)
    → Turned hop start n start 0 0
unfolding first_anew
turns hop start long ok e =
    record {
      long = long;
      ok = ok;
      count = e;
      within = omega arith;
      small = omega (arith, e, few start ok);
      fewer = omega arith;
      words = words_are start (sound start ok) long;
      sum = omega arith;
    }

module _ {hop : HopFunction} {start ws : List ℕ} {n changed i : ℕ} (t : Turned hop start n ws changed i) where
  abbrev routes : List Route
  routes = routes_of start

  -- The words hold the routes of this turn.
  holding : Held ws (first_anew hop i routes)
  holding =
      rw t.words (held (first_anew hop i routes)
      (omega (arith, first_length hop i routes, few start t.ok)) (omega (arith, first_paths hop i routes, short_paths start t.ok)))

  -- They are as many as at the entry.
  pub same_size : length ws ≡ length start
  same_size = holding.size ∙ sym t.long

  -- After the last turn.
  pub turned_all : n ≤ i → effect changed ws ≡ rejudged_effect hop start
  turned_all h =
      let l : length routes ≤ i = omega (arith, t.count) in
      let all : changed ≡ changes hop 0 routes = omega (arith, t.sum, changes_end hop i routes l) in
      let words : ws ≡ ledger_of (map (anew hop) routes) = t.words ∙ ap ledger_of (first_all hop i routes l) in
      λ z. effect (all z) (words z)

  module _ (h : i < n) where
    -- Route i is one of the routes.
    inside : i < length routes
    inside = omega (arith, t.count)

    -- Route i may be judged anew.
    pub may_turn : RouteIn ws i
    may_turn =
        record {
          sound = holding.sound;
          size = holding.size;
          within = rw (holding.routes, first_length hop i routes) inside;
          ok = rw (holding.routes, first_at hop i routes) (every_at route_ok routes (route_at [] 0) (each_ok _ (routes-ok start t.ok)) i inside);
        }

    module _ {out : List ℕ} {b : Bool} (q : Promised hop ws i out b) where
      -- The words of the next turn.
      next_words : out ≡ ledger_of (first_anew hop (i + 1) routes)
      next_words =
          ap (λ s. s.words) q
          ∙ ap (λ l. ledger_of (set l i (anew hop (route_at l i)))) holding.routes
          ∙ ap (λ r. ledger_of (set (first_anew hop i routes) i (anew hop r))) (first_at hop i routes)
          ∙ ap ledger_of (first_next hop i routes)
          ∙ ap (λ k. ledger_of (first_anew hop k routes)) (sym (add-one i))

      -- Whether route i differs.
      tells : b ≡ differs (route_at routes i) (anew hop (route_at routes i))
      tells = ap (λ s. s.answer) q ∙ ap (λ r. differs r (anew hop r)) (ap (λ l. route_at l i) holding.routes ∙ first_at hop i routes)

      -- What is left, counted with route i.
      left_is : changes hop i routes ≡ cond b (suc (changes hop (i + 1) routes)) (changes hop (i + 1) routes)
      left_is = rw (tells, add-one i) (changes_next hop i routes inside)

      -- It changed.
      pub turns_changed : b ≡ true → Turned hop start n out (changed + 1) (i + 1)
      turns_changed e =
          let l : changes hop i routes ≡ suc (changes hop (i + 1) routes) = rw e at left_is in
          record {
            long = t.long;
            ok = t.ok;
            count = t.count;
            within = omega arith;
            small = t.small;
            fewer = omega (arith, t.fewer);
            words = next_words;
            sum = omega (arith, t.sum);
          }

      -- It did not change.
      pub turns_same : b ≡ false → Turned hop start n out changed (i + 1)
      turns_same e =
          let l : changes hop i routes ≡ changes hop (i + 1) routes = rw e at left_is in
          record {
            long = t.long;
            ok = t.ok;
            count = t.count;
            within = omega arith;
            small = t.small;
            fewer = omega (arith, t.fewer);
            words = next_words;
            sum = omega (arith, t.sum);
          }
