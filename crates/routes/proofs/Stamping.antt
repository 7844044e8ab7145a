-- A verdict stored in a route's slot: the ledger of the routes with that one stamped. Assumes nothing.
use Prim.Native.Nat.{ℕ, zero, suc, ◌+◌, ◌≤◌, ◌<◌}
use mathlib.Core.Path.{◌≡◌, refl, sym, ◌∙◌, ap, subst}
use mathlib.Core.Bool.{Bool}
use mathlib.Core.List.{List, [], ◌∷◌, map}
use native.Mathlib.Omega.{arith}
use lib.ListN.{length, set, length-set}
use lib.Seq.{get_or-set_same, set-set}
use Rattle.types.specs.declared.Verdict.{Verdict}
use Rattle.types.specs.Numbers.{verdict_number, place_a, place_b}
use Rattle.types.specs.Rows.{effect}
use Rattle.table.specs.Table.{Entry, decode, Sound}
use Rattle.table.proofs.Sounds.{nth, wide_at}
use Rattle.table.proofs.Setting.{with_head, set_head_sound}
use Rattle.ledger.specs.Routes.{route_head, route_tail, route_width, slot_at, verdict_word, a_word, b_word}
use Rattle.ledger.specs.Routes.{Route, route_of, entry_of, routes_of, ledger_of, route_at}
use Rattle.ledger.specs.Calls.{stamped, differs, change_effect}
use Rattle.ledger.proofs.Entries.{typing, route_is, length_routes, words_are, slot_within}
use Rattle.ledger.specs.Helpers.{RouteIn}

-- Words hold the routes of others, with route i another one.
pub record Stored (ws : List ℕ) (i : ℕ) (r : Route) (out : List ℕ) : Type 0 where
  pub sound : Sound route_head route_tail out
  pub size : length out ≡ length ws
  pub routes : routes_of out ≡ set (routes_of ws) i r

-- A route with head word j another one.
abbrev with_word : Route → ℕ → ℕ → Route
with_word r j x = route_of (with_head (entry_of r) (set (entry_of r).head j x))

-- A list with one changed, mapped before or after.
pub map_set : {A B : Type 0} (f : A → B) (l : List A) (i : ℕ) (x : A) → map f (set l i x) ≡ set (map f l) i (f x)
map_set f [] i x = refl
map_set f (y ∷ l) zero x = refl
map_set f (y ∷ l) (suc i) x = ap (λ k. f y ∷ k) (map_set f l i x)

module _ (ws : List ℕ) (s : Sound route_head route_tail ws) (i : ℕ) (h : i < length (routes_of ws)) where
  -- Entry i is that of route i.
  entry_is : nth i (decode route_head route_tail ws) ≡ entry_of (route_at (routes_of ws) i)
  entry_is =
      let w = (wide_at route_head route_tail ws s i (omega (arith, length_routes ws s))).0 in
      sym (typing.forth (nth i (decode route_head route_tail ws)) w.0 w.1) ∙ ap entry_of (sym (route_is ws s i))

  -- A store into head word j of slot i.
  stores : (j : ℕ) → j < route_head → (x : ℕ) → Stored ws i (with_word (route_at (routes_of ws) i) j x) (set ws (slot_at i + j) x)
  unfolding routes_of
  stores j k x =
      let p = set_head_sound route_head route_tail ws s i (omega (arith, length_routes ws s)) j k x in
      record {
        sound = p.0;
        size = length-set ws (slot_at i + j) x;
        routes =
            ap (map route_of) p.1
            ∙ map_set route_of (decode route_head route_tail ws) i _
            ∙ ap (λ (e : Entry). set (map route_of (decode route_head route_tail ws)) i (route_of (with_head e (set e.head j x)))) entry_is;
      }

-- A second change of route i.
twice : {ws out end : List ℕ} {i : ℕ} {r q : Route} → Stored ws i r out → Stored out i q end → Stored ws i q end
twice {ws} {i} {r} {q} p n =
    record {
      sound = n.sound;
      size = n.size ∙ p.size;
      routes = n.routes ∙ ap (λ l. set l i q) p.routes ∙ set-set (routes_of ws) i r q;
    }

-- Route i may be changed again.
again : {ws out : List ℕ} {i : ℕ} {r : Route} → Stored ws i r out → i < length (routes_of ws) → i < length (routes_of out)
again {ws} {i} {r} p h = rw (p.routes, length-set (routes_of ws) i r) h

-- It is the one stored.
stored_is : {ws out : List ℕ} {i : ℕ} {r : Route} → Stored ws i r out → i < length (routes_of ws) → route_at (routes_of out) i ≡ r
stored_is {ws} {i} {r} p h = ap (λ l. route_at l i) p.routes ∙ get_or-set_same (routes_of ws) i r _ h

-- One more head word stored in it.
more : {ws out : List ℕ} {i : ℕ} {r : Route} → Stored ws i r out → i < length (routes_of ws) → (j : ℕ) → j < route_head → (x : ℕ)
    → Stored ws i (with_word r j x) (set out (slot_at i + j) x)
more {ws} {out} {i} {r} p h j k x =
    subst (λ q. Stored ws i (with_word q j x) (set out (slot_at i + j) x)) (stored_is p h) (twice p (stores out p.sound i (again p h) j k x))

module _ {ws : List ℕ} {i : ℕ} (p : RouteIn ws i) where
  -- Its slot lies within the words.
  pub slot_in : slot_at i + route_width ≤ length ws
  slot_in = slot_within ws p.sound i p.within

  module _ (v : Verdict) {w a b : ℕ} (ew : w ≡ verdict_number v) (ea : a ≡ place_a v) (eb : b ≡ place_b v) where
    -- The verdict's word and places, stored one after another.
    stamped_words :
        set (set (set ws (slot_at i + verdict_word) w) (slot_at i + a_word) a) (slot_at i + b_word) b
        ≡ ledger_of (set (routes_of ws) i (stamped v (route_at (routes_of ws) i)))
    stamped_words =
        let s = stores ws p.sound i p.within verdict_word (omega arith) (verdict_number v) in
        let t = more s p.within a_word (omega arith) (place_a v) in
        let u = more t p.within b_word (omega arith) (place_b v) in
        rw (ew, ea, eb) (words_are _ u.sound (u.size ∙ p.size) ∙ ap ledger_of u.routes)

    -- They, and whether one of them changed.
    pub stamped_effect : {changed : Bool} → changed ≡ differs (route_at (routes_of ws) i) (stamped v (route_at (routes_of ws) i))
        → effect changed (set (set (set ws (slot_at i + verdict_word) w) (slot_at i + a_word) a) (slot_at i + b_word) b) ≡ change_effect ws i (stamped v)
    stamped_effect e = λ z. effect (e z) (stamped_words z)
