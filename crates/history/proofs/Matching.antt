-- The model over two lists of calls, of which one is a reordering of the other and neither is refused for room: the same replies, and the same model at
-- the end. Assumes nothing.
use Prim.Native.Nat.{ℕ, zero, suc, ◌<◌, ◌≤◌}
use mathlib.Core.Path.{◌≡◌, refl, sym, ap, ◌∙◌}
use mathlib.Core.Bool.{Bool, true, false, not}
use mathlib.Core.List.{List, ◌++◌}
use native.Mathlib.Omega.{arith}
use native.Mathlib.Decide.{dec_lt, dec_le}
use lib.ListN.{length, get_or-eq_default}
use Rattle.types.specs.declared.Origin.{Origin}
use Rattle.types.specs.declared.Refusal.{Refusal}
use Rattle.types.specs.declared.Refusal.TheVariants.{RegisterFull, RoutesFull}
use Rattle.types.specs.Rows.{row_if, or_else, first_given}
use Rattle.types.proofs.Clashes.{not_both, some_not_none}
use Rattle.keyed.proofs.Orders.{ordered_pairs, ordered_ℕ, both_left, both_right}
use Rattle.rules.proofs.Judges.{first_append}
use Rattle.register.specs.Register.{room_for}
use Rattle.register.specs.Calls.{record_for, put_record}
use Rattle.history.specs.Calls.{Call, file, withdraw, clear, keep, drop, rejudge, Scope, of_pair, of-source, of_route, idle, Tables, Formed, call_at, scope_at, route_read}
use Rattle.history.specs.Replies.{refused, for_room}
use Rattle.history.specs.Model.{Model, lists_in, held_by, put_kept, argument_rows, held_rows, room_rows, room_for_routes, refusal, answer, change, reply_unless, change_unless, reply_to, after, reply_at, final}
use Rattle.history.specs.Reorderings.{OnPair, Clears, OfSource, OnRoute, Tied, same_pair, clear_first, clear_second, same_route, IsStep, StepAt, Reordering}
use Rattle.history.specs.Filings.{same_origin}
use Rattle.history.proofs.Origins.{origin_is}
use Rattle.history.proofs.Keys.{Key, pair, route, look, hits, free_refusal, free_reply, free_next, free_after, miss, alike, InOrder, held_in_order, free_in_order, same_model, reply_alike}
use Rattle.std.specs.Prelude.{None, Option, Some}

-- A test that cannot pass fails.
not-true : (b : Bool) → (b ≡ true → ⊥) → b ≡ false
not-true true h = absurd (h refl)
not-true false h = refl

-- ---- calls on one key are tied

-- How a call can hit a key of the lists.
data HitsPair (o : Origin) (k : ℕ × ℕ) (c : Scope) : Type 0 where
  on_pair : OnPair o k.1 k.0 c → OfSource o k.1 c → HitsPair o k c
  on_source : Clears o k.1 c → OfSource o k.1 c → HitsPair o k c

-- A call that hits a pair of customer and source in a register is a step on it, or clears the source there.
hits_pair : (o : Origin) (k : ℕ × ℕ) (c : Scope) → hits (pair o k) c ≡ true → HitsPair o k c
hits_pair o k (of_pair p s c) h =
    let q : p ≡ o = origin_is p o (both_left _ _ h) in
    let e : (c, s) ≡ k = sym (ordered_pairs.same_is k (c, s) (both_right (same_origin p o) _ h)) in
    on_pair (q, ap (λ x. x.1) e, ap (λ x. x.0) e) (q, ap (λ x. x.1) e)
hits_pair o k (of-source p s) h =
    let q : p ≡ o = origin_is p o (both_left _ _ h) in
    let e : s ≡ k.1 = sym (ordered_ℕ.same_is k.1 s (both_right (same_origin p o) _ h)) in
    on_source (q, e) (q, e)
hits_pair o k (of_route n) h = not_both refl h
hits_pair o k idle h = not_both refl h

-- A call that hits a route number is a step on it.
hits_route : (k : ℕ) (c : Scope) → hits (route k) c ≡ true → OnRoute k c
hits_route k (of_pair p s c) h = not_both refl h
hits_route k (of-source p s) h = not_both refl h
hits_route k (of_route n) h = sym (ordered_ℕ.same_is k n h)
hits_route k idle h = not_both refl h

-- Two calls that hit one key are tied.
hit_tied : (k : Key) (a b : Scope) → hits k a ≡ true → hits k b ≡ true → Tied a b
hit_tied (pair o k) a b p q = go (hits_pair o k a p) (hits_pair o k b q)
  where
    go : HitsPair o k a → HitsPair o k b → Tied a b
    go (on_pair x y) (on_pair z w) = same_pair o k.1 k.0 x z
    go (on_pair x y) (on_source z w) = clear_second o k.1 y z
    go (on_source x y) (on_pair z w) = clear_first o k.1 x w
    go (on_source x y) (on_source z w) = clear_first o k.1 x w
hit_tied (route k) a b p q = same_route k (hits_route k a p) (hits_route k b q)

-- A call that hits a key is a step.
hit_step : (k : Key) (c : Scope) → hits k c ≡ true → IsStep c
hit_step k (of_pair p s c) h = tt
hit_step k (of-source p s) h = tt
hit_step k (of_route n) h = tt
hit_step (pair o k) idle h = not_both refl h
hit_step (route k) idle h = not_both refl h

-- ---- the same is found under each key

module _ (start : Model) (k : Key) where
  -- Over a stretch of calls that miss the key, nothing changes there.
  quiet : (l : List Call) (j i : ℕ) → i ≤ j → ((x : ℕ) → i ≤ x → x < j → hits k (scope_at l x) ≡ false) → look k (free_after start l j) ≡ look k (free_after start l i)
  unfolding free_after
  quiet l zero i h q = let e : i ≡ 0 = omega arith in rw e
  quiet l (suc j) i h q = go (dec_le i j) (λ p. quiet l j i p (λ x a b. q x a (omega arith)))
    where
      go : Dec (i ≤ j) → (i ≤ j → look k (free_after start l j) ≡ look k (free_after start l i))
          → look k (free_next (free_after start l j) (call_at l j)) ≡ look k (free_after start l i)
      go (yes p) ih = miss k (free_after start l j) (call_at l j) (q j p (omega arith)) ∙ ih p
      go (no n) ih = let e : i ≡ suc j = omega arith in rw e

  module _ (l m : List Call) (r : Reordering l m) where
    -- A call on the key is matched to one on the key,
    forth : (x : ℕ) → hits k (scope_at l x) ≡ true → hits k (scope_at m (r.to x)) ≡ true
    forth x h = rw (r.to_same x (hit_step k (scope_at l x) h)) h

    -- and so back.
    back : (y : ℕ) → hits k (scope_at m y) ≡ true → hits k (scope_at l (r.from y)) ≡ true
    back y h = rw (r.from_same y (hit_step k (scope_at m y) h)) h

    -- The calls on the key that stand before index i of l are those before index j of m.
    unfoldable Cut : ℕ → ℕ → Type 0
    Cut i j = (x : ℕ) → hits k (scope_at l x) ≡ true → (x < i → r.to x < j) × (r.to x < j → x < i)

    -- Calls on the key stay in order.
    ordered : (x y : ℕ) → hits k (scope_at l x) ≡ true → hits k (scope_at l y) ≡ true → x < y → r.to x < r.to y
    ordered x y p q a = r.in-order x y (hit_step k (scope_at l x) p) (hit_step k (scope_at l y) q) a (hit_tied k (scope_at l x) (scope_at l y) p q)

    -- A call on the key cuts both lists alike.
    cut_at : (i : ℕ) → hits k (scope_at l i) ≡ true → Cut i (r.to i)
    unfolding Cut
    cut_at i p x h = (ordered x i h p, λ a. go a (dec_lt x i) (dec_lt i x))
      where
        go : r.to x < r.to i → Dec (x < i) → Dec (i < x) → x < i
        go a (yes z) d = z
        go a (no n) (yes z) = let w = ordered i x p h z in omega arith
        go a (no n) (no n') = let e : r.to x ≡ r.to i = ap r.to (omega arith) in omega arith

    -- Where the calls on the key are the same, so is what is found there.
    same_found : (i j : ℕ) → Cut i j → look k (free_after start l i) ≡ look k (free_after start m j)
    unfolding Cut free_after
    same_found zero j cut =
        sym (quiet m j zero (omega arith) (λ y a b. not-true (hits k (scope_at m y)) (λ h.
        let e = r.to_from y (hit_step k (scope_at m y) h) in
        let z = (cut (r.from y) (back y h)).1 (omega arith) in
        omega arith)))
    same_found (suc i) j cut = go (hits k (scope_at l i)) refl (λ n. same_found i n)
      where
        -- The call at i misses the key, and another one hits it.
        other : (x : ℕ) → hits k (scope_at l i) ≡ false → hits k (scope_at l x) ≡ true → x < suc i → Dec (x < i) → x < i
        other x p h z (yes a) = a
        other x p h z (no n) = let e : x ≡ i = omega arith in not_both p (rw e at h)

        -- No call on the key stands in m between the one matched to i and index j.
        between : (y : ℕ) → hits k (scope_at l i) ≡ true → r.to i < y → y < j → hits k (scope_at m y) ≡ true → Dec (r.from y < i) → ⊥
        between y p a b h (yes z) =
            let e = r.to_from y (hit_step k (scope_at m y) h) in
            let w = ordered (r.from y) i (back y h) p z in
            omega arith
        between y p a b h (no n) =
            let e = r.to_from y (hit_step k (scope_at m y) h) in
            let z = (cut (r.from y) (back y h)).1 (omega arith) in
            let f : r.to (r.from y) ≡ r.to i = ap r.to (omega arith) in
            omega arith

        go : (b : Bool) → hits k (scope_at l i) ≡ b → ((n : ℕ) → Cut i n → look k (free_after start l i) ≡ look k (free_after start m n))
            → look k (free_after start l (suc i)) ≡ look k (free_after start m j)
        go false p ih =
            miss k (free_after start l i) (call_at l i) p ∙ ih j (λ x h. (λ a. (cut x h).0 (omega arith), λ a. other x p h ((cut x h).1 a) (dec_lt x i)))
        go true p ih =
            alike k (free_after start l i) (free_after start m (r.to i)) (call_at l i) (ih (r.to i) (cut_at i p))
            ∙ rw (← r.to_same i (hit_step k (scope_at l i) p)) refl
            ∙ sym (quiet m j (suc (r.to i)) ((cut i p).0 (omega arith))
            (λ y a b. not-true (hits k (scope_at m y)) (λ h. between y p a b h (dec_lt (r.from y) i))))

-- A call on a key stands within its list.
in_range : (k : Key) (l : List Call) (x : ℕ) → hits k (scope_at l x) ≡ true → x < length l
in_range k l x h = go (dec_lt x (length l))
  where
    go : Dec (x < length l) → x < length l
    go (yes a) = a
    go (no n) =
        let e : call_at l x ≡ rejudge = get_or-eq_default l rejudge (omega arith) in
        absurd (rw e at (hit_step k (scope_at l x) h))

module _ (start : Model) (ordered : InOrder start) (l m : List Call) (r : Reordering l m) where
  -- With room without end, each step is answered alike in both lists,
  free_replies : (i : ℕ) → StepAt l i → free_reply (free_after start l i) (call_at l i) ≡ free_reply (free_after start m (r.to i)) (call_at m (r.to i))
  free_replies i s =
      reply_alike (free_after start l i) (free_after start m (r.to i)) (call_at l i) (free_in_order start ordered l i)
      (free_in_order start ordered m (r.to i))
      (λ k h. same_found start k l m r i (r.to i) (cut_at start k l m r i h))
      ∙ rw (← r.to_same i s) refl

  -- and the model is the same at the end.
  free_final : free_after start l (length l) ≡ free_after start m (length m)
  unfolding Cut
  free_final =
      same_model (free_after start l (length l)) (free_after start m (length m)) (free_in_order start ordered l (length l))
      (free_in_order start ordered m (length m))
      (λ k. same_found start k l m r (length l) (length m)
      (λ x h. (λ a. in_range k m (r.to x) (forth start k l m r x h), λ a. in_range k l x h)))

-- ---- room

-- What a row for room gives is a refusal for room.
room_row : (m : Model) (c : Call) (r : Refusal) → first_given (room_rows m c) ≡ Some r → for_room (refused r) ≡ true
unfolding first_given
room_row m (file o s c list) r = go (room_for (put_record (record_for s c list) (lists_in o m)))
  where
    go : (b : Bool) → or_else (row_if (not b) RegisterFull) None ≡ Some r → for_room (refused r) ≡ true
    go true h = some_not_none (sym h)
    go false h = let e : RegisterFull ≡ r = cc in rw (← e)
room_row m (withdraw o s c) r = λ h. some_not_none (sym h)
room_row m (clear o s) r = λ h. some_not_none (sym h)
room_row m (keep k) r = go (room_for_routes (put_kept (route_read k) m.routes))
  where
    go : (b : Bool) → or_else (row_if (not b) RoutesFull) None ≡ Some r → for_room (refused r) ≡ true
    go true h = some_not_none (sym h)
    go false h = let e : RoutesFull ≡ r = cc in rw (← e)
room_row m (drop n) r = λ h. some_not_none (sym h)
room_row m rejudge r = λ h. some_not_none (sym h)

-- A call that is not refused for room is refused as if room were without end.
free-refusal : (m : Model) (c : Call) → for_room (reply_to m c) ≡ false → refusal m c ≡ free_refusal m c
unfolding refusal free_refusal
free-refusal m c h =
    first_append (argument_rows c) (held_rows m c ++ room_rows m c)
    ∙ ap (or_else (first_given (argument_rows c))) (first_append (held_rows m c) (room_rows m c))
    ∙ go (first_given (argument_rows c)) (first_given (held_rows m c)) (first_given (room_rows m c)) refl
    (rw (first_append (argument_rows c) (held_rows m c ++ room_rows m c), first_append (held_rows m c) (room_rows m c)) at h)
  where
    go : (a b o : Option Refusal) → first_given (room_rows m c) ≡ o → for_room (reply_unless (or_else a (or_else b o)) (answer m c)) ≡ false
        → or_else a (or_else b o) ≡ or_else a b
    go (Some x) b o e h = refl
    go None (Some x) o e h = refl
    go None None (Some x) e h = not_both h (room_row m c x e)
    go None None None e h = refl

-- No call of the list is refused for room by the model.
abbrev pub RoomyModel : Tables → List Call → Type 0
RoomyModel t l = (i : ℕ) → for_room (reply_at t l i) ≡ false

-- Where no call is refused for room, the model is the one with room without end,
after_free : (t : Tables) (l : List Call) → RoomyModel t l → (i : ℕ) → after t l i ≡ free_after (held_by t) l i
unfolding after free_after
after_free t l h zero = refl
after_free t l h (suc i) =
    ap (λ o. change_unless o (after t l i) (change (after t l i) (call_at l i))) (free-refusal (after t l i) (call_at l i) (h i))
    ∙ ap (λ m. free_next m (call_at l i)) (after_free t l h i)

-- and so are its replies.
reply_free : (t : Tables) (l : List Call) → RoomyModel t l → (i : ℕ) → reply_at t l i ≡ free_reply (free_after (held_by t) l i) (call_at l i)
reply_free t l h i =
    ap (λ o. reply_unless o (answer (after t l i) (call_at l i))) (free-refusal (after t l i) (call_at l i) (h i))
    ∙ ap (λ m. free_reply m (call_at l i)) (after_free t l h i)

module _ (t : Tables) (f : Formed t) (l m : List Call) (r : Reordering l m) (h : RoomyModel t l) (g : RoomyModel t m) where
  -- Each step is answered alike in both lists.
  pub same_replies : (i : ℕ) → StepAt l i → reply_at t l i ≡ reply_at t m (r.to i)
  same_replies i s = reply_free t l h i ∙ free_replies (held_by t) (held_in_order t f) l m r i s ∙ sym (reply_free t m g (r.to i))

  -- And the model is the same at the end.
  pub same_final : final t l ≡ final t m
  same_final = after_free t l h (length l) ∙ free_final (held_by t) (held_in_order t f) l m r ∙ sym (after_free t m g (length m))
