-- What the model holds under one key, and what a call makes of it: where room is not asked for, it depends on nothing else in the model. Assumes nothing.
use Prim.Native.Nat.{ℕ, zero, suc}
use mathlib.Core.Path.{◌≡◌, refl, sym, ap, ◌∙◌}
use mathlib.Core.Bool.{Bool, true, false, not, cond, ◌&&◌}
use mathlib.Core.List.{List, [], ◌∷◌}
use native.Mathlib.Omega.{arith}
use lib.Dec.{eqb, ltb}
use lib.ListN.{length}
use Rattle.types.specs.declared.Origin.{Origin}
use Rattle.types.specs.declared.Origin.TheVariants.{Public, Overrides}
use Rattle.types.specs.declared.Refusal.{Refusal}
use Rattle.types.specs.declared.Refusal.TheVariants.{NoRecord, RouteTaken, NoRoute}
use Rattle.types.specs.Rows.{row_if, or_else, first_given}
use Rattle.keyed.specs.Keyed.{Ordered, same_pair, before_pair, ascends, without, count_of}
use Rattle.keyed.proofs.Orders.{ordered_pairs, ordered_ℕ, same_flip, both_intro}
use Rattle.keyed.proofs.Puts.{ascends_put, ascends_without}
use Rattle.keyed.proofs.Mapping.{ascends_map}
use Rattle.keyed.proofs.Finds.{is_some, find_holds, find_none, find_put, find_without, same_finds}
use Rattle.rules.specs.Records.{Record}
use Rattle.register.specs.Register.{key_of}
use Rattle.register.specs.Calls.{record_for, holds_record, of_source, count_records}
use Rattle.register.proofs.Holding as register_holding
use Rattle.ledger.specs.Routes.{routes_of}
use Rattle.ledger.specs.Routes as routes
use Rattle.ledger.proofs.Holding as ledger_holding
use Rattle.history.specs.Calls.{Call, file, withdraw, clear, keep, drop, rejudge, Scope, of_pair, of-source, of_route, idle, scope, Tables, Formed, call_at, KeptRoute, route_read, find_record, known}
use Rattle.history.specs.Replies.{ModelReply, new, replaced, gone}
use Rattle.history.specs.Model.{Model, lists_in, refiled, held_by, number_of, find_kept, holds_kept, argument_rows, held_rows, answer, change, reply_unless, change_unless}
use Rattle.history.specs.Filings.{same_origin}
use Rattle.history.proofs.Origins.{origin_self, of_each, same_lists, seen_with, seen_left}
use Rattle.std.specs.Prelude.{None, Option, Some}

-- A key of the lists of one register (customer and source) or of the routes.
pub data Key : Type 0 where
  pair : Origin → ℕ × ℕ → Key
  route : ℕ → Key

-- What can be found under a key.
abbrev pub Found : Key → Type 0
Found (pair o k) = Option Record
Found (route n) = Option KeptRoute

-- What a model holds under a key.
abbrev pub look : (k : Key) → Model → Found k
look (pair o k) m = find_record k (lists_in o m)
look (route n) m = find_kept n m.routes

-- Whether a call can change what is found under the key.
abbrev pub hits : Key → Scope → Bool
hits (pair o k) (of_pair p s c) = same_origin p o && same_pair k (c, s)
hits (pair o k) (of-source p s) = same_origin p o && eqb k.1 s
hits (pair o k) (of_route n) = false
hits (pair o k) idle = false
hits (route k) (of_pair p s c) = false
hits (route k) (of-source p s) = false
hits (route k) (of_route n) = eqb k n
hits (route k) idle = false

-- ---- the model with room without end

-- The rows but those for room.
unfoldable pub free_refusal : Model → Call → Option Refusal
free_refusal m c = or_else (first_given (argument_rows c)) (first_given (held_rows m c))

-- The reply, the model after a call, and the model after i calls from a start.
abbrev pub free_reply : Model → Call → ModelReply
free_reply m c = reply_unless (free_refusal m c) (answer m c)

abbrev pub free_next : Model → Call → Model
free_next m c = change_unless (free_refusal m c) m (change m c)

unfoldable pub free_after : Model → List Call → ℕ → Model
free_after start l zero = start
free_after start l (suc i) = free_next (free_after start l i) (call_at l i)

-- ---- one call

-- Of two ways that come to one.
pub either_way {ℓ} : {X : Type ℓ} (b : Bool) (x : X) → cond b x x ≡ x
either_way true x = refl
either_way false x = refl

-- Where two keys are the same, one may stand for the other.
at_key : {K X : Type 0} (same before : K → K → Bool) → Ordered same before → (a b : K) (x y z : X) → (a ≡ b → x ≡ y)
    → cond (same a b) x z ≡ cond (same a b) y z
at_key same before o a b x y z f = go (same a b) refl
  where
    go : (t : Bool) → same a b ≡ t → cond t x z ≡ cond t y z
    go true e = f (o.same_is a b e)
    go false e = refl

-- What is there stays.
abbrev unless_there : {X : Type 0} → Option X → Option X → Option X
unless_there (Some v) other = Some v
unless_there None other = other

-- What a call that hits the key, and that its arguments do not bar, makes of what is found there.
abbrev value : (k : Key) → Call → Found k → Found k
value (pair o k) (file p s c list) v = Some (record_for s c list)
value (pair o k) (withdraw p s c) v = None
value (pair o k) (clear p s) v = None
value (pair o k) (keep j) v = v
value (pair o k) (drop n) v = v
value (pair o k) rejudge v = v
value (route k) (file p s c list) v = v
value (route k) (withdraw p s c) v = v
value (route k) (clear p s) v = v
value (route k) (keep j) v = unless_there v (Some (route_read j))
value (route k) (drop n) v = None
value (route k) rejudge v = v

-- A call that its arguments bar changes nothing.
abbrev blocked {ℓ} : {X : Type ℓ} → Option Refusal → X → X → X
blocked (Some r) x y = x
blocked None x y = y

-- What a call makes of what is found under the key.
abbrev becomes : (k : Key) → Call → Found k → Found k
becomes k c v = cond (hits k (scope c)) (blocked (first_given (argument_rows c)) v (value k c v)) v

-- A call that leaves what is found under a key leaves it whether refused or not.
left_alone : (k : Key) (o : Option Refusal) (m n : Model) → look k n ≡ look k m → look k (change_unless o m n) ≡ look k m
left_alone k (Some r) m n h = refl
left_alone k None m n h = h

-- A key that is held has something under it.
there : {E : Type 0} (o : Option E) → is_some o ≡ true → (n : Option E) → unless_there o n ≡ o
there (Some v) h n = refl
there None h n = let z : ◌≡◌ {A = ℕ} 0 1 = cc in absurd (omega arith)

-- A call that its arguments do not bar.
found_own : (k : Key) (m : Model) (c : Call)
    → look k (change_unless (first_given (held_rows m c)) m (change m c)) ≡ cond (hits k (scope c)) (value k c (look k m)) (look k m)
unfolding first_given
found_own (pair o k) m (file p s c list) =
    seen_with (find_record k) o p m.lists (same_pair k (c, s)) _ _ (find_put key_of same_pair before_pair ordered_pairs k (record_for s c list) (lists_in p m))
found_own (pair o k) m (withdraw p s c) = go (holds_record c s (lists_in p m)) refl
  where
    go : (b : Bool) → holds_record c s (lists_in p m) ≡ b
        → look (pair o k) (change_unless (or_else (row_if (not b) NoRecord) None) m (change m (withdraw p s c)))
        ≡ cond (same_origin p o && same_pair k (c, s)) None (find_record k (lists_in o m))
    go true e =
        seen_with (find_record k) o p m.lists (same_pair k (c, s)) None _
        (find_without key_of same_pair before_pair ordered_pairs k (same_pair (c, s)) (lists_in p m)
        ∙ ap (λ b. cond b None (find_record k (lists_in p m))) (same_flip same_pair before_pair ordered_pairs (c, s) k))
    go false e =
        seen_left (find_record k) o p m.lists (same_pair k (c, s)) None
        (sym (either_way (same_pair k (c, s)) _)
        ∙ at_key same_pair before_pair ordered_pairs k (c, s) _ _ _ (λ q. rw q (find_none key_of same_pair before_pair (c, s) (lists_in p m) e)))
found_own (pair o k) m (clear p s) =
    seen_with (find_record k) o p m.lists (eqb k.1 s) None _ (find_without key_of same_pair before_pair ordered_pairs k (of_source s) (lists_in p m))
found_own (pair o k) m (keep j) = left_alone (pair o k) (first_given (held_rows m (keep j))) m _ refl
found_own (pair o k) m (drop n) = left_alone (pair o k) (first_given (held_rows m (drop n))) m _ refl
found_own (pair o k) m rejudge = refl
found_own (route k) m (file p s c list) = refl
found_own (route k) m (withdraw p s c) = left_alone (route k) (first_given (held_rows m (withdraw p s c))) m _ refl
found_own (route k) m (clear p s) = refl
found_own (route k) m (keep j) = go (holds_kept j.number m.routes) refl
  where
    r : KeptRoute
    r = route_read j

    go : (b : Bool) → holds_kept j.number m.routes ≡ b
        → look (route k) (change_unless (or_else (row_if b RouteTaken) None) m (change m (keep j)))
        ≡ cond (eqb k j.number) (unless_there (find_kept k m.routes) (Some r)) (find_kept k m.routes)
    go true e =
        sym (either_way (eqb k j.number) _)
        ∙ at_key eqb ltb ordered_ℕ k j.number _ _ _ (λ q. sym (there (find_kept k m.routes)
        (rw q (sym (find_holds number_of eqb ltb j.number m.routes) ∙ e)) (Some r)))
    go false e =
        find_put number_of eqb ltb ordered_ℕ k r m.routes
        ∙ at_key eqb ltb ordered_ℕ k j.number _ _ _ (λ q. rw (q, find_none number_of eqb ltb j.number m.routes e))
found_own (route k) m (drop n) = go (holds_kept n m.routes) refl
  where
    go : (b : Bool) → holds_kept n m.routes ≡ b
        → look (route k) (change_unless (or_else (row_if (not b) NoRoute) None) m (change m (drop n)))
        ≡ cond (eqb k n) None (find_kept k m.routes)
    go true e =
        find_without number_of eqb ltb ordered_ℕ k (eqb n) m.routes
        ∙ ap (λ b. cond b None (find_kept k m.routes)) (same_flip eqb ltb ordered_ℕ n k)
    go false e =
        sym (either_way (eqb k n) _)
        ∙ at_key eqb ltb ordered_ℕ k n _ _ _ (λ q. rw q (find_none number_of eqb ltb n m.routes e))
found_own (route k) m rejudge = refl

-- What a call makes of what is found under a key depends on nothing else in the model.
found_next : (k : Key) (m : Model) (c : Call) → look k (free_next m c) ≡ becomes k c (look k m)
unfolding free_refusal
found_next k m c = go (first_given (argument_rows c))
  where
    go : (o : Option Refusal)
        → look k (change_unless (or_else o (first_given (held_rows m c))) m (change m c)) ≡ cond (hits k (scope c)) (blocked o (look k m) (value k c (look k m))) (look k m)
    go None = found_own k m c
    go (Some r) = sym (either_way (hits k (scope c)) (look k m))

-- So a call that misses the key changes nothing there.
pub miss : (k : Key) (m : Model) (c : Call) → hits k (scope c) ≡ false → look k (free_next m c) ≡ look k m
miss k m c h = found_next k m c ∙ rw h

-- And one that hits it does the same to two models that agree there.
pub alike : (k : Key) (m n : Model) (c : Call) → look k m ≡ look k n → look k (free_next m c) ≡ look k (free_next n c)
alike k m n c h = found_next k m c ∙ ap (becomes k c) h ∙ sym (found_next k n c)

-- ---- models in order

-- Lists and routes ascend by their keys.
pub record InOrder (m : Model) : Type 0 where
  pub lists : (o : Origin) → ascends key_of same_pair before_pair (lists_in o m) ≡ true
  pub routes : ascends number_of eqb ltb m.routes ≡ true

-- Other lists in one register, in order.
refiled_in_order : (m : Model) (p : Origin) (others : List Record) → InOrder m → ascends key_of same_pair before_pair others ≡ true → InOrder (refiled m p others)
refiled_in_order m p others h a =
    record { lists = of_each (λ rs. ascends key_of same_pair before_pair rs ≡ true) m.lists p others h.lists a; routes = h.routes }

-- Every change keeps the order.
pub change_in_order : (m : Model) (c : Call) → InOrder m → InOrder (change m c)
change_in_order m (file p s c list) h = refiled_in_order m p _ h (ascends_put key_of same_pair before_pair ordered_pairs _ (lists_in p m) (h.lists p))
change_in_order m (withdraw p s c) h = refiled_in_order m p _ h (ascends_without key_of same_pair before_pair ordered_pairs _ (lists_in p m) (h.lists p))
change_in_order m (clear p s) h = refiled_in_order m p _ h (ascends_without key_of same_pair before_pair ordered_pairs _ (lists_in p m) (h.lists p))
change_in_order m (keep j) h =
    record { lists = h.lists; routes = ascends_put number_of eqb ltb ordered_ℕ _ m.routes h.routes }
change_in_order m (drop n) h = record { lists = h.lists; routes = ascends_without number_of eqb ltb ordered_ℕ _ m.routes h.routes }
change_in_order m rejudge h = h

-- So a call leaves a model in order, refused or not.
pub next_in_order : (o : Option Refusal) (m : Model) (c : Call) → InOrder m → InOrder (change_unless o m (change m c))
next_in_order (Some r) m c h = h
next_in_order None m c h = change_in_order m c h

-- What well-formed tables hold is in order.
pub held_in_order : (t : Tables) → Formed t → InOrder (held_by t)
held_in_order t f = record {
  lists = elim [
    | Public ↦ register_holding.ordered t.registers.public (f.register-ok Public)
    | Overrides ↦ register_holding.ordered t.registers.overrides (f.register-ok Overrides)
  ];
  routes = ascends_map routes.key_of number_of eqb ltb known (λ r. refl) (routes_of t.ledger) ∙ ledger_holding.ordered t.ledger f.ledger-ok;
}

-- From a start in order, so is the model after any calls.
pub free_in_order : (start : Model) → InOrder start → (l : List Call) (i : ℕ) → InOrder (free_after start l i)
unfolding free_after
free_in_order start h l zero = h
free_in_order start h l (suc i) =
    next_in_order (free_refusal (free_after start l i) (call_at l i)) (free_after start l i) (call_at l i) (free_in_order start h l i)

-- Models in order that agree under every key are equal.
pub same_model : (m n : Model) → InOrder m → InOrder n → ((k : Key) → look k m ≡ look k n) → m ≡ n
same_model m n h g e =
    let p : m.lists ≡ n.lists = same_lists m.lists n.lists (λ o. same_finds key_of same_pair before_pair ordered_pairs (lists_in o m) (lists_in o n)
    (h.lists o) (g.lists o) (λ k. e (pair o k))) in
    let q : m.routes ≡ n.routes = same_finds number_of eqb ltb ordered_ℕ m.routes n.routes h.routes g.routes (λ k. e (route k)) in
    λ i. record { lists = p i; routes = q i }

-- ---- replies

-- What is counted is what is left without the others.
count_left : {E K : Type 0} (key : E → K) (same before : K → K → Bool) (test : K → Bool) (es : List E)
    → count_of key same before test es ≡ length (without key same before (λ k. not (test k)) es)
unfolding count_of without
count_left key same before test [] = refl
count_left key same before test (e ∷ es) = go (test (key e)) (count_left key same before test es)
  where
    go : (b : Bool) → count_of key same before test es ≡ length (without key same before (λ k. not (test k)) es)
        → cond b (suc (count_of key same before test es)) (count_of key same before test es)
        ≡ length (cond (not b) (without key same before (λ k. not (test k)) es) (e ∷ without key same before (λ k. not (test k)) es))
    go true ih = ap suc ih
    go false ih = ih

-- A source's lists are counted alike where the same is found under its keys.
count_alike : (m n : Model) (o : Origin) (s : ℕ) → InOrder m → InOrder n
    → ((k : ℕ × ℕ) → eqb k.1 s ≡ true → find_record k (lists_in o m) ≡ find_record k (lists_in o n))
    → count_records s (lists_in o m) ≡ count_records s (lists_in o n)
count_alike m n o s h g e =
    count_left key_of same_pair before_pair (of_source s) (lists_in o m)
    ∙ ap length (same_finds key_of same_pair before_pair ordered_pairs (others (lists_in o m)) (others (lists_in o n))
    (ascends_without key_of same_pair before_pair ordered_pairs rest (lists_in o m) (h.lists o))
    (ascends_without key_of same_pair before_pair ordered_pairs rest (lists_in o n) (g.lists o))
    (λ k. find_without key_of same_pair before_pair ordered_pairs k rest (lists_in o m) ∙ go k (eqb k.1 s) refl
    ∙ sym (find_without key_of same_pair before_pair ordered_pairs k rest (lists_in o n))))
    ∙ sym (count_left key_of same_pair before_pair (of_source s) (lists_in o n))
  where
    rest : ℕ × ℕ → Bool
    rest k = not (of_source s k)

    others : List Record → List Record
    others rs = without key_of same_pair before_pair rest rs

    go : (k : ℕ × ℕ) (t : Bool) → eqb k.1 s ≡ t → cond (not t) None (find_record k (lists_in o m)) ≡ cond (not t) None (find_record k (lists_in o n))
    go k true q = e k q
    go k false q = refl

-- Rows and answer of a call depend on what is found under the keys that it hits.
pub record SameReply (m n : Model) (c : Call) : Type 0 where
  pub rows : held_rows m c ≡ held_rows n c
  pub reply : answer m c ≡ answer n c

-- Whether a list is held.
held_alike : (m n : Model) (o : Origin) (s c : ℕ) → ((k : Key) → hits k (of_pair o s c) ≡ true → look k m ≡ look k n)
    → holds_record c s (lists_in o m) ≡ holds_record c s (lists_in o n)
held_alike m n o s c e =
    find_holds key_of same_pair before_pair (c, s) (lists_in o m)
    ∙ ap is_some (e (pair o (c, s)) (both_intro _ _ (origin_self o) (ordered_pairs.same_self (c, s))))
    ∙ sym (find_holds key_of same_pair before_pair (c, s) (lists_in o n))

-- Whether a route is held.
kept_alike : (m n : Model) (k : ℕ) → ((j : Key) → hits j (of_route k) ≡ true → look j m ≡ look j n) → holds_kept k m.routes ≡ holds_kept k n.routes
kept_alike m n k e =
    find_holds number_of eqb ltb k m.routes ∙ ap is_some (e (route k) (ordered_ℕ.same_self k)) ∙ sym (find_holds number_of eqb ltb k n.routes)

-- What a call is asked for beside its arguments.
own_alike : (m n : Model) (c : Call) → InOrder m → InOrder n → ((k : Key) → hits k (scope c) ≡ true → look k m ≡ look k n) → SameReply m n c
own_alike m n (file o s c list) h g e = record { rows = refl; reply = ap (λ b. cond b replaced new) (held_alike m n o s c e) }
own_alike m n (withdraw o s c) h g e = record { rows = ap (λ b. row_if (not b) NoRecord ∷ []) (held_alike m n o s c e); reply = refl }
own_alike m n (clear o s) h g e =
    record { rows = refl; reply = ap gone (count_alike m n o s h g (λ k q. e (pair o k) (both_intro _ _ (origin_self o) q))) }
own_alike m n (keep k) h g e = record { rows = ap (λ b. row_if b RouteTaken ∷ []) (kept_alike m n k.number e); reply = refl }
own_alike m n (drop k) h g e = record { rows = ap (λ b. row_if (not b) NoRoute ∷ []) (kept_alike m n k e); reply = refl }
own_alike m n rejudge h g e = record { rows = refl; reply = refl }

-- So the reply to a call depends on what is found under the keys that it hits.
pub reply_alike : (m n : Model) (c : Call) → InOrder m → InOrder n → ((k : Key) → hits k (scope c) ≡ true → look k m ≡ look k n) → free_reply m c ≡ free_reply n c
unfolding free_refusal
reply_alike m n c h g e =
    let s : SameReply m n c = own_alike m n c h g e in
    λ i. reply_unless (or_else (first_given (argument_rows c)) (first_given (s.rows i))) (s.reply i)
