-- The model holds the lists that are filed and the routes that are kept. Assumes nothing.
use Prim.Native.Nat.{ℕ, zero, suc}
use mathlib.Core.Path.{◌≡◌, refl, sym, ap, ◌∙◌}
use mathlib.Core.Bool.{Bool, true, false, cond}
use mathlib.Core.List.{List}
use lib.Dec.{eqb, ltb}
use Rattle.types.specs.declared.Origin.{Origin}
use Rattle.types.specs.declared.Origin.TheVariants.{Public, Overrides}
use Rattle.types.specs.declared.Refusal.{Refusal}
use Rattle.keyed.specs.Keyed.{same_pair, before_pair}
use Rattle.keyed.proofs.Orders.{ordered_pairs, ordered_ℕ, same_flip}
use Rattle.keyed.proofs.Finds.{find_put, find_without}
use Rattle.keyed.proofs.Mapping.{find_map}
use Rattle.rules.specs.Records.{Record}
use Rattle.register.specs.Register.{key_of, records_of}
use Rattle.register.specs.Calls.{record_for, holds_record, of_source}
use Rattle.registers.specs.Registers.{chosen}
use Rattle.ledger.specs.Routes.{routes_of}
use Rattle.ledger.specs.Routes as routes
use Rattle.history.specs.Calls.{Call, file, withdraw, clear, keep, drop, rejudge, Tables, Formed, call_at, said, KeptRoute, route_read, find_record, providers_of, known}
use Rattle.history.specs.Replies.{new, replaced, shown, accepted}
use Rattle.history.specs.Model.{Model, lists_in, held_by, number_of, find_kept, refusal, answer, change, reply_unless, change_unless, after}
use Rattle.history.specs.Filings.{filed_by, filed_list, kept_by, kept_route_at}
use Rattle.history.proofs.Origins.{seen_with}
use Rattle.history.proofs.Simulating.{history_replies}
use Rattle.std.specs.Prelude.{None, Option, Some}

-- A call that is not refused is accepted.
answer_accepted : (m : Model) (c : Call) → accepted (answer m c) ≡ true
answer_accepted m (file o s c list) = go (holds_record c s (lists_in o m))
  where
    go : (b : Bool) → accepted (cond b replaced new) ≡ true
    go true = refl
    go false = refl
answer_accepted m (withdraw o s c) = refl
answer_accepted m (clear o s) = refl
answer_accepted m (keep k) = refl
answer_accepted m (drop n) = refl
answer_accepted m rejudge = refl

-- What is found after a test goes through the lists.
through : (b : Bool) (x y : Option Record) → providers_of (cond b x y) ≡ cond b (providers_of x) (providers_of y)
through true x y = refl
through false x y = refl

module _ (o : Origin) (source customer : ℕ) where
  -- The list of the pair among some.
  abbrev list_in : List Record → Option (List ℕ)
  list_in rs = providers_of (find_record (customer, source) rs)

  -- An accepted call changes the list of a pair in a register as demand 2 says.
  changed_list : (m : Model) (c : Call) → list_in (lists_in o (change m c)) ≡ filed_by o source customer c (list_in (lists_in o m))
  changed_list m (file p s c list) =
      seen_with list_in o p m.lists (same_pair (c, s) (customer, source)) (Some list) _
      (ap providers_of (find_put key_of same_pair before_pair ordered_pairs (customer, source) (record_for s c list) (lists_in p m))
      ∙ through (same_pair (customer, source) (c, s)) (Some (record_for s c list)) (find_record (customer, source) (lists_in p m))
      ∙ ap (λ b. cond b (Some list) (list_in (lists_in p m))) (same_flip same_pair before_pair ordered_pairs (customer, source) (c, s)))
  changed_list m (withdraw p s c) =
      seen_with list_in o p m.lists (same_pair (c, s) (customer, source)) None _
      (ap providers_of (find_without key_of same_pair before_pair ordered_pairs (customer, source) (same_pair (c, s)) (lists_in p m))
      ∙ through (same_pair (c, s) (customer, source)) None (find_record (customer, source) (lists_in p m)))
  changed_list m (clear p s) =
      seen_with list_in o p m.lists (eqb s source) None _
      (ap providers_of (find_without key_of same_pair before_pair ordered_pairs (customer, source) (of_source s) (lists_in p m))
      ∙ through (eqb source s) None (find_record (customer, source) (lists_in p m))
      ∙ ap (λ b. cond b None (list_in (lists_in p m))) (same_flip eqb ltb ordered_ℕ source s))
  changed_list m (keep k) = refl
  changed_list m (drop n) = refl
  changed_list m rejudge = refl

  -- What the tables hold at first is what the model does.
  held_first : (t : Tables) → list_in (lists_in o (held_by t)) ≡ list_in (records_of (chosen o t.registers))
  held_first t = elim o as (λ p. list_in (lists_in p (held_by t)) ≡ list_in (records_of (chosen p t.registers))) [ Public ↦ refl | Overrides ↦ refl ]

  -- The model's list of a pair is the one that is filed.
  pub filed-list : (t : Tables) → Formed t → (l : List Call) (i : ℕ)
      → providers_of (find_record (customer, source) (lists_in o (after t l i))) ≡ filed_list t l i o source customer
  unfolding after filed_list
  filed-list t f l zero = held_first t
  filed-list t f l (suc i) =
      go (refusal (after t l i) (call_at l i))
      ∙ ap (λ r. cond (accepted r) (filed_by o source customer (call_at l i) (held i)) (held i)) (sym (history_replies t f l i))
      ∙ ap (λ v. cond (accepted (shown (said t l i))) (filed_by o source customer (call_at l i) v) v) (filed-list t f l i)
    where
      held : ℕ → Option (List ℕ)
      held j = list_in (lists_in o (after t l j))

      go : (r : Option Refusal)
          → list_in (lists_in o (change_unless r (after t l i) (change (after t l i) (call_at l i))))
          ≡ cond (accepted (reply_unless r (answer (after t l i) (call_at l i)))) (filed_by o source customer (call_at l i) (held i)) (held i)
      go (Some r) = refl
      go None = changed_list (after t l i) (call_at l i)
          ∙ ap (λ b. cond b (filed_by o source customer (call_at l i) (held i)) (held i)) (sym (answer_accepted (after t l i) (call_at l i)))

module _ (number : ℕ) where
  -- An accepted call changes the route under a number as demand 2 says.
  changed_route : (m : Model) (c : Call) → find_kept number (change m c).routes ≡ kept_by number c (find_kept number m.routes)
  changed_route m (file o s c list) = refl
  changed_route m (withdraw o s c) = refl
  changed_route m (clear o s) = refl
  changed_route m (keep k) =
      find_put number_of eqb ltb ordered_ℕ number (route_read k) m.routes
      ∙ ap (λ b. cond b (Some (route_read k)) (find_kept number m.routes)) (same_flip eqb ltb ordered_ℕ number k.number)
  changed_route m (drop n) = find_without number_of eqb ltb ordered_ℕ number (eqb n) m.routes
  changed_route m rejudge = refl

  -- The model's route under a number is the one that is kept.
  pub kept_route : (t : Tables) → Formed t → (l : List Call) (i : ℕ) → find_kept number (after t l i).routes ≡ kept_route_at t l i number
  unfolding after kept_route_at
  kept_route t f l zero = find_map routes.key_of number_of eqb ltb known (λ r. refl) number (routes_of t.ledger)
  kept_route t f l (suc i) =
      go (refusal (after t l i) (call_at l i))
      ∙ ap (λ r. cond (accepted r) (kept_by number (call_at l i) (held i)) (held i)) (sym (history_replies t f l i))
      ∙ ap (λ v. cond (accepted (shown (said t l i))) (kept_by number (call_at l i) v) v) (kept_route t f l i)
    where
      held : ℕ → Option KeptRoute
      held j = find_kept number (after t l j).routes

      go : (o : Option Refusal)
          → find_kept number (change_unless o (after t l i) (change (after t l i) (call_at l i))).routes
          ≡ cond (accepted (reply_unless o (answer (after t l i) (call_at l i)))) (kept_by number (call_at l i) (held i)) (held i)
      go (Some r) = refl
      go None = changed_route (after t l i) (call_at l i)
          ∙ ap (λ b. cond b (kept_by number (call_at l i) (held i)) (held i)) (sym (answer_accepted (after t l i) (call_at l i)))
