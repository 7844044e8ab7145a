-- The tables hold the model: every call answers as the model and leaves tables that hold the model after it. Assumes nothing.
use Prim.Native.Nat.{ℕ, zero, suc, ◌+◌, ◌-◌, ◌≤◌}
use mathlib.Core.Path.{◌≡◌, refl, sym, ap, ◌∙◌}
use mathlib.Core.Bool.{Bool, true, false, not, cond}
use mathlib.Core.List.{List, [], ◌∷◌, ◌++◌, map}
use native.Mathlib.Omega.{arith}
use borrow.Author.Tests.{not-false}
use lib.Dec.{eqb, ltb, lit≤}
use lib.ListN.{length, replicate, replicate-append-replicate}
use Rattle.types.specs.declared.Origin.{Origin}
use Rattle.types.specs.declared.Origin.TheVariants.{Public, Overrides}
use Rattle.types.specs.declared.Refusal.{Refusal}
use Rattle.types.specs.declared.Refusal.TheVariants.{TableLength, RouteTaken, RoutesFull}
use Rattle.types.specs.Rows.{row_if, or_else, first_given, Effect, unless_refused}
use Rattle.types.proofs.Clashes.{some_not_none}
use Rattle.types.proofs.Refusing.{row_passed, accepted_none}
use Rattle.table.specs.Table.{slots, bodies, pad, encode}
use Rattle.keyed.specs.Keyed.{same_pair, every, ascends}
use Rattle.keyed.proofs.Orders.{ordered_ℕ, same_flip, both_left, both_right}
use Rattle.keyed.proofs.Finds.{find_put, find_without}
use Rattle.keyed.proofs.Mapping.{find_map, holds_map, put_map, without_map}
use Rattle.rules.specs.Records.{Record, hop_over}
use Rattle.rules.specs.Hops.{HopFunction}
use Rattle.rules.specs.Judging.{judged_route}
use Rattle.rules.proofs.Judges.{first_append, Judgement, on-ground, on_path, judgement}
use Rattle.register.specs.Register.{register_words, records_of, records_ok, room_for, register_ok}
use Rattle.register.specs.Register as register
use Rattle.register.specs.Calls.{table_row, register_row, record_for, holds_record, put_record, erase_record, clear_records, count_records, of_source, filed_as, file_effect, withdraw_effect, clear_effect}
use Rattle.register.proofs.Entries.{records_of_words}
use Rattle.register.proofs.Entries as register_entries
use Rattle.register.proofs.Holding.{room_records, room_lists}
use Rattle.register.proofs.Holding as holding
use Rattle.register.proofs.Changes.{record-ok}
use Rattle.register.proofs.Changes as changes
use Rattle.register.proofs.Refusals.{Register, records_register}
use Rattle.registers.specs.Registers.{Registers, lent, chosen, hop_in, BothFormed}
use Rattle.ledger.specs.Routes.{ledger_words, Route, routes_of, route_ok, routes_ok, key_of}
use Rattle.ledger.specs.Routes as ledger
use Rattle.ledger.specs.Calls.{ledger_row, put_route, store_rows, erase_route, drop_effect, count_differing}
use Rattle.ledger.proofs.Entries.{routes_of_words}
use Rattle.ledger.proofs.Entries as ledger_entries
use Rattle.ledger.proofs.Holding.{room_routes, room_paths, has_room, each_ok}
use Rattle.ledger.proofs.Holding as ledger_holding
use Rattle.ledger.proofs.Changes.{put_ok, without_ok}
use Rattle.ledger.proofs.Refusals.{Ledger, routes_ledger}
use Rattle.rejudge.specs.Rejudging.{rejudged_route}
use Rattle.rejudge.proofs.Rejudgements.{rejudged_ok}
use Rattle.effects.specs.Calls.{Keeping, table_rows, kept_route, keep_rows, keep_effect, rejudge_effect}
use Rattle.effects.proofs.KeptRoutes.{kept_ok}
use Rattle.history.specs.Calls.{Call, file, withdraw, clear, keep, drop, rejudge, rejudged, Tables, Formed, route_read, says, rewritten, with_register, leaves, blank, call_at, tables, said, last, known, find_route}
use Rattle.history.specs.Replies.{ModelReply, refused, done, replaced, new, shown_filed, shown_removal, shown_cleared, shown_judged, shown_rejudged, shown, accepted}
use Rattle.history.specs.Model.{Lists, lists_of, with_lists, Model, refiled, held_by, number_of, holds_kept, put_kept, argument_rows, held_rows, room_rows, room_for_routes, refusal, change, reply_unless, change_unless, reply_to, next, after, reply_at, final, judged_kept, written}
use Rattle.history.specs.Filings.{stored_by}
use Rattle.history.proofs.Origins.{of_each, both_formed}
use Rattle.history.proofs.Keys.{either_way}
use Rattle.history.proofs.Ledgers.{room_known}
use Rattle.history.proofs.KeptRoutes.{kept_known, rejudged_written, rejudged_known}
use Rattle.std.specs.Prelude.{Result, Err, None, Ok, Option, Some, option_map}
use Rattle.types.specs.declared.Filed.TheVariants.{New}
use Rattle.types.specs.declared.Filed.TheVariants.{Replaced}

-- ---- the tables and the model of some lists and some stored routes

-- The words of lists, and the hops over them.
abbrev pub words_of : Lists → Registers
words_of lists = lent (register.register_of lists.public) (register.register_of lists.overrides)

abbrev pub hops_of : Lists → HopFunction
hops_of lists = hop_over lists.public lists.overrides

-- The tables of words.
abbrev pub tables_of : Lists → List Route → Tables
tables_of lists stored = record { registers = words_of lists; ledger = ledger.ledger_of stored }

-- The model.
abbrev pub model_of : Lists → List Route → Model
model_of lists stored = record { lists = lists; routes = map known stored }

-- Tables hold a model: they are the words of its lists and of its routes, with some verdicts, and keep the word rules.
pub record Holds (t : Tables) (m : Model) : Type 0 where
  pub lists : Lists
  pub stored : List Route
  pub lists_ok : (o : Origin) → records_ok (lists_of o lists) ≡ true
  pub routes-ok : routes_ok stored ≡ true
  pub tables_are : t ≡ tables_of lists stored
  pub model_is : m ≡ model_of lists stored

-- What is stored under a number after a call.
abbrev pub stored_next : Tables → Model → Call → ℕ → Option Route
stored_next t m c number =
    cond (accepted (reply_to m c)) (stored_by (hop_in t.registers) number c (find_route number (routes_of t.ledger))) (find_route number (routes_of t.ledger))

-- A call answers as the model, and leaves tables that hold the model after it.
pub record Simulated (t : Tables) (m : Model) (c : Call) : Type 0 where
  pub replies : shown (says t c) ≡ reply_to m c
  pub holds : Holds (leaves t c) (next m c)
  pub stores : (number : ℕ) → find_route number (routes_of (leaves t c).ledger) ≡ stored_next t m c number

-- ---- what the tables show

module _ (lists : List Record) (ok : records_ok lists ≡ true) where
  -- The register holds the lists.
  pub records_are : records_of (register.register_of lists) ≡ lists
  records_are = let room = holding.has_room lists ok in records_of_words lists (room_records lists room) (room_lists lists room)

  -- It keeps the word rules.
  pub is-register : Register (register.register_of lists)
  is-register = records_register lists ok

  -- Rows 1 and 2 are not given.
  pub register_passes : (slots : List (Option Refusal))
      → first_given (table_row (register.register_of lists) ∷ register_row (register.register_of lists) ∷ slots) ≡ first_given slots
  unfolding first_given
  register_passes slots = rw (is-register.long, is-register.ok)

module _ (stored : List Route) (ok : routes_ok stored ≡ true) where
  -- The ledger holds the stored routes.
  pub routes_are : routes_of (ledger.ledger_of stored) ≡ stored
  routes_are = let room = has_room stored ok in routes_of_words stored (room_routes stored room) (room_paths stored room)

  -- It keeps the word rules.
  pub is-ledger : Ledger (ledger.ledger_of stored)
  is-ledger = routes_ledger stored ok

  -- Rows 1 and 3 are not given.
  ledger_passes : (slots : List (Option Refusal))
      → first_given (row_if (not (eqb (length (ledger.ledger_of stored)) ledger_words)) TableLength ∷ ledger_row (ledger.ledger_of stored) ∷ slots) ≡ first_given slots
  unfolding first_given
  ledger_passes slots = rw (is-ledger.long, is-ledger.ok)

-- One register of the words of lists is the words of its lists.
pub chosen_words : (o : Origin) (lists : Lists) → chosen o (words_of lists) ≡ register.register_of (lists_of o lists)
chosen_words Public lists = refl
chosen_words Overrides lists = refl

-- They are well formed.
pub words_formed : (lists : Lists) → ((o : Origin) → records_ok (lists_of o lists) ≡ true) → BothFormed (words_of lists)
words_formed lists ok =
    both_formed (words_of lists) (λ o. rw (chosen_words o lists) (is-register (lists_of o lists) (ok o)).long)
    (λ o. rw (chosen_words o lists) (is-register (lists_of o lists) (ok o)).ok)

-- The hops over them are those over the lists.
pub words_hops : (lists : Lists) → ((o : Origin) → records_ok (lists_of o lists) ≡ true) → hop_in (words_of lists) ≡ hops_of lists
words_hops lists ok = λ i. hop_over (records_are lists.public (ok Public) i) (records_are lists.overrides (ok Overrides) i)

-- Rows 1, 2 and 3 are not given.
tables_pass : (lists : Lists) (stored : List Route) → ((o : Origin) → records_ok (lists_of o lists) ≡ true) → routes_ok stored ≡ true
    → (slots : List (Option Refusal)) → first_given (table_rows (words_of lists) (ledger.ledger_of stored) ++ slots) ≡ first_given slots
unfolding first_given
tables_pass lists stored ok fine slots =
    rw ((words_formed lists ok).long, (words_formed lists ok).ok, (is-ledger stored fine).long, (is-ledger stored fine).ok)

-- What is shown of a refused call is the refusal.
shown_unless : {A : Type 0} (show : Result A Refusal → ModelReply) → ((r : Refusal) → show (Err r) ≡ refused r)
    → (o : Option Refusal) (ws : List ℕ) (accepted : Effect (Result A Refusal)) → show (unless_refused o ws accepted).answer ≡ reply_unless o (show accepted.answer)
shown_unless show e (Some r) ws accepted = e r
shown_unless show e None ws accepted = refl

-- But for their verdicts, routes that are judged anew are those that they were.
known_rejudged : (hop : HopFunction) (rs : List Route) → map known (map (rejudged_route hop) rs) ≡ map known rs
known_rejudged hop [] = refl
known_rejudged hop (r ∷ rs) = λ i. rejudged_known hop r i ∷ known_rejudged hop rs i

-- They are the model's routes, with the verdicts that the model writes.
written_rejudged : (hop : HopFunction) (rs : List Route) → every route_ok rs ≡ true → map (rejudged_route hop) rs ≡ map (judged_kept hop) (map known rs)
unfolding every
written_rejudged hop [] e = refl
written_rejudged hop (r ∷ rs) e = λ i. rejudged_written hop r (both_left (route_ok r) _ e) i ∷ written_rejudged hop rs (both_right (route_ok r) _ e) i

-- ---- each call

module _ (lists : Lists) (stored : List Route) (ok : (o : Origin) → records_ok (lists_of o lists) ≡ true) (fine : routes_ok stored ≡ true) where
  -- A refused call leaves all as it is.
  held : Holds (tables_of lists stored) (model_of lists stored)
  held = record { lists = lists; stored = stored; lists_ok = ok; routes-ok = fine; tables_are = refl; model_is = refl }

  -- The words of one register again, or those of other lists.
  same_words : (o : Origin) → rewritten o (words_of lists) (register.register_of (lists_of o lists)) ≡ words_of lists
  same_words Public = refl
  same_words Overrides = refl

  other_words : (o : Origin) (after : List Record) → rewritten o (words_of lists) (register.register_of after) ≡ words_of (with_lists lists o after)
  other_words Public after = refl
  other_words Overrides after = refl

  -- A call on a register, where the words of `after` are left.
  register_held : (o : Origin) (r : Option Refusal) {A : Type 0} (reply : Result A Refusal) (after : List Record)
      → (r ≡ None → records_ok after ≡ true)
      → Holds
      (with_register (tables_of lists stored) o
      (unless_refused r (register.register_of (lists_of o lists)) (record { answer = reply; words = register.register_of after })).words)
      (change_unless r (model_of lists stored) (refiled (model_of lists stored) o after))
  register_held o (Some r) reply after h =
      record {
        lists = lists;
        stored = stored;
        lists_ok = ok;
        routes-ok = fine;
        tables_are = λ i. record { registers = same_words o i; ledger = ledger.ledger_of stored };
        model_is = refl;
      }
  register_held o None reply after h =
      record {
        lists = with_lists lists o after;
        stored = stored;
        lists_ok = of_each (λ rs. records_ok rs ≡ true) lists o after ok (h refl);
        routes-ok = fine;
        tables_are = λ i. record { registers = other_words o after i; ledger = ledger.ledger_of stored };
        model_is = refl;
      }

  -- A call on the ledger.
  ledger_held : (o : Option Refusal) {A : Type 0} (reply : Result A Refusal) (after : List Route) (n : Model)
      → (o ≡ None → routes_ok after ≡ true) → (o ≡ None → n ≡ model_of lists after)
      → Holds
      (record {
        registers = words_of lists;
        ledger = (unless_refused o (ledger.ledger_of stored) (record { answer = reply; words = ledger.ledger_of after })).words;
      })
      (change_unless o (model_of lists stored) n)
  ledger_held (Some r) reply after n h g = held
  ledger_held None reply after n h g =
      record { lists = lists; stored = after; lists_ok = ok; routes-ok = h refl; tables_are = refl; model_is = g refl }

  -- What is stored under a number after a call on the ledger.
  ledger_stores : (o : Option Refusal) {A : Type 0} (reply : Result A Refusal) (after : List Route) (number : ℕ) (v : Option Route)
      → (o ≡ None → routes_ok after ≡ true) → find_route number after ≡ v
      → find_route number (routes_of (unless_refused o (ledger.ledger_of stored) (record { answer = reply; words = ledger.ledger_of after })).words)
      ≡ cond (accepted (reply_unless o done)) v (find_route number (routes_of (ledger.ledger_of stored)))
  ledger_stores (Some r) reply after number v h e = refl
  ledger_stores None reply after number v h e = ap (find_route number) (routes_are after (h refl)) ∙ e

  -- What was stored under a number before it.
  stored_before : (number : ℕ) → find_route number (routes_of (ledger.ledger_of stored)) ≡ find_route number stored
  stored_before number = ap (find_route number) (routes_are stored fine)

  module _ (o : Origin) (s c : ℕ) (list : List ℕ) where
    -- File, as the model refuses it.
    file_step :
        file_effect (chosen o (words_of lists)) s c list
        ≡ unless_refused (refusal (model_of lists stored) (file o s c list)) (register.register_of (lists_of o lists))
        (record { answer = Ok (filed_as (record_for s c list) (lists_of o lists)); words = register.register_of (put_record (record_for s c list) (lists_of o lists)) })
    unfolding file_effect refusal
    file_step = rw (chosen_words o lists, register_passes (lists_of o lists) (ok o), records_are (lists_of o lists) (ok o))

    -- Its answer is the one that the model gives.
    filed_shown : (b : Bool) → shown_filed (Ok (cond b Replaced New)) ≡ cond b replaced new
    filed_shown true = refl
    filed_shown false = refl

    -- An accepted list keeps the rules.
    filed_ok : refusal (model_of lists stored) (file o s c list) ≡ None → records_ok (put_record (record_for s c list) (lists_of o lists)) ≡ true
    unfolding refusal
    filed_ok e =
        let given = accepted_none _ e in
        changes.put_ok (lists_of o lists) (ok o) (record_for s c list)
        (record-ok (record_for s c list) (row_passed _ _ (given 0)) (row_passed _ _ (given 1)) (not-false _ (row_passed _ _ (given 2))))
        (not-false _ (row_passed _ _ (given 3)))

    -- Filing.
    file_simulated : Simulated (tables_of lists stored) (model_of lists stored) (file o s c list)
    file_simulated = record {
      replies =
          ap (λ x. shown_filed x.answer) file_step
          ∙ shown_unless shown_filed (λ r. refl) (refusal (model_of lists stored) (file o s c list)) _ _
          ∙ ap (reply_unless (refusal (model_of lists stored) (file o s c list))) (filed_shown (holds_record c s (lists_of o lists)));
      holds = rw file_step (register_held o (refusal (model_of lists stored) (file o s c list)) _ _ filed_ok);
      stores = λ number. sym (either_way (accepted (reply_to (model_of lists stored) (file o s c list))) _);
    }

  module _ (o : Origin) (s c : ℕ) where
    -- Withdraw, as the model refuses it.
    withdraw_step :
        withdraw_effect (chosen o (words_of lists)) s c
        ≡ unless_refused (refusal (model_of lists stored) (withdraw o s c)) (register.register_of (lists_of o lists))
        (record { answer = Ok (tt {0}); words = register.register_of (erase_record c s (lists_of o lists)) })
    unfolding withdraw_effect refusal
    withdraw_step = rw (chosen_words o lists, register_passes (lists_of o lists) (ok o), records_are (lists_of o lists) (ok o))

    -- Withdrawing.
    withdraw_simulated : Simulated (tables_of lists stored) (model_of lists stored) (withdraw o s c)
    withdraw_simulated = record {
      replies =
          ap (λ x. shown_removal x.answer) withdraw_step
          ∙ shown_unless shown_removal (λ r. refl) (refusal (model_of lists stored) (withdraw o s c)) _ _;
      holds = rw withdraw_step
          (register_held o (refusal (model_of lists stored) (withdraw o s c)) _ _
          (λ e. changes.without_ok (lists_of o lists) (ok o) (same_pair (c, s))));
      stores = λ number. sym (either_way (accepted (reply_to (model_of lists stored) (withdraw o s c))) _);
    }

  module _ (o : Origin) (s : ℕ) where
    -- Clear, as the model refuses it.
    clear_step :
        clear_effect (chosen o (words_of lists)) s
        ≡ unless_refused (refusal (model_of lists stored) (clear o s)) (register.register_of (lists_of o lists))
        (record { answer = Ok (count_records s (lists_of o lists)); words = register.register_of (clear_records s (lists_of o lists)) })
    unfolding clear_effect refusal
    clear_step = rw (chosen_words o lists, register_passes (lists_of o lists) (ok o), records_are (lists_of o lists) (ok o))

    -- Clearing.
    clear_simulated : Simulated (tables_of lists stored) (model_of lists stored) (clear o s)
    clear_simulated = record {
      replies =
          ap (λ x. shown_cleared x.answer) clear_step
          ∙ shown_unless shown_cleared (λ r. refl) (refusal (model_of lists stored) (clear o s)) _ _;
      holds = rw clear_step
          (register_held o (refusal (model_of lists stored) (clear o s)) _ _ (λ e. changes.without_ok (lists_of o lists) (ok o) (of_source s)));
      stores = λ number. sym (either_way (accepted (reply_to (model_of lists stored) (clear o s))) _);
    }

  module _ (n : ℕ) where
    -- Drop, as the model refuses it.
    drop_step :
        drop_effect (ledger.ledger_of stored) n
        ≡ unless_refused (refusal (model_of lists stored) (drop n)) (ledger.ledger_of stored)
        (record { answer = Ok (tt {0}); words = ledger.ledger_of (erase_route n stored) })
    unfolding drop_effect refusal
    drop_step = rw (ledger_passes stored fine, routes_are stored fine, holds_map key_of number_of eqb ltb known (λ r. refl) n stored)

    -- Dropping.
    drop_simulated : Simulated (tables_of lists stored) (model_of lists stored) (drop n)
    drop_simulated = record {
      replies =
          ap (λ x. shown_removal x.answer) drop_step
          ∙ shown_unless shown_removal (λ r. refl) (refusal (model_of lists stored) (drop n)) _ _;
      holds = rw drop_step
          (ledger_held (refusal (model_of lists stored) (drop n)) _ _ _ (λ e. without_ok stored fine (eqb n))
          (λ e. ap (λ rs. record { lists = lists; routes = rs }) (without_map key_of number_of eqb ltb known (λ r. refl) (eqb n) stored)));
      stores = λ number.
          ap (λ x. find_route number (routes_of x.words)) drop_step
          ∙ ledger_stores (refusal (model_of lists stored) (drop n)) _ (erase_route n stored) number _ (λ e. without_ok stored fine (eqb n))
          (find_without key_of eqb ltb ordered_ℕ number (eqb n) stored ∙ ap (cond (eqb n number) None) (sym (stored_before number)));
    }

  module _ (k : Keeping) where
    -- A keeping whose arguments bar it not asks of the model and of the ledger for the same room.
    same_room : first_given (argument_rows (keep k)) ≡ None
        → ledger.room_for (put_route (kept_route (words_of lists) k) stored)
        ≡ room_for_routes (put_kept (route_read k) (map known stored))
    same_room e =
        room_known (put_route (kept_route (words_of lists) k) stored)
        ∙ ap room_for_routes (sym (put_map key_of number_of eqb ltb known (λ r. refl) (kept_route (words_of lists) k) stored))
        ∙ ap (λ r. room_for_routes (put_kept r (map known stored))) (kept_known (words_of lists) k e)

    -- Keep is refused as by the model.
    keep_refusal : first_given (keep_rows (words_of lists) (ledger.ledger_of stored) k)
        ≡ refusal (model_of lists stored) (keep k)
    unfolding refusal first_given
    keep_refusal =
        tables_pass lists stored ok fine (argument_rows (keep k) ++ store)
        ∙ first_append (argument_rows (keep k)) store
        ∙ rw (
          routes_are stored fine,
          ← holds_map key_of number_of eqb ltb known (λ r. refl) k.number stored,
          first_append (argument_rows (keep k)) (held_rows (model_of lists stored) (keep k)
              ++ room_rows (model_of lists stored) (keep k)),
        ) (go (first_given (argument_rows (keep k))) refl)
      where
        store : List (Option Refusal)
        store = store_rows (ledger.ledger_of stored) (kept_route (words_of lists) k)

        go : (o : Option Refusal) → first_given (argument_rows (keep k)) ≡ o
            → or_else o (or_else (row_if (holds_kept k.number (map known stored)) RouteTaken)
            (or_else (row_if (not (ledger.room_for (put_route (kept_route (words_of lists) k) stored))) RoutesFull) None))
            ≡ or_else o (or_else (row_if (holds_kept k.number (map known stored)) RouteTaken)
            (or_else (row_if (not (room_for_routes (put_kept (route_read k) (map known stored)))) RoutesFull) None))
        go (Some r) e = refl
        go None e = rw (same_room e)

    -- A keeping that is not refused passed rows 9 to 17 and has room.
    passed : refusal (model_of lists stored) (keep k) ≡ None
        → (first_given (argument_rows (keep k)) ≡ None)
        × (room_for_routes (put_kept (route_read k) (map known stored)) ≡ true)
    unfolding refusal first_given
    passed e =
        go (first_given (argument_rows (keep k))) (holds_kept k.number (map known stored))
        (room_for_routes (put_kept (route_read k) (map known stored)))
        (sym (first_append (argument_rows (keep k)) (held_rows (model_of lists stored) (keep k)
        ++ room_rows (model_of lists stored) (keep k))) ∙ e)
      where
        go : (o : Option Refusal) (b c : Bool) → or_else o (or_else (row_if b RouteTaken) (or_else (row_if (not c) RoutesFull) None)) ≡ None
            → (o ≡ None) × (c ≡ true)
        go (Some r) b c h = some_not_none h
        go None true c h = some_not_none h
        go None false true h = (refl, refl)
        go None false false h = some_not_none h

    -- Keep, as the model refuses it.
    pub keep_step :
        keep_effect (words_of lists) (ledger.ledger_of stored) k
        ≡ unless_refused (refusal (model_of lists stored) (keep k)) (ledger.ledger_of stored)
        (record {
          answer = judged_route (hops_of lists) k.role k.neighbour k.attribute;
          words = ledger.ledger_of (put_route (kept_route (words_of lists) k) stored);
        })
    unfolding keep_effect
    keep_step = rw (keep_refusal, routes_are stored fine, words_hops lists ok)

    -- A judging that rows 9 to 17 do not refuse is answered.
    judged_done : first_given (argument_rows (keep k)) ≡ None → shown_judged (judged_route (hops_of lists) k.role k.neighbour k.attribute) ≡ done
    judged_done e = go (judgement (hops_of lists) k.role k.neighbour k.attribute e)
      where
        go : Judgement (hops_of lists) k.role k.neighbour k.attribute
            → shown_judged (judged_route (hops_of lists) k.role k.neighbour k.attribute) ≡ done
        go (on-ground g c j) = rw j
        go (on_path path c short j) = rw j

    -- Keeping.
    keep_simulated : Simulated (tables_of lists stored) (model_of lists stored) (keep k)
    keep_simulated = record {
      replies =
          ap (λ x. shown_judged x.answer) keep_step
          ∙ shown_unless shown_judged (λ r. refl) (refusal (model_of lists stored) (keep k)) _ _
          ∙ answered (refusal (model_of lists stored) (keep k)) refl;
      holds = rw keep_step
          (ledger_held (refusal (model_of lists stored) (keep k)) _ _ _ stays_ok (λ e. same_routes (passed e).0));
      stores = λ number.
          ap (λ x. find_route number (routes_of x.words)) keep_step
          ∙ ledger_stores (refusal (model_of lists stored) (keep k)) _ (put_route r stored) number _ stays_ok
          (find_put key_of eqb ltb ordered_ℕ number r stored
          ∙ ap (λ b. cond b (Some r) (find_route number stored)) (same_flip eqb ltb ordered_ℕ number k.number)
          ∙ ap (cond (eqb k.number number) (Some r)) (sym (stored_before number)));
    }
      where
        r : Route
        r = kept_route (words_of lists) k

        answered : (o : Option Refusal) → refusal (model_of lists stored) (keep k) ≡ o
            → reply_unless o (shown_judged (judged_route (hops_of lists) k.role k.neighbour k.attribute)) ≡ reply_unless o done
        answered (Some x) e = refl
        answered None e = judged_done (passed e).0

        stays_ok : refusal (model_of lists stored) (keep k) ≡ None → routes_ok (put_route r stored) ≡ true
        stays_ok e =
            let p = passed e in
            put_ok stored fine r (kept_ok (words_of lists) k p.0) (same_room p.0 ∙ p.1)

        same_routes : first_given (argument_rows (keep k)) ≡ None
            → change (model_of lists stored) (keep k) ≡ model_of lists (put_route r stored)
        same_routes e =
            ap (λ x. record { lists = lists; routes = put_kept x (map known stored) }) (sym (kept_known (words_of lists) k e))
            ∙ ap (λ rs. record { lists = lists; routes = rs }) (put_map key_of number_of eqb ltb known (λ r. refl) r stored)

  -- Re-judge, which the model does not refuse.
  pub rejudge_step :
      rejudge_effect (words_of lists) (ledger.ledger_of stored)
      ≡ record {
        answer = Ok (count_differing stored (map (rejudged_route (hops_of lists)) stored));
        words = ledger.ledger_of (map (rejudged_route (hops_of lists)) stored);
      }
  unfolding rejudge_effect first_given
  rejudge_step = rw (tables_pass lists stored ok fine, routes_are stored fine, words_hops lists ok)

  -- Re-judging.
  rejudge_simulated : Simulated (tables_of lists stored) (model_of lists stored) rejudge
  unfolding refusal first_given
  rejudge_simulated = record {
    replies = ap (λ x. shown_rejudged x.answer) rejudge_step;
    holds = rw rejudge_step (record {
      lists = lists;
      stored = map (rejudged_route (hops_of lists)) stored;
      lists_ok = ok;
      routes-ok = rejudged_ok (hops_of lists) stored fine;
      tables_are = refl;
      model_is = ap (λ rs. record { lists = lists; routes = rs }) (sym (known_rejudged (hops_of lists) stored));
    });
    stores = λ number.
        ap (λ x. find_route number (routes_of x.words)) rejudge_step
        ∙ ap (find_route number) (routes_are (map (rejudged_route (hops_of lists)) stored) (rejudged_ok (hops_of lists) stored fine))
        ∙ find_map key_of key_of eqb ltb (rejudged_route (hops_of lists)) (λ k. ap (λ x. x.number) (rejudged_known (hops_of lists) k)) number stored
        ∙ (λ i. option_map (rejudged_route (sym (words_hops lists ok) i)) (sym (stored_before number) i));
  }

  -- A re-judging answers how many routes differ between the ledger before and after it.
  pub rejudge_counts :
      says (tables_of lists stored) rejudge
      ≡ rejudged (Ok (count_differing (routes_of (ledger.ledger_of stored)) (routes_of (leaves (tables_of lists stored) rejudge).ledger)))
  rejudge_counts =
      rw (
        rejudge_step,
        routes_are (map (rejudged_route (hops_of lists)) stored) (rejudged_ok (hops_of lists) stored fine),
        routes_are stored fine,
      )

  -- Any call.
  any_simulated : (c : Call) → Simulated (tables_of lists stored) (model_of lists stored) c
  any_simulated (file o s c list) = file_simulated o s c list
  any_simulated (withdraw o s c) = withdraw_simulated o s c
  any_simulated (clear o s) = clear_simulated o s
  any_simulated (keep k) = keep_simulated k
  any_simulated (drop n) = drop_simulated n
  any_simulated rejudge = rejudge_simulated

  -- A last re-judging leaves the model written out.
  last_written : leaves (tables_of lists stored) rejudge ≡ written (model_of lists stored)
  unfolding written
  last_written =
      ap (λ x. record { registers = words_of lists; ledger = x.words }) rejudge_step
      ∙ ap (λ rs. record { registers = words_of lists; ledger = ledger.ledger_of rs }) (written_rejudged (hops_of lists) stored (each_ok stored fine))

-- ---- whole lists of calls

-- Any call on tables that hold a model.
pub simulated : (t : Tables) (m : Model) (c : Call) → Holds t m → Simulated t m c
simulated t m c h = rw (h.tables_are, h.model_is) (any_simulated h.lists h.stored h.lists_ok h.routes-ok c)

-- Zeros hold nothing.
zeros : (size : ℕ) → 2 ≤ size → replicate size 0 ≡ encode size []
unfolding encode pad slots bodies
zeros size h = let e : 2 + (size - 2) ≡ size = omega arith in sym (replicate-append-replicate 2 (size - 2) 0 ∙ ap (λ n. replicate n 0) e)

abbrev pub no_lists : Lists
no_lists = record { public = []; overrides = [] }

-- So the empty tables are the words of no lists and no routes,
blank_tables : blank ≡ tables_of no_lists []
unfolding blank register.register_of ledger.ledger_of
blank_tables = λ i. record { registers = lent (zeros register_words (lit≤ tt) i) (zeros register_words (lit≤ tt) i); ledger = zeros ledger_words (lit≤ tt) i }

-- which keep the rules,
nothing_ok : ((o : Origin) → records_ok (lists_of o no_lists) ≡ true) × (routes_ok [] ≡ true)
unfolding records_ok room_for register.listed every ascends routes_ok ledger.room_for ledger.path_words bodies
nothing_ok = (elim [ Public ↦ refl | Overrides ↦ refl ], refl)

-- so that they are a start,
pub blank_formed : Formed blank
blank_formed =
    let s : Ledger (ledger.ledger_of []) = is-ledger [] nothing_ok.1 in
    rw blank_tables (record {
      register_long = λ o. rw (chosen_words o no_lists) (is-register (lists_of o no_lists) (nothing_ok.0 o)).long;
      register-ok = λ o. rw (chosen_words o no_lists) (is-register (lists_of o no_lists) (nothing_ok.0 o)).ok;
      ledger_long = s.long;
      ledger-ok = s.ok;
    })

-- and they hold nothing.
pub blank_empty : ((o : Origin) → records_of (chosen o blank.registers) ≡ []) × (routes_of blank.ledger ≡ [])
blank_empty = rw blank_tables (elim [ Public ↦ none_there | Overrides ↦ none_there ], routes_are [] nothing_ok.1)
  where
    none_there : records_of (register.register_of []) ≡ []
    none_there = records_are [] (nothing_ok.0 Public)

-- Well-formed tables hold the lists and routes that they show.
formed_holds : (t : Tables) → Formed t → Holds t (held_by t)
formed_holds t f = record {
  lists = (held_by t).lists;
  stored = routes_of t.ledger;
  lists_ok = elim [
    | Public ↦ holding.records-ok t.registers.public (f.register-ok Public)
    | Overrides ↦ holding.records-ok t.registers.overrides (f.register-ok Overrides)
  ];
  routes-ok = ledger_holding.routes-ok t.ledger f.ledger-ok;
  tables_are = λ i. record {
    registers = lent (words_are t.registers.public (f.register-ok Public) (f.register_long Public) i)
        (words_are t.registers.overrides (f.register-ok Overrides) (f.register_long Overrides) i);
    ledger = ledger_entries.words_are t.ledger (ledger_holding.sound t.ledger f.ledger-ok) f.ledger_long i;
  };
  model_is = refl;
}
  where
    words_are : (ws : List ℕ) → register_ok ws ≡ true → length ws ≡ register_words → ws ≡ register.register_of (records_of ws)
    words_are ws good long = register_entries.words_are ws (holding.sound ws good) long

-- After each call the tables hold the model.
pub history_holds : (t : Tables) → Formed t → (l : List Call) (i : ℕ) → Holds (tables t l i) (after t l i)
unfolding tables after
history_holds t f l zero = formed_holds t f
history_holds t f l (suc i) = (simulated (tables t l i) (after t l i) (call_at l i) (history_holds t f l i)).holds

-- What is stored after one call more.
pub history_stores : (t : Tables) → Formed t → (l : List Call) (i number : ℕ)
    → find_route number (routes_of (tables t l (suc i)).ledger) ≡ stored_next (tables t l i) (after t l i) (call_at l i) number
unfolding tables
history_stores t f l i number = (simulated (tables t l i) (after t l i) (call_at l i) (history_holds t f l i)).stores number

-- Each call is answered as by the model.
pub history_replies : (t : Tables) → Formed t → (l : List Call) (i : ℕ) → shown (said t l i) ≡ reply_at t l i
history_replies t f l i = (simulated (tables t l i) (after t l i) (call_at l i) (history_holds t f l i)).replies

-- After the whole list and one last re-judging the tables are the model written out.
pub history_written : (t : Tables) → Formed t → (l : List Call) → last t l ≡ written (final t l)
history_written t f l =
    let h : Holds (tables t l (length l)) (final t l) = history_holds t f l (length l) in
    rw (h.tables_are, h.model_is) (last_written h.lists h.stored h.lists_ok h.routes-ok)
