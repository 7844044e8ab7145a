-- Demands 2 and 3 hold. Assumes nothing.
use Prim.Native.Nat.{ℕ, zero, suc, ◌≤◌, ◌<◌}
use mathlib.Core.Path.{◌≡◌, refl, sym, ap, ◌∙◌}
use mathlib.Core.Bool.{Bool, true, false, cond}
use mathlib.Core.List.{List, map}
use native.Mathlib.Omega.{arith}
use borrow.Author.Tests.{eqb-true, eqb-false}
use lib.Dec.{eqb, ltb}
use native.Mathlib.Decide.{dec_lt}
use lib.ListN.{length, get_or-eq_default}
use Rattle.types.specs.declared.Origin.{Origin}
use Rattle.types.specs.declared.Origin.TheVariants.{Public, Overrides}
use Rattle.types.specs.declared.Verdict.{Verdict}
use Rattle.types.specs.declared.Answer.{Answer}
use Rattle.types.specs.declared.Refusal.{Refusal}
use Rattle.types.specs.Numbers.{verdict_number, place_a, place_b, verdict_of}
use Rattle.types.specs.Rows.{first_given, unless_refused}
use Rattle.keyed.specs.Keyed.{same_pair, before_pair}
use Rattle.keyed.proofs.Orders.{ordered_pairs, ordered_ℕ}
use Rattle.keyed.proofs.Finds.{find_key, every_found, same_finds}
use Rattle.keyed.proofs.Mapping.{find_map}
use Rattle.rules.specs.Hops.{HopFunction}
use Rattle.rules.specs.Records.{Record, list_of, counting}
use Rattle.rules.specs.Verdicts.{judged}
use Rattle.rules.specs.Judging.{judged_route}
use Rattle.rules.proofs.Drafting.{draft-judged, draft-route}
use Rattle.register.specs.Register.{register_words, last_source, records_of, register_ok}
use Rattle.register.specs.Register as register
use Rattle.register.specs.Calls.{record_for}
use Rattle.register.proofs.Holding as holding
use Rattle.register.proofs.Refusals.{Register}
use Rattle.registers.specs.Registers.{chosen, hop_in, BothFormed}
use Rattle.ledger.specs.Routes.{ledger_words, ledger_ok, Route, routes_of, route_ok, key_of}
use Rattle.ledger.specs.Routes as ledger
use Rattle.ledger.specs.Calls.{stamped, count_differing}
use Rattle.ledger.proofs.Holding.{each_ok, in-order}
use Rattle.ledger.proofs.Holding as ledger_holding
use Rattle.ledger.proofs.Refusals.{Ledger}
use Rattle.rejudge.specs.Rejudging.{rejudged_route}
use Rattle.rejudge.proofs.Rejudgements.{some_numbers, rejudged_ok}
use Rattle.effects.specs.Calls.{Keeping, judge_answer, keep_effect, rejudge_effect, hop_answer, lookup_list}
use Rattle.effects.proofs.Judgings.{judge_answers}
use Rattle.effects.proofs.Lookups.{hop_answers, lookup_answers}
use Rattle.history.specs.Calls.{Call, file, withdraw, clear, keep, drop, rejudge, filed, removed, cleared, kept, rejudged, Scope, of_pair, of-source, of_route, idle, scope, Tables, Formed, tables, says, call_at, scope_at, said, last, find_record, find_route, providers_of, known}
use Rattle.history.specs.Replies.{ModelReply, new, replaced, done, gone, refused, shown_filed, shown_removal, shown_cleared, shown, for_room, accepted}
use Rattle.history.specs.Model.{lists_of, lists_in, number_of, find_kept, refusal, after, reply_at, written}
use Rattle.history.specs.Filings.{filed_list, kept_route_at, hop_filed_over, list_filed_over, hops_at, list_at, stored_by, stored_at}
use Rattle.history.specs.Reorderings.{IsRegisterStep, IsStep, Reordering}
use Rattle.history.specs.Demands.{Roomy, Drafted, Demand2, Demand3, Demands}
use Rattle.history.proofs.Origins.{both_formed}
use Rattle.history.proofs.Entries.{once}
use Rattle.history.proofs.Matching.{RoomyModel, same_replies, same_final}
use Rattle.history.proofs.KeptRoutes.{on_a_ground, rejudged_known}
use Rattle.history.proofs.Simulating.{words_of, hops_of, model_of, Holds, records_are, is-register, chosen_words, words_hops, routes_are, is-ledger, keep_step, rejudge_step, rejudge_counts, history_holds, history_stores, history_replies, history_written}
use Rattle.history.proofs.FiledLists.{filed-list, kept_route}
use Rattle.history.proofs.FiledHops.{lists_held, filed_over, list_over}
use Rattle.std.specs.Prelude.{Err, None, Ok, Option, Result, Some, option_map}
use Rattle.types.specs.declared.Filed.{Filed}
use Rattle.types.specs.declared.Filed.TheVariants.{New}
use Rattle.types.specs.declared.Filed.TheVariants.{Replaced}

-- A keeping that is answered answers what is judged.
keep_answered : (o : Option Refusal) (hop : HopFunction) (role neighbour : ℕ) (attribute ws ws' : List ℕ) (a : Answer)
    → (unless_refused o ws (record { answer = judged_route hop role neighbour attribute; words = ws' })).answer ≡ Ok a
    → judged_route hop role neighbour attribute ≡ Ok a
keep_answered (Some r) hop role neighbour attribute ws ws' a e = let z : ◌≡◌ {A = ℕ} 0 1 = cc in absurd (omega arith)
keep_answered None hop role neighbour attribute ws ws' a e = e

-- ---- what the tables hold after i calls

module _ (t : Tables) (f : Formed t) (l : List Call) (i : ℕ) where
  -- The tables hold the model.
  holds_at : Holds (tables t l i) (after t l i)
  holds_at = history_holds t f l i

  -- The registers are the words of the model's lists, the ledger those of the stored routes.
  registers_are : (tables t l i).registers ≡ words_of holds_at.lists
  registers_are = ap (λ t. t.registers) holds_at.tables_are

  register_is : (o : Origin) → chosen o (tables t l i).registers ≡ register.register_of (lists_of o holds_at.lists)
  register_is o = ap (chosen o) registers_are ∙ chosen_words o holds_at.lists

  ledger_is : (tables t l i).ledger ≡ ledger.ledger_of holds_at.stored
  ledger_is = ap (λ t. t.ledger) holds_at.tables_are

  -- The records are the model's lists.
  model_lists : holds_at.lists ≡ (after t l i).lists
  model_lists = sym (ap (λ m. m.lists) holds_at.model_is)

  lists_are : (o : Origin) → records_of (chosen o (tables t l i).registers) ≡ lists_in o (after t l i)
  lists_are o = ap records_of (register_is o) ∙ records_are (lists_of o holds_at.lists) (holds_at.lists_ok o) ∙ ap (lists_of o) model_lists

  -- What they hold is what is filed.
  held_filed : (o : Origin) → lists_held (lists_of o holds_at.lists) ≡ filed_list t l i o
  held_filed o = ap (λ ls. lists_held (lists_of o ls)) model_lists ∙ (λ j source customer. filed-list o source customer t f l i j)

  -- The hops are those over the filed lists, and the list that counts is one of these.
  hops_are : hops_of holds_at.lists ≡ hops_at t l i
  hops_are =
      filed_over holds_at.lists.public holds_at.lists.overrides (holds_at.lists_ok Public) (holds_at.lists_ok Overrides)
      ∙ (λ j. hop_filed_over (held_filed Public j) (held_filed Overrides j))

  list_is : (source x : ℕ) → list_of (counting holds_at.lists.public holds_at.lists.overrides x) source x ≡ list_at t l i source x
  list_is source x =
      list_over holds_at.lists.public holds_at.lists.overrides (holds_at.lists_ok Public) (holds_at.lists_ok Overrides) source x
      ∙ (λ j. list_filed_over (held_filed Public j) (held_filed Overrides j) source x)

  -- They are the model's.
  pub hops_model : hops_at t l i ≡ hops_of (after t l i).lists
  hops_model = sym hops_are ∙ ap hops_of model_lists

  pub list_model : (source x : ℕ) → list_at t l i source x ≡ list_of (counting (after t l i).lists.public (after t l i).lists.overrides x) source x
  list_model source x = sym (list_is source x) ∙ ap (λ ls. list_of (counting ls.public ls.overrides x) source x) model_lists

  -- The tables keep the word rules.
  formed_register : (o : Origin)
      → (length (chosen o (tables t l i).registers) ≡ register_words) × (register_ok (chosen o (tables t l i).registers) ≡ true)
  formed_register o =
      let r : Register (register.register_of (lists_of o holds_at.lists)) = is-register (lists_of o holds_at.lists) (holds_at.lists_ok o) in
      rw (register_is o) (r.long, r.ok)

  formed_both : BothFormed (tables t l i).registers
  formed_both = both_formed (tables t l i).registers (λ o. (formed_register o).0) (λ o. (formed_register o).1)

  formed_ledger : (length (tables t l i).ledger ≡ ledger_words) × (ledger_ok (tables t l i).ledger ≡ true)
  formed_ledger =
      let r : Ledger (ledger.ledger_of holds_at.stored) = is-ledger holds_at.stored holds_at.routes-ok in
      rw ledger_is (r.long, r.ok)

  -- The stored routes, but for their verdicts, are those kept.
  kept_are : (number : ℕ) → option_map known (find_route number (routes_of (tables t l i).ledger)) ≡ kept_route_at t l i number
  kept_are number =
      ap (λ ws. option_map known (find_route number (routes_of ws))) ledger_is
      ∙ ap (λ rs. option_map known (find_route number rs)) (routes_are holds_at.stored holds_at.routes-ok)
      ∙ sym (find_map key_of number_of eqb ltb known (λ r. refl) number holds_at.stored)
      ∙ ap (λ m. find_kept number m.routes) (sym holds_at.model_is)
      ∙ kept_route number t f l i

  -- The hops over the words of the registers are those over the filed lists.
  pub hops_over : hop_in (tables t l i).registers ≡ hops_at t l i
  hops_over = ap hop_in registers_are ∙ words_hops holds_at.lists holds_at.lists_ok ∙ hops_are

  -- Judge answers over the filed lists.
  judge-answer : (role neighbour : ℕ) (attribute : List ℕ)
      → judge_answer (tables t l i).registers role neighbour attribute ≡ judged_route (hops_at t l i) role neighbour attribute
  judge-answer role neighbour attribute =
      judge_answers (tables t l i).registers role neighbour attribute formed_both.long formed_both.ok
      ∙ ap (λ hop. judged_route hop role neighbour attribute) hops_over

  -- So do Hop and the look-up.
  hop-answer : (x y : ℕ) → hop_answer (tables t l i).registers x y ≡ Ok (hops_at t l i x y)
  hop-answer x y = hop_answers (tables t l i).registers x y formed_both ∙ ap (λ hop. Ok (hop x y)) hops_over

  lookup_answer : (source customer : ℕ) → source ≤ last_source → 1 ≤ customer
      → lookup_list (tables t l i).registers source customer ≡ list_at t l i source customer
  lookup_answer source customer a b =
      lookup_answers (tables t l i).registers source customer formed_both a b
      ∙ (λ j. list_of (counting (records_in Public j) (records_in Overrides j) customer) source customer)
      ∙ list_is source customer
    where
      records_in : (o : Origin) → records_of (chosen o (tables t l i).registers) ≡ lists_of o holds_at.lists
      records_in o = ap records_of (register_is o) ∙ records_are (lists_of o holds_at.lists) (holds_at.lists_ok o)

  -- So does a keeping that is answered.
  keep_answer : (k : Keeping) (a : Answer) → kept (keep_effect (tables t l i).registers (tables t l i).ledger k).answer ≡ kept (Ok a)
      → judged_route (hops_at t l i) k.role k.neighbour k.attribute ≡ Ok a
  keep_answer k a e =
      let step = keep_step holds_at.lists holds_at.stored holds_at.lists_ok holds_at.routes-ok k in
      let g : (keep_effect (tables t l i).registers (tables t l i).ledger k).answer ≡ Ok a = cc in
      let o : Option Refusal = refusal (model_of holds_at.lists holds_at.stored) (keep k) in
      rw (← hops_are) (keep_answered o _ k.role k.neighbour k.attribute _ _ a (rw (registers_are, ledger_is, step) at g))

  -- A re-judging counts the routes that it changes.
  rejudge_count : call_at l i ≡ rejudge
      → said t l i ≡ rejudged (Ok (count_differing (routes_of (tables t l i).ledger) (routes_of (tables t l (suc i)).ledger)))
  unfolding tables
  rejudge_count c = rw (c, holds_at.tables_are) (rejudge_counts holds_at.lists holds_at.stored holds_at.lists_ok holds_at.routes-ok)

-- What is stored under a number, with its verdict.
stored-at : (t : Tables) → Formed t → (l : List Call) (number i : ℕ) → find_route number (routes_of (tables t l i).ledger) ≡ stored_at t l i number
unfolding stored_at tables after
stored-at t f l number zero = refl
stored-at t f l number (suc i) =
    history_stores t f l i number
    ∙ ap (λ r. cond (accepted r) (stored_by (hop_in (tables t l i).registers) number (call_at l i) (before i)) (before i)) (sym (history_replies t f l i))
    ∙ (λ j. cond (accepted (shown (said t l i))) (stored_by (hops_over t f l i j) number (call_at l i) (stored-at t f l number i j)) (stored-at t f l number i j))
  where
    before : ℕ → Option Route
    before k = find_route number (routes_of (tables t l k).ledger)

-- A record is its key and its list.
record_found : (k : ℕ × ℕ) (rs : List Record)
    → find_record k rs ≡ option_map (λ list. record_for k.1 k.0 list) (providers_of (find_record k rs))
record_found k rs = go (find_record k rs) refl
  where
    go : (o : Option Record) → find_record k rs ≡ o → o ≡ option_map (λ list. record_for k.1 k.0 list) (providers_of o)
    go None e = refl
    go (Some r) e =
        let q : register.key_of r ≡ k = find_key register.key_of same_pair before_pair ordered_pairs k rs r e in
        λ i. Some (record { customer = (q i).0; source = (q i).1; providers = r.providers })

module _ (t : Tables) (f : Formed t) (l m : List Call) (i j : ℕ) where
  -- The same lists filed in a register: the same words there.
  registers_alike : (o : Origin) → ((source customer : ℕ) → filed_list t l i o source customer ≡ filed_list t m j o source customer)
      → chosen o (tables t l i).registers ≡ chosen o (tables t m j).registers
  registers_alike o e = register_is t f l i o ∙ ap register.register_of same ∙ sym (register_is t f m j o)
    where
      held : (n : List Call) (x : ℕ) → List Record
      held n x = lists_of o (holds_at t f n x).lists

      there : (n : List Call) (x : ℕ) (k : ℕ × ℕ)
          → find_record k (held n x) ≡ option_map (λ list. record_for k.1 k.0 list) (filed_list t n x o k.1 k.0)
      there n x k =
          record_found k (held n x)
          ∙ ap (λ lists. option_map (λ list. record_for k.1 k.0 list) (lists k.1 k.0)) (held_filed t f n x o)

      same : held l i ≡ held m j
      same =
          same_finds register.key_of same_pair before_pair ordered_pairs (held l i) (held m j)
          (holding.in-order (held l i) ((holds_at t f l i).lists_ok o)) (holding.in-order (held m j) ((holds_at t f m j).lists_ok o))
          (λ k. there l i k ∙ ap (option_map (λ list. record_for k.1 k.0 list)) (e k.1 k.0) ∙ sym (there m j k))

  -- The same routes stored: the same ledger.
  ledgers_alike : ((number : ℕ) → stored_at t l i number ≡ stored_at t m j number) → (tables t l i).ledger ≡ (tables t m j).ledger
  ledgers_alike e = ledger_is t f l i ∙ ap ledger.ledger_of same ∙ sym (ledger_is t f m j)
    where
      there : (n : List Call) (x number : ℕ) → find_route number (holds_at t f n x).stored ≡ stored_at t n x number
      there n x number =
          ap (find_route number) (sym (ap routes_of (ledger_is t f n x) ∙ routes_are (holds_at t f n x).stored (holds_at t f n x).routes-ok)) ∙ stored-at t f n number x

      same : (holds_at t f l i).stored ≡ (holds_at t f m j).stored
      same =
          same_finds key_of eqb ltb ordered_ℕ (holds_at t f l i).stored (holds_at t f m j).stored
          (in-order (holds_at t f l i).stored (holds_at t f l i).routes-ok) (in-order (holds_at t f m j).stored (holds_at t f m j).routes-ok)
          (λ k. there l i k ∙ e k ∙ sym (there m j k))

-- Demand 2.
pub demand2 : (t : Tables) → Formed t → Demand2 t
demand2 t f = record {
  lists-held =
      λ l i o source customer. ap (λ rs. providers_of (find_record (customer, source) rs)) (lists_are t f l i o) ∙ filed-list o source customer t f l i;
  routes_held = kept_are t f;
  verdicts_held = λ l i number. stored-at t f l number i;
  one_list = λ l i o. once register.key_of same_pair before_pair ordered_pairs _ _ (holding.ordered _ (formed_register t f l i o).1);
  one_route = λ l i. once key_of eqb ltb ordered_ℕ _ _ (ledger_holding.ordered _ (formed_ledger t f l i).1);
  registers_formed = formed_register t f;
  ledger_formed = formed_ledger t f;
  register_exact = registers_alike t f;
  ledger_exact = ledgers_alike t f;
  judge_answers = judge-answer t f;
  keep_answers = λ l i k a c e. keep_answer t f l i k a (rw c at e);
  draft_answers = λ l i role neighbour attribute a e. draft-route (hops_at t l i) role neighbour attribute a e;
  hop_answers = hop-answer t f;
  lookup_answers = lookup_answer t f;
  rejudge_counts = rejudge_count t f;
}

-- ---- demand 3

-- The answer of a register step, from what it shows.
abbrev filed_back : ModelReply → Result Filed Refusal
filed_back new = Ok New
filed_back replaced = Ok Replaced
filed_back done = Ok New
filed_back (gone n) = Ok New
filed_back (refused r) = Err r

-- Nothing of the answer to a filing is lost in what it shows,
filed-back : (x : Result Filed Refusal) → filed_back (shown_filed x) ≡ x
filed-back (Ok New) = refl
filed-back (Ok Replaced) = refl
filed-back (Err r) = refl

-- nor of that to a withdrawal,
abbrev removal_back : ModelReply → Result Unit Refusal
removal_back new = Ok tt
removal_back replaced = Ok tt
removal_back done = Ok tt
removal_back (gone n) = Ok tt
removal_back (refused r) = Err r

removal-back : (x : Result Unit Refusal) → removal_back (shown_removal x) ≡ x
removal-back (Ok u) = refl
removal-back (Err r) = refl

-- nor of that to a clearing.
abbrev cleared_back : ModelReply → Result ℕ Refusal
cleared_back new = Ok 0
cleared_back replaced = Ok 0
cleared_back done = Ok 0
cleared_back (gone n) = Ok n
cleared_back (refused r) = Err r

cleared-back : (x : Result ℕ Refusal) → cleared_back (shown_cleared x) ≡ x
cleared-back (Ok n) = refl
cleared-back (Err r) = refl

-- Register steps that show the same answer the same.
same_shown : (t u : Tables) (c : Call) → IsRegisterStep (scope c) → shown (says t c) ≡ shown (says u c) → says t c ≡ says u c
same_shown t u (file o s c list) g e = ap filed (sym (filed-back _) ∙ ap filed_back e ∙ filed-back _)
same_shown t u (withdraw o s c) g e = ap removed (sym (removal-back _) ∙ ap removal_back e ∙ removal-back _)
same_shown t u (clear o s) g e = ap cleared (sym (cleared-back _) ∙ ap cleared_back e ∙ cleared-back _)
same_shown t u (keep k) g e = absurd g
same_shown t u (drop n) g e = absurd g
same_shown t u rejudge g e = absurd g

-- A register step is a step.
register_step : (c : Scope) → IsRegisterStep c → IsStep c
register_step (of_pair o s c) g = tt
register_step (of-source o s) g = tt
register_step (of_route n) g = absurd g
register_step idle g = absurd g

-- Past the end of a list stand re-judgings, and these are not refused.
roomy_model : (t : Tables) → Formed t → (l : List Call) → Roomy t l → RoomyModel t l
unfolding refusal first_given
roomy_model t f l h i = go (dec_lt i (length l))
  where
    go : Dec (i < length l) → for_room (reply_at t l i) ≡ false
    go (yes p) = ap for_room (sym (history_replies t f l i)) ∙ h i p
    go (no n) = let e : call_at l i ≡ rejudge = get_or-eq_default l rejudge (omega arith) in rw e

-- A route that is judged anew has the draft's verdict and places of its path.
drafted : (hop : HopFunction) (r : Route) → route_ok r ≡ true → Drafted hop (rejudged_route hop r)
drafted hop r ok = go (eqb r.ground_code 0) refl
  where
    v : Verdict
    v = verdict_of (judged hop r.path r.role)

    go : (b : Bool) → eqb r.ground_code 0 ≡ b → Drafted hop (cond b (stamped v r) r)
    go true e =
        let g : r.ground_code ≡ 0 = eqb-true _ _ e in
        let d = draft-judged hop r.path r.role (some_numbers r ok g) in
        record {
          verdict = λ z. ap (λ x. verdict_number (verdict_of x)) d;
          a = λ z. ap (λ x. place_a (verdict_of x)) d;
          b = λ z. ap (λ x. place_b (verdict_of x)) d;
          rules = λ z. d;
          ground_code = λ z. absurd (z g);
        }
    go false e =
        record {
          verdict = λ z. absurd (eqb-false _ _ e z);
          a = λ z. absurd (eqb-false _ _ e z);
          b = λ z. absurd (eqb-false _ _ e z);
          rules = λ z. absurd (eqb-false _ _ e z);
          ground_code = λ z. on_a_ground r ok e;
        }

-- The verdicts after a last re-judging.
last_verdicts : (t : Tables) → Formed t → (l : List Call) (number : ℕ) (r : Route)
    → find_route number (routes_of (last t l).ledger) ≡ Some r → Drafted (hops_at t l (length l)) r
last_verdicts t f l number r e = rw (← hops_are t f l (length l)) (go (find_route number stored) refl (sym found ∙ e))
  where
    held : Holds (tables t l (length l)) (after t l (length l))
    held = holds_at t f l (length l)

    stored : List Route
    stored = held.stored

    hop : HopFunction
    hop = hops_of held.lists

    routes_left : routes_of (last t l).ledger ≡ map (rejudged_route hop) stored
    routes_left =
        ap (λ u. routes_of (rejudge_effect u.registers u.ledger).words) held.tables_are
        ∙ ap (λ s. routes_of s.words) (rejudge_step held.lists stored held.lists_ok held.routes-ok)
        ∙ routes_are (map (rejudged_route hop) stored) (rejudged_ok hop stored held.routes-ok)

    found : find_route number (routes_of (last t l).ledger) ≡ option_map (rejudged_route hop) (find_route number stored)
    found =
        ap (find_route number) routes_left
        ∙ find_map key_of key_of eqb ltb (rejudged_route hop) (λ k. ap (λ x. x.number) (rejudged_known hop k)) number stored

    go : (o : Option Route) → find_route number stored ≡ o → option_map (rejudged_route hop) o ≡ Some r → Drafted hop r
    go None p q = let z : ◌≡◌ {A = ℕ} 0 1 = cc in absurd (omega arith)
    go (Some x) p q =
        let z : rejudged_route hop x ≡ r = cc in
        rw (← z) (drafted hop x (every_found key_of eqb ltb route_ok number stored x (each_ok stored held.routes-ok) p))

module _ (t : Tables) (f : Formed t) (l m : List Call) (r : Reordering l m) (g : Roomy t l) (h : Roomy t m) where
  -- Each step is done in both lists or refused alike.
  ends_alike : (i : ℕ) → IsStep (scope_at l i) → shown (said t l i) ≡ shown (said t m (r.to i))
  ends_alike i s =
      history_replies t f l i ∙ same_replies t f l m r (roomy_model t f l g) (roomy_model t f m h) i s ∙ sym (history_replies t f m (r.to i))

  -- Each register step gets the same answer.
  answers_alike : (i : ℕ) → IsRegisterStep (scope_at l i) → said t l i ≡ said t m (r.to i)
  answers_alike i s =
      let k : IsStep (scope_at l i) = register_step (scope_at l i) s in
      let c : call_at m (r.to i) ≡ call_at l i = r.to_same i k in
      rw c (same_shown (tables t l i) (tables t m (r.to i)) (call_at l i) s (rw c at (ends_alike i k)))

  -- The tables are the same at the end.
  tables_alike : last t l ≡ last t m
  tables_alike =
      history_written t f l ∙ ap written (same_final t f l m r (roomy_model t f l g) (roomy_model t f m h)) ∙ sym (history_written t f m)

-- Demand 3.
pub demand3 : (t : Tables) → Formed t → Demand3 t
demand3 t f = record {
  as_model = history_replies t f;
  lists_filed = λ l i o source customer. filed-list o source customer t f l i;
  routes_kept = λ l i number. kept_route number t f l i;
  register_written = λ l i o. register_is t f l i o ∙ ap (λ ls. register.register_of (lists_of o ls)) (model_lists t f l i);
  written_out = history_written t f;
  verdicts = last_verdicts t f;
  same_answers = answers_alike t f;
  same_ends = ends_alike t f;
  same_tables = tables_alike t f;
}

-- Both, from every well-formed start.
pub demands : Demands
demands t f = (demand2 t f, demand3 t f)
