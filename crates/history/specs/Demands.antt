-- Demands 2 and 3, clause by clause (docs/PROOFS.md has the demands), for lists of calls from the tables t on.
use Rattle.std.specs.Prelude.{ℕ, suc, ◌≤◌, ◌<◌, ◌≡◌, true, false, List, length, Ok, Some, option_map}
use Rattle.types.specs.declared.Origin.{Origin}
use Rattle.types.specs.declared.Answer.{Answer}
use Rattle.types.specs.Numbers.{verdict_number, place_a, place_b, verdict_of}
use Rattle.as_path.specs.Segments.{number_bytes, segments}
use Rattle.rules.specs.Hops.{HopFunction}
use Rattle.rules.specs.Verdicts.{judged}
use Rattle.rules.specs.Judging.{judged_route}
use Rattle.rules.specs.Draft.{draft_judged, draft_route}
use Rattle.register.specs.Register.{register_words, last_source, records_of, record_at, register_ok}
use Rattle.register.specs.Register as register
use Rattle.registers.specs.Registers.{chosen}
use Rattle.ledger.specs.Routes.{ledger_words, Route, routes_of, route_at, ledger_ok}
use Rattle.ledger.specs.Routes as ledger
use Rattle.ledger.specs.Calls.{count_differing}
use Rattle.effects.specs.Calls.{Keeping, judge_answer, hop_answer, lookup_list}
use Rattle.history.specs.Calls.{Call, keep, rejudge, kept, rejudged, Tables, Formed, tables, call_at, scope_at, said, last, find_record, find_route, providers_of, known}
use Rattle.history.specs.Replies.{shown, for_room}
use Rattle.history.specs.Model.{find_kept, lists_in, after, reply_at, final, written}
use Rattle.history.specs.Filings.{filed_list, kept_route_at, hops_at, list_at, stored_at}
use Rattle.history.specs.Reorderings.{IsRegisterStep, StepAt, Reordering}

-- ---- demand 2

-- No key twice among n entries.
abbrev pub Once : {K : Type 0} → (ℕ → K) → ℕ → Type 0
Once key_at n = (x y : ℕ) → x < n → y < n → key_at x ≡ key_at y → x ≡ y

pub record Demand2 (t : Tables) : Type 0 where
  -- Each register has, for each source and customer, the last list that was accepted there and neither withdrawn nor cleared since.
  pub lists-held : (l : List Call) (i : ℕ) (o : Origin) (source customer : ℕ)
      → providers_of (find_record (customer, source) (records_of (chosen o (tables t l i).registers))) ≡ filed_list t l i o source customer
  -- The ledger has the routes that were kept and not dropped since.
  pub routes_held : (l : List Call) (i number : ℕ) → option_map known (find_route number (routes_of (tables t l i).ledger)) ≡ kept_route_at t l i number
  -- Each with the verdict and places that it was last judged by.
  pub verdicts_held : (l : List Call) (i number : ℕ) → find_route number (routes_of (tables t l i).ledger) ≡ stored_at t l i number
  -- The tables keep the word rules: rows 1 to 3 are never given.
  pub registers_formed : (l : List Call) (i : ℕ) (o : Origin)
      → (length (chosen o (tables t l i).registers) ≡ register_words) × (register_ok (chosen o (tables t l i).registers) ≡ true)
  pub ledger_formed : (l : List Call) (i : ℕ) → (length (tables t l i).ledger ≡ ledger_words) × (ledger_ok (tables t l i).ledger ≡ true)
  -- In each register at most one list for a customer and a source, and one route for a number.
  pub one_list : (l : List Call) (i : ℕ) (o : Origin)
      → Once (λ x. register.key_of (record_at (records_of (chosen o (tables t l i).registers)) x)) (length (records_of (chosen o (tables t l i).registers)))
  pub one_route : (l : List Call) (i : ℕ)
      → Once (λ x. ledger.key_of (route_at (routes_of (tables t l i).ledger) x)) (length (routes_of (tables t l i).ledger))
  -- They hold nothing else: what is filed makes up a register's words, and what is stored the ledger's, whatever the calls were.
  pub register_exact : (l m : List Call) (i j : ℕ) (o : Origin)
      → ((source customer : ℕ) → filed_list t l i o source customer ≡ filed_list t m j o source customer)
      → chosen o (tables t l i).registers ≡ chosen o (tables t m j).registers
  pub ledger_exact : (l m : List Call) (i j : ℕ) → ((number : ℕ) → stored_at t l i number ≡ stored_at t m j number) → (tables t l i).ledger ≡ (tables t m j).ledger
  -- Every verdict that is given, by Judge at any time or by a keeping, with its ground or places, is the rules' for the union of those lists of the
  -- register that counts for each customer.
  pub judge_answers : (l : List Call) (i role neighbour : ℕ) (attribute : List ℕ)
      → judge_answer (tables t l i).registers role neighbour attribute ≡ judged_route (hops_at t l i) role neighbour attribute
  pub keep_answers : (l : List Call) (i : ℕ) (k : Keeping) (a : Answer) → call_at l i ≡ keep k → said t l i ≡ kept (Ok a)
      → judged_route (hops_at t l i) k.role k.neighbour k.attribute ≡ Ok a
  -- It is the draft's own, from the attribute's segments on: word, ground or places, and gap.
  pub draft_answers : (l : List Call) (i role neighbour : ℕ) (attribute : List ℕ) (a : Answer)
      → judged_route (hops_at t l i) role neighbour attribute ≡ Ok a
      → draft_route (hops_at t l i) role neighbour (segments number_bytes attribute) ≡ a
  -- So is every hop, and a look-up hands back the list itself.
  pub hop_answers : (l : List Call) (i x y : ℕ) → hop_answer (tables t l i).registers x y ≡ Ok (hops_at t l i x y)
  pub lookup_answers : (l : List Call) (i source customer : ℕ) → source ≤ last_source → 1 ≤ customer
      → lookup_list (tables t l i).registers source customer ≡ list_at t l i source customer
  -- A re-judging is never refused, and answers how many routes differ between the ledger before and after it.
  pub rejudge_counts : (l : List Call) (i : ℕ) → call_at l i ≡ rejudge
      → said t l i ≡ rejudged (Ok (count_differing (routes_of (tables t l i).ledger) (routes_of (tables t l (suc i)).ledger)))

-- ---- demand 3

-- No call of the list is refused for room.
abbrev pub Roomy : Tables → List Call → Type 0
Roomy t l = (i : ℕ) → i < length l → for_room (shown (said t l i)) ≡ false

-- The verdict and places of a stored route: the draft's for its role and path over these hops, which are the rules'; under a ground Invalid, 0, 0.
pub record Drafted (hop : HopFunction) (r : Route) : Type 0 where
  pub verdict : r.ground_code ≡ 0 → r.verdict ≡ verdict_number (verdict_of (draft_judged hop r.path r.role))
  pub a : r.ground_code ≡ 0 → r.a ≡ place_a (verdict_of (draft_judged hop r.path r.role))
  pub b : r.ground_code ≡ 0 → r.b ≡ place_b (verdict_of (draft_judged hop r.path r.role))
  pub rules : r.ground_code ≡ 0 → judged hop r.path r.role ≡ draft_judged hop r.path r.role
  pub ground_code : (r.ground_code ≡ 0 → ⊥) → (r.verdict ≡ 1) × (r.a ≡ 0) × (r.b ≡ 0)

pub record Demand3 (t : Tables) : Type 0 where
  -- With room or without: every call is refused exactly when the model refuses it, by the same row and place, and register calls answer as it does.
  pub as_model : (l : List Call) (i : ℕ) → shown (said t l i) ≡ reply_at t l i
  -- The model's lists are those that demand 2 speaks of.
  pub lists_filed : (l : List Call) (i : ℕ) (o : Origin) (source customer : ℕ)
      → providers_of (find_record (customer, source) (lists_in o (after t l i))) ≡ filed_list t l i o source customer
  -- Its routes are those that demand 2 speaks of.
  pub routes_kept : (l : List Call) (i number : ℕ) → find_kept number (after t l i).routes ≡ kept_route_at t l i number
  -- At every step each register is the model's lists for it written out.
  pub register_written : (l : List Call) (i : ℕ) (o : Origin) → chosen o (tables t l i).registers ≡ register.register_of (lists_in o (after t l i))
  -- After every list and one last re-judging all tables are the model written out.
  pub written_out : (l : List Call) → last t l ≡ written (final t l)
  -- Every verdict in them, with its places, is the draft's over the lists that demand 2 speaks of.
  pub verdicts : (l : List Call) (number : ℕ) (r : Route) → find_route number (routes_of (last t l).ledger) ≡ Some r → Drafted (hops_at t l (length l)) r
  -- Two lists, one a reordering of the other, neither refused for room: each register call gets the same answer in both;
  pub same_answers : (l m : List Call) (r : Reordering l m) → Roomy t l → Roomy t m → (i : ℕ) → IsRegisterStep (scope_at l i) → said t l i ≡ said t m (r.to i)
  -- each keeping and dropping is done in both, or refused in both by the same row and place;
  pub same_ends : (l m : List Call) (r : Reordering l m) → Roomy t l → Roomy t m → (i : ℕ) → StepAt l i → shown (said t l i) ≡ shown (said t m (r.to i))
  -- and after one last re-judging in each, all tables are equal word for word.
  pub same_tables : (l m : List Call) → Reordering l m → Roomy t l → Roomy t m → last t l ≡ last t m

-- ---- what is proved

-- Both demands, from every well-formed start. (Empty tables are one: `blank-formed` of Sanity.)
abbrev pub Demands : Type 0
Demands = (t : Tables) → Formed t → Demand2 t × Demand3 t
