-- What the definitions of demands 2 and 3 come to: laws and examples that a reader may hold them to.
use Rattle.std.specs.Prelude.{ℕ, zero, suc, ◌-◌, ◌<◌, ◌≤◌, ◌≡◌, true, List, [], ◌∷◌, ◌++◌, ◌↔◌, take, replicate, None, Result, Some, option_map}
use Rattle.types.specs.declared.Origin.{Origin}
use Rattle.types.specs.declared.Origin.TheVariants.{Public, Overrides}
use Rattle.types.specs.declared.Origins.TheVariants.{One}
use Rattle.types.specs.declared.Cause.TheVariants.{ByHops}
use Rattle.types.specs.declared.Verdict.TheVariants.{Valid, Invalid}
use Rattle.types.specs.declared.Refusal.TheVariants.{SourceNumber, ProviderList, NoRecord, RegisterFull, RouteTaken, NoRoute, RoutesFull}
use Rattle.rules.specs.Vectors.{sequence, plain, pairs_then}
use Rattle.register.specs.Register.{register_words, most_providers, records_of}
use Rattle.registers.specs.Registers.{chosen}
use Rattle.ledger.specs.Routes.{routes_of}
use Rattle.effects.specs.Calls.{Keeping, keeping, judge_answer, lookup_list}
use Rattle.history.specs.Calls.{Call, file, withdraw, clear, keep, drop, rejudge, Tables, Formed, scope, blank, tables, call_at, scope_at, said, last, KeptRoute, route_read, find_record, find_route, providers_of, known}
use Rattle.history.specs.Replies.{new, replaced, done, gone, refused, shown, accepted}
use Rattle.history.specs.Filings.{filed_list, kept_route_at}
use Rattle.history.specs.Reorderings.{OnPair, Clears, OnRoute, Tied, IsRegisterStep, Reordering}
use Rattle.history.specs.Demands.{Roomy}
use Rattle.types.specs.declared.Answer.{Answer}
use Rattle.types.specs.declared.Refusal.{Refusal}

-- ---- what is filed, without a scan

-- From index `from` to before i, in this register, no accepted filing or withdrawal of the pair, and no accepted clearing of the source.
abbrev pub ListStands : Tables → List Call → (from i : ℕ) → Origin → (source customer : ℕ) → Type 0
ListStands t l from i o source customer =
    (j : ℕ) → from ≤ j → j < i → accepted (shown (said t l j)) ≡ true
    → (OnPair o source customer (scope_at l j) → ⊥) × (Clears o source (scope_at l j) → ⊥)

-- The list for the pair after i calls: an accepted filing at some index gave it, or t holds it, and nothing since.
pub data LastFiled (t : Tables) (l : List Call) (i : ℕ) (o : Origin) (source customer : ℕ) (list : List ℕ) : Type 0 where
  by_filing : (index : ℕ) → index < i → call_at l index ≡ file o source customer list → accepted (shown (said t l index)) ≡ true
      → ListStands t l (suc index) i o source customer → LastFiled t l i o source customer list
  list_held_first : providers_of (find_record (customer, source) (records_of (chosen o t.registers))) ≡ Some list
      → ListStands t l 0 i o source customer → LastFiled t l i o source customer list

-- From index `from` to before i no accepted keeping or dropping of the number.
abbrev pub RouteStands : Tables → List Call → (from i number : ℕ) → Type 0
RouteStands t l from i number = (j : ℕ) → from ≤ j → j < i → accepted (shown (said t l j)) ≡ true → OnRoute number (scope_at l j) → ⊥

-- A keeping under the number that is read as this route.
pub record KeepsAs (number : ℕ) (c : Call) (r : KeptRoute) : Type 0 where
  pub arguments : Keeping
  pub under : arguments.number ≡ number
  pub keeping : c ≡ keep arguments
  pub reads : r ≡ route_read arguments

-- The route under the number after i calls: an accepted keeping at some index gave it, or t holds it, and nothing since.
pub data LastKept (t : Tables) (l : List Call) (i number : ℕ) (r : KeptRoute) : Type 0 where
  by_keeping : (index : ℕ) → index < i → KeepsAs number (call_at l index) r → accepted (shown (said t l index)) ≡ true
      → RouteStands t l (suc index) i number → LastKept t l i number r
  route_held_first : option_map known (find_route number (routes_of t.ledger)) ≡ Some r → RouteStands t l 0 i number → LastKept t l i number r

-- ---- examples

-- Two registries file for one customer number, in either order.
abbrev pub two_first : List Call
two_first = file Public 2 65010 (65001 ∷ 65002 ∷ []) ∷ file Public 0 65010 (65003 ∷ []) ∷ []

abbrev pub one_first : List Call
one_first = file Public 0 65010 (65003 ∷ []) ∷ file Public 2 65010 (65001 ∷ 65002 ∷ []) ∷ []

-- One source files for one customer in both registers, and is then cleared in one.
abbrev pub cleared_in_one : List Call
cleared_in_one = file Public 0 65010 (65001 ∷ []) ∷ file Overrides 0 65010 (65002 ∷ []) ∷ clear Public 0 ∷ []

-- A public list, an override of another source for the same customer, and that withdrawn.
abbrev pub override_withdrawn : List Call
override_withdrawn = file Public 0 65002 (65001 ∷ []) ∷ file Overrides 3 65002 (65003 ∷ []) ∷ withdraw Overrides 3 65002 ∷ []

-- What Judge answers after i calls of it to a route from customer 65001 that 65002 began, and the list of a source for 65002 that is looked up.
abbrev pub judged_after : ℕ → Result Answer Refusal
judged_after i = judge_answer (tables blank override_withdrawn i).registers 1 65001 (sequence (65001 ∷ 65002 ∷ []))

abbrev pub looked_up_after : ℕ → ℕ → List ℕ
looked_up_after i source = lookup_list (tables blank override_withdrawn i).registers source 65002

-- n numbers from x on.
unfoldable pub numbers : ℕ → ℕ → List ℕ
numbers x zero = []
numbers x (suc n) = x ∷ numbers (suc x) n

-- Lists of the most numbers, all above 100, for the customers n to 1.
unfoldable pub filings : ℕ → List Call
filings zero = []
filings (suc n) = file Public 0 (suc n) (numbers 101 most_providers) ∷ filings n

-- 32 such lists fill the public register's bodies. Then one goes out and another customer's comes in, or the other way about.
abbrev pub room_made : List Call
room_made = filings 32 ++ (withdraw Public 0 1 ∷ file Public 0 33 (7 ∷ []) ∷ [])

abbrev pub room_missing : List Call
room_missing = filings 32 ++ (file Public 0 33 (7 ∷ []) ∷ withdraw Public 0 1 ∷ [])

-- Or the same list is filed in both registers.
abbrev pub room_elsewhere : List Call
room_elsewhere = filings 32 ++ (file Public 0 33 (7 ∷ []) ∷ file Overrides 0 33 (7 ∷ []) ∷ [])

-- A list filed, replaced and cleared; then steps that are refused by 4, 6, 7 and 19; then a route kept, and refused by 18. Nothing is refused for room.
abbrev pub empty_path : Keeping
empty_path = keeping 5 1 65001 []

abbrev pub not_for_room : List Call
not_for_room =
    file Public 0 65010 (65001 ∷ []) ∷ file Public 0 65010 (65002 ∷ []) ∷ clear Public 0
    ∷ clear Public 8 ∷ file Public 0 65010 [] ∷ withdraw Public 0 65010 ∷ drop 5
    ∷ keep empty_path ∷ keep empty_path ∷ []

-- Route i with a path of the most numbers, 20 and 30 in turn; n of them from route x on.
abbrev pub longest : ℕ → Keeping
longest i = keeping i 3 20 (pairs_then [])

unfoldable pub longests : ℕ → ℕ → List Call
longests x zero = []
longests x (suc n) = keep (longest x) ∷ longests (suc x) n

-- Sixteen of them, and then one with another attribute.
abbrev pub sixteen_and : List ℕ → List Call
sixteen_and attribute = longests 0 16 ++ (keep (keeping 16 3 20 attribute) ∷ [])

pub record Sanity : Type 0 where
  -- Empty tables are a start, and hold nothing.
  pub blank_formed : Formed blank
  pub blank_empty : ((o : Origin) → records_of (chosen o blank.registers) ≡ []) × (routes_of blank.ledger ≡ [])
  -- The scan finds exactly the last accepted list.
  pub filed_is_last : (t : Tables) (l : List Call) (i : ℕ) (o : Origin) (source customer : ℕ) (list : List ℕ)
      → (filed_list t l i o source customer ≡ Some list) ↔ LastFiled t l i o source customer list
  pub kept_is_last : (t : Tables) (l : List Call) (i number : ℕ) (r : KeptRoute) → (kept_route_at t l i number ≡ Some r) ↔ LastKept t l i number r
  -- To be a reordering is an equivalence.
  pub itself : (l : List Call) → Reordering l l
  pub back : (l m : List Call) → Reordering l m → Reordering m l
  pub chain : (l m n : List Call) → Reordering l m → Reordering m n → Reordering l n
  -- Two neighbours that are not tied may be swapped, and a re-judging may be put in anywhere.
  pub swap : (k : List Call) (a b : Call) (l : List Call) → (Tied (scope a) (scope b) → ⊥) → Reordering (k ++ (a ∷ b ∷ l)) (k ++ (b ∷ a ∷ l))
  pub rejudge_anywhere : (k l : List Call) → Reordering (k ++ l) (k ++ (rejudge ∷ l))
  -- A filing may not pass a clearing of its source in its register, nor a keeping a dropping of its number.
  pub clearing_stays : (o : Origin) (source customer : ℕ) (list : List ℕ)
      → Reordering (file o source customer list ∷ clear o source ∷ []) (clear o source ∷ file o source customer list ∷ []) → ⊥
  pub dropping_stays : (k : Keeping) → Reordering (keep k ∷ drop k.number ∷ []) (drop k.number ∷ keep k ∷ []) → ⊥
  -- A keeping may pass a clearing and a filing, a clearing a filing of another source, and route steps of different numbers each other.
  pub keeping_past_clearing : (k : Keeping) (o : Origin) (source : ℕ) → Reordering (keep k ∷ clear o source ∷ []) (clear o source ∷ keep k ∷ [])
  pub keeping_past_filing : (k : Keeping) (o : Origin) (source customer : ℕ) (list : List ℕ)
      → Reordering (keep k ∷ file o source customer list ∷ []) (file o source customer list ∷ keep k ∷ [])
  pub clearing_past_filing : (o : Origin) (s source customer : ℕ) (list : List ℕ) → (s ≡ source → ⊥)
      → Reordering (clear o s ∷ file o source customer list ∷ []) (file o source customer list ∷ clear o s ∷ [])
  pub keepings_past : (k j : Keeping) → (k.number ≡ j.number → ⊥) → Reordering (keep k ∷ keep j ∷ []) (keep j ∷ keep k ∷ [])
  pub keeping_past_dropping : (k : Keeping) (n : ℕ) → (k.number ≡ n → ⊥) → Reordering (keep k ∷ drop n ∷ []) (drop n ∷ keep k ∷ [])
  pub droppings_past : (n m : ℕ) → (n ≡ m → ⊥) → Reordering (drop n ∷ drop m ∷ []) (drop m ∷ drop n ∷ [])
  -- Steps in one register may pass those in the other: a filing one of the same source and customer, a clearing one of the same source.
  pub filings_past : (source customer : ℕ) (a b : List ℕ)
      → Reordering (file Public source customer a ∷ file Overrides source customer b ∷ []) (file Overrides source customer b ∷ file Public source customer a ∷ [])
  pub public_clearing_past : (source customer : ℕ) (list : List ℕ)
      → Reordering (clear Public source ∷ file Overrides source customer list ∷ []) (file Overrides source customer list ∷ clear Public source ∷ [])
  pub override_clearing_past : (source customer : ℕ) (list : List ℕ)
      → Reordering (clear Overrides source ∷ file Public source customer list ∷ []) (file Public source customer list ∷ clear Overrides source ∷ [])
  -- The answers that are compared word for word: those to filings, withdrawals and clearings.
  pub compared : (o : Origin) (source customer : ℕ) (list : List ℕ)
      → IsRegisterStep (scope (file o source customer list)) × IsRegisterStep (scope (withdraw o source customer)) × IsRegisterStep (scope (clear o source))
  pub not_compared : (k : Keeping) (n : ℕ)
      → (IsRegisterStep (scope (keep k)) → ⊥) × (IsRegisterStep (scope (drop n)) → ⊥) × (IsRegisterStep (scope rejudge) → ⊥)
  -- Two sources file for one customer, and both lists are there, in either order.
  pub both_there :
      (filed_list blank two_first 2 Public 2 65010 ≡ Some (65001 ∷ 65002 ∷ [])) × (filed_list blank two_first 2 Public 0 65010 ≡ Some (65003 ∷ []))
  pub both_there_too :
      (filed_list blank one_first 2 Public 2 65010 ≡ Some (65001 ∷ 65002 ∷ [])) × (filed_list blank one_first 2 Public 0 65010 ≡ Some (65003 ∷ []))
  pub either_order : Reordering two_first one_first
  pub same_either_way : last blank two_first ≡ last blank one_first
  pub whole_register : (last blank two_first).registers.public
      ≡ (2 ∷ 3 ∷ 65010 ∷ 0 ∷ 0 ∷ 1 ∷ 65010 ∷ 2 ∷ 1 ∷ 2 ∷ 65003 ∷ 65001 ∷ 65002 ∷ []) ++ replicate (register_words - 13) 0
  -- One source files for one customer in both registers, and each has its list; a clearing in one leaves the other's.
  pub each_there :
      (filed_list blank cleared_in_one 2 Public 0 65010 ≡ Some (65001 ∷ [])) × (filed_list blank cleared_in_one 2 Overrides 0 65010 ≡ Some (65002 ∷ []))
  pub other_left :
      (filed_list blank cleared_in_one 3 Public 0 65010 ≡ None) × (filed_list blank cleared_in_one 3 Overrides 0 65010 ≡ Some (65002 ∷ []))
  -- An override turns a Valid into an Invalid of its own, and its withdrawal turns it back.
  pub first_valid : judged_after 1 ≡ plain Valid
  pub then_invalid : judged_after 2 ≡ plain (Invalid (ByHops 2 0 (One Overrides)))
  pub valid_again : judged_after 3 ≡ plain Valid
  -- It hides the public list, of another source though that is, as long as it stands.
  pub first_looked_up : looked_up_after 1 0 ≡ 65001 ∷ []
  pub then_hidden : (looked_up_after 2 0 ≡ []) × (looked_up_after 2 3 ≡ 65003 ∷ [])
  pub there_again : (looked_up_after 3 0 ≡ 65001 ∷ []) × (looked_up_after 3 3 ≡ [])
  -- What is not refused for room: what is done, and what other rows refuse.
  pub other_rows : Roomy blank not_for_room
  pub other_answers : (shown (said blank not_for_room 1) ≡ replaced) × (shown (said blank not_for_room 2) ≡ gone 1)
  pub other_refusals :
      (shown (said blank not_for_room 3) ≡ refused SourceNumber) × (shown (said blank not_for_room 4) ≡ refused ProviderList)
      × (shown (said blank not_for_room 5) ≡ refused NoRecord) × (shown (said blank not_for_room 6) ≡ refused NoRoute)
      × (shown (said blank not_for_room 8) ≡ refused RouteTaken)
  -- Why room is a premise: of two lists, one a reordering of the other, one is refused for room, and the registers differ.
  pub room_reordered : Reordering room_made room_missing
  pub room_is_made : Roomy blank room_made
  pub room_is_missing : shown (said blank room_missing 32) ≡ refused RegisterFull
  pub room_differs : (last blank room_made).registers.public ≡ (last blank room_missing).registers.public → ⊥
  -- Each register has its own room: what one has none for is new in the other.
  pub room_in_one : (shown (said blank room_elsewhere 32) ≡ refused RegisterFull) × (shown (said blank room_elsewhere 33) ≡ new)
  -- Sixteen paths of 512 numbers fill the ledger (P5): there is no room for one number more, but for a route with a ground there is.
  pub sixteen_fill : take 2 (last blank (longests 0 16)).ledger ≡ 16 ∷ 8192 ∷ []
  pub one_number_more : shown (said blank (sixteen_and (sequence (20 ∷ []))) 16) ≡ refused RoutesFull
  pub ground_fits : shown (said blank (sixteen_and []) 16) ≡ done
