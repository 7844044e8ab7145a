-- The examples, and the laws that a reader may hold the definitions to. Assumes nothing.
use Prim.Native.Nat.{ℕ, ◌-◌, ◌≤◌}
use mathlib.Core.Path.{◌≡◌, refl, sym, ap, ◌∙◌}
use mathlib.Core.Bool.{Bool, true, false, not}
use mathlib.Core.List.{List, [], ◌∷◌, ◌++◌}
use native.Mathlib.Omega.{arith}
use lib.Dec.{lit≤}
use lib.ListN.{length, replicate}
use Rattle.types.specs.declared.Origin.{Origin}
use Rattle.types.specs.declared.Origin.TheVariants.{Public, Overrides}
use Rattle.types.specs.declared.Origins.TheVariants.{One}
use Rattle.types.specs.declared.Cause.TheVariants.{ByHops}
use Rattle.types.specs.declared.Verdict.TheVariants.{Valid, Invalid}
use Rattle.types.specs.declared.Refusal.TheVariants.{SourceNumber, ProviderList, NoRecord, RegisterFull, RouteTaken, NoRoute}
use Rattle.types.specs.Rows.{first_given}
use Rattle.as_path.specs.Segments.{segments, starts, starts_from, number_at, numbers_at}
use Rattle.as_path.specs.Faults.{first_fault, fault_among, numbers_fault, segment_fault}
use Rattle.as_path.specs.Grounds.{has_set, ground_of}
use Rattle.as_path.specs.Merging.{numbers_in, runs_after, merge_runs, merged_path}
use Rattle.as_path.specs.Reading.{content_of}
use Rattle.table.specs.Table.{slots, bodies, pad, encode, decode, decode_slots}
use Rattle.keyed.specs.Keyed.{find, holds, put, without, count_of}
use Rattle.rules.specs.Hops.{lowest, highest, climb, descend}
use Rattle.rules.specs.Records.{Record, is_in, attested, united, list_of, hop_of, counting, hop_over}
use Rattle.rules.specs.Verdicts.{upstream, downstream, judged}
use Rattle.rules.specs.Judging.{judged_route}
use Rattle.rules.specs.Vectors.{bytes, sequence, plain}
use Rattle.rules.specs.Draft.{each}
use Rattle.rules.proofs.Drafting.{each_no}
use Rattle.register.specs.Register.{register_words, last_source, register_of, listed, rises, rises_from, list_ok, room_for, records_of}
use Rattle.registers.specs.Registers.{chosen}
use Rattle.ledger.specs.Routes.{routes_of}
use Rattle.history.specs.Calls.{Call, of_pair, of-source, of_route, Tables, Formed, blank, said, last, find_record, providers_of}
use Rattle.history.specs.Replies.{ModelReply, new, replaced, gone, refused, shown, for_room}
use Rattle.history.specs.Model.{Lists, lists_in, path_numbers, room_for_routes, refusal, after, reply_at, final, written}
use Rattle.history.specs.Reorderings.{Tied, same_pair, clear_first, clear_second, same_route}
use Rattle.history.specs.Demands.{Roomy}
use Rattle.history.specs.Sanity.{two_first, one_first, cleared_in_one, override_withdrawn, judged_after, looked_up_after, numbers, filings, room_made, room_missing, room_elsewhere, not_for_room, Sanity}
use Rattle.history.proofs.Simulating.{hops_of, blank_formed, blank_empty, history_replies, history_written}
use Rattle.history.proofs.FiledLists.{filed-list}
use Rattle.history.proofs.Theorems.{hops_model, list_model, demand2}
use Rattle.history.proofs.Reordered.{itself, chain, back, swap, rejudge_anywhere, clearing_stays, dropping_stays}
use Rattle.history.proofs.FullLedgers.{sixteen_fill, one_number_more, ground_fits}
use Rattle.history.proofs.Scans.{filed_is_last, kept_is_last}
use Rattle.std.specs.Prelude.{None, Option, Some}

-- ---- two sources

-- Either order comes to one model.
two_lists : final blank two_first ≡ final blank one_first
unfolding blank records_of routes_of decode decode_slots after refusal first_given find holds put listed rises rises_from is_in list_ok room_for
two_lists = refl

-- It holds both lists.
both : (providers_of (find_record (65010, 2) (lists_in Public (final blank one_first))) ≡ Some (65001 ∷ 65002 ∷ []))
    × (providers_of (find_record (65010, 0) (lists_in Public (final blank one_first))) ≡ Some (65003 ∷ []))
unfolding blank records_of routes_of decode decode_slots after refusal first_given find holds put listed rises rises_from is_in list_ok room_for
both = (refl, refl)

-- It is written as these words.
register-words : (written (final blank one_first)).registers.public
    ≡ (2 ∷ 3 ∷ 65010 ∷ 0 ∷ 0 ∷ 1 ∷ 65010 ∷ 2 ∷ 1 ∷ 2 ∷ 65003 ∷ 65001 ∷ 65002 ∷ []) ++ replicate (register_words - 13) 0
unfolding written register_of encode pad slots bodies blank records_of routes_of decode decode_slots after refusal first_given find holds put listed rises rises_from is_in list_ok room_for
register-words = refl

-- ---- room

-- The filing that comes before the withdrawal is refused by 8.
missing : reply_at blank room_missing 32 ≡ refused RegisterFull
unfolding numbers filings blank records_of routes_of decode decode_slots after refusal first_given find holds put without listed rises rises_from is_in list_ok room_for
missing = refl

-- The other list has room for all.
all_roomy : each (λ i. not (for_room (reply_at blank room_made i))) 0 34 ≡ true
unfolding numbers filings blank records_of routes_of decode decode_slots after refusal first_given find holds put without listed rises rises_from is_in list_ok room_for each
all_roomy = refl

-- A list of which the model refuses nothing for room, up to its length.
roomy : (l : List Call) (n : ℕ) → length l ≡ n → each (λ i. not (for_room (reply_at blank l i))) 0 n ≡ true → Roomy blank l
roomy l n e r i h = go (for_room (reply_at blank l i)) refl
  where
    go : (b : Bool) → for_room (reply_at blank l i) ≡ b → for_room (shown (said blank l i)) ≡ false
    go false f = ap for_room (history_replies blank blank_formed l i) ∙ f
    go true f =
        let z = each_no (λ i. not (for_room (reply_at blank l i))) 0 n i (omega arith) (omega arith) (ap not f) in
        let y : ◌≡◌ {A = ℕ} 0 1 = cc (z, r) in
        absurd (omega arith)

-- So no call of that list is refused for room.
made : Roomy blank room_made
unfolding filings
made = roomy room_made 34 refl all_roomy

-- Nor of the list of other answers,
others_roomy : each (λ i. not (for_room (reply_at blank not_for_room i))) 0 9 ≡ true
unfolding blank records_of routes_of decode decode_slots after refusal first_given find holds put without listed rises rises_from is_in list_ok room_for each count_of room_for_routes path_numbers content_of first_fault fault_among starts starts_from ground_of segments
others_roomy = refl

-- which are these.
others_answered : (reply_at blank not_for_room 1 ≡ replaced) × (reply_at blank not_for_room 2 ≡ gone 1)
unfolding blank records_of routes_of decode decode_slots after refusal first_given find holds put without listed rises rises_from is_in list_ok room_for count_of
others_answered = (refl, refl)

others_refused :
    (reply_at blank not_for_room 3 ≡ refused SourceNumber) × (reply_at blank not_for_room 4 ≡ refused ProviderList)
    × (reply_at blank not_for_room 5 ≡ refused NoRecord) × (reply_at blank not_for_room 6 ≡ refused NoRoute)
    × (reply_at blank not_for_room 8 ≡ refused RouteTaken)
unfolding blank records_of routes_of decode decode_slots after refusal first_given find holds put without listed rises rises_from is_in list_ok room_for count_of room_for_routes path_numbers content_of first_fault fault_among starts starts_from ground_of segments
others_refused = (refl, refl, refl, refl, refl)

-- So one register holds the last list, and the other does not.
list_made : providers_of (find_record (33, 0) (lists_in Public (final blank room_made))) ≡ Some (7 ∷ [])
unfolding numbers filings blank records_of routes_of decode decode_slots after refusal first_given find holds put without listed rises rises_from is_in list_ok room_for
list_made = refl

list_missing : providers_of (find_record (33, 0) (lists_in Public (final blank room_missing))) ≡ None
unfolding numbers filings blank records_of routes_of decode decode_slots after refusal first_given find holds put without listed rises rises_from is_in list_ok room_for
list_missing = refl

-- The list of a pair in the last register is the model's.
last_list : (t : Tables) → Formed t → (l : List Call) (o : Origin) (source customer : ℕ)
    → providers_of (find_record (customer, source) (records_of (chosen o (last t l).registers)))
    ≡ providers_of (find_record (customer, source) (lists_in o (final t l)))
last_list t f l o source customer = (demand2 t f).lists-held l (length l) o source customer ∙ sym (filed-list o source customer t f l (length l))

-- So the registers differ.
differs : (last blank room_made).registers.public ≡ (last blank room_missing).registers.public → ⊥
differs e =
    let a = last_list blank blank_formed room_made Public 0 33 ∙ list_made in
    let b = last_list blank blank_formed room_missing Public 0 33 ∙ list_missing in
    let z : ◌≡◌ {A = Option (List ℕ)} (Some (7 ∷ [])) None = sym a ∙ ap (λ ws. providers_of (find_record (33, 0) (records_of ws))) e ∙ b in
    let y : ◌≡◌ {A = ℕ} 0 1 = cc in
    omega arith

-- The public register has no room for a list, and the other has.
elsewhere : (reply_at blank room_elsewhere 32 ≡ refused RegisterFull) × (reply_at blank room_elsewhere 33 ≡ new)
unfolding numbers filings blank records_of routes_of decode decode_slots after refusal first_given find holds put without listed rises rises_from is_in list_ok room_for
elsewhere = (refl, refl)

-- ---- two registers

-- What the model holds in each register after two calls and after the third.
each_held : (providers_of (find_record (65010, 0) (lists_in Public (after blank cleared_in_one 2))) ≡ Some (65001 ∷ []))
    × (providers_of (find_record (65010, 0) (lists_in Overrides (after blank cleared_in_one 2))) ≡ Some (65002 ∷ []))
    × (providers_of (find_record (65010, 0) (lists_in Public (after blank cleared_in_one 3))) ≡ None)
    × (providers_of (find_record (65010, 0) (lists_in Overrides (after blank cleared_in_one 3))) ≡ Some (65002 ∷ []))
unfolding blank records_of routes_of decode decode_slots after refusal first_given find holds put without listed rises rises_from is_in list_ok room_for
each_held = (refl, refl, refl, refl)

-- The lists after each call of the override.
abbrev entry : ℕ → ℕ → List ℕ → Record
entry customer source providers = record { customer = customer; source = source; providers = providers }

abbrev public_alone : Lists
public_alone = record { public = entry 65002 0 (65001 ∷ []) ∷ []; overrides = [] }

abbrev overridden : Lists
overridden = record { public = entry 65002 0 (65001 ∷ []) ∷ []; overrides = entry 65002 3 (65003 ∷ []) ∷ [] }

override_lists : ((after blank override_withdrawn 1).lists ≡ public_alone) × ((after blank override_withdrawn 2).lists ≡ overridden)
    × ((after blank override_withdrawn 3).lists ≡ public_alone)
unfolding blank records_of routes_of decode decode_slots after refusal first_given find holds put without listed rises rises_from is_in list_ok room_for
override_lists = (refl, refl, refl)

-- Judge answers over them.
judged_over : (i : ℕ) (lists : Lists) → (after blank override_withdrawn i).lists ≡ lists
    → judged_after i ≡ judged_route (hops_of lists) 1 65001 (sequence (65001 ∷ 65002 ∷ []))
judged_over i lists e =
    (demand2 blank blank_formed).judge_answers override_withdrawn i 1 65001 _
    ∙ ap (λ hop. judged_route hop 1 65001 (sequence (65001 ∷ 65002 ∷ []))) (hops_model blank blank_formed override_withdrawn i ∙ ap hops_of e)

over_lists : (judged_route (hops_of public_alone) 1 65001 (sequence (65001 ∷ 65002 ∷ [])) ≡ plain Valid)
    × (judged_route (hops_of overridden) 1 65001 (sequence (65001 ∷ 65002 ∷ [])) ≡ plain (Invalid (ByHops 2 0 (One Overrides))))
unfolding judged_route first_given content_of number_at numbers_at starts_from starts segments numbers_fault segment_fault fault_among first_fault has_set ground_of numbers_in runs_after merge_runs merged_path lowest highest climb descend is_in attested united list_of hop_of hop_over upstream downstream judged bytes
over_lists = (refl, refl)

-- A look-up finds the list in them that counts.
looked_over : (i source : ℕ) → source ≤ last_source → (lists : Lists) → (after blank override_withdrawn i).lists ≡ lists
    → looked_up_after i source ≡ list_of (counting lists.public lists.overrides 65002) source 65002
looked_over i source h lists e =
    (demand2 blank blank_formed).lookup_answers override_withdrawn i source 65002 h (lit≤ tt)
    ∙ list_model blank blank_formed override_withdrawn i source 65002 ∙ ap (λ ls. list_of (counting ls.public ls.overrides 65002) source 65002) e

lists_over : (list_of (counting public_alone.public public_alone.overrides 65002) 0 65002 ≡ 65001 ∷ [])
    × (list_of (counting public_alone.public public_alone.overrides 65002) 3 65002 ≡ [])
    × (list_of (counting overridden.public overridden.overrides 65002) 0 65002 ≡ [])
    × (list_of (counting overridden.public overridden.overrides 65002) 3 65002 ≡ 65003 ∷ [])
unfolding attested list_of
lists_over = (refl, refl, refl, refl)

-- ---- reorderings

-- There are two registers.
two_registers : Public ≡ Overrides → ⊥
two_registers e = let z : ◌≡◌ {A = ℕ} 0 1 = cc in omega arith

-- Steps on different pairs, or in different registers, are not tied.
untied_pairs : (o : Origin) (s c : ℕ) (p : Origin) (s' c' : ℕ) → ((o ≡ p) × (s ≡ s') × (c ≡ c') → ⊥) → Tied (of_pair o s c) (of_pair p s' c') → ⊥
untied_pairs o s c p s' c' n (same_pair r x y u w) = n (u.0 ∙ sym w.0, u.1 ∙ sym w.1, u.2 ∙ sym w.2)
untied_pairs o s c p s' c' n (clear_first r x u w) = u
untied_pairs o s c p s' c' n (clear_second r x u w) = w
untied_pairs o s c p s' c' n (same_route x u w) = u

-- Nor are steps on different numbers,
untied_routes : (n m : ℕ) → (n ≡ m → ⊥) → Tied (of_route n) (of_route m) → ⊥
untied_routes n m d (same_pair r x y p q) = p
untied_routes n m d (clear_first r x p q) = p
untied_routes n m d (clear_second r x p q) = q
untied_routes n m d (same_route x p q) = d (p ∙ sym q)

-- a route step and a filing or withdrawal,
untied_pair : (n : ℕ) (o : Origin) (s c : ℕ) → Tied (of_route n) (of_pair o s c) → ⊥
untied_pair n o s c (same_pair r x y p q) = p
untied_pair n o s c (clear_first r x p q) = p
untied_pair n o s c (clear_second r x p q) = p
untied_pair n o s c (same_route x p q) = q

-- a route step and a clearing,
untied_source : (n : ℕ) (o : Origin) (s : ℕ) → Tied (of_route n) (of-source o s) → ⊥
untied_source n o s (same_pair r x y p q) = p
untied_source n o s (clear_first r x p q) = p
untied_source n o s (clear_second r x p q) = p
untied_source n o s (same_route x p q) = q

-- a clearing and a step of another source, or in another register.
untied_sources : (o : Origin) (s : ℕ) (p : Origin) (s' c : ℕ) → ((o ≡ p) × (s ≡ s') → ⊥) → Tied (of-source o s) (of_pair p s' c) → ⊥
untied_sources o s p s' c n (same_pair r x y u w) = u
untied_sources o s p s' c n (clear_first r x u w) = n (u.0 ∙ sym w.0, u.1 ∙ sym w.1)
untied_sources o s p s' c n (clear_second r x u w) = w
untied_sources o s p s' c n (same_route x u w) = u

-- What the model replies in that list is what is answered.
shown_other : (i : ℕ) (x : ModelReply) → reply_at blank not_for_room i ≡ x → shown (said blank not_for_room i) ≡ x
shown_other i x e = history_replies blank blank_formed not_for_room i ∙ e

-- The definitions of demands 2 and 3 come to what they should.
pub sanity : Sanity
sanity = record {
  blank_formed = blank_formed;
  blank_empty = blank_empty;
  filed_is_last = λ t l i o source customer list. filed_is_last o source customer t l i list;
  kept_is_last = λ t l i number r. kept_is_last number t l i r;
  itself = itself;
  back = back;
  chain = chain;
  swap = swap;
  rejudge_anywhere = rejudge_anywhere;
  clearing_stays = clearing_stays;
  dropping_stays = dropping_stays;
  keeping_past_clearing = λ k o source. swap [] _ _ [] (untied_source k.number o source);
  keeping_past_filing = λ k o source customer list. swap [] _ _ [] (untied_pair k.number o source customer);
  clearing_past_filing = λ o s source customer list n. swap [] _ _ [] (untied_sources o s o source customer (λ e. n e.1));
  keepings_past = λ k j n. swap [] _ _ [] (untied_routes k.number j.number n);
  keeping_past_dropping = λ k m n. swap [] _ _ [] (untied_routes k.number m n);
  droppings_past = λ m k n. swap [] _ _ [] (untied_routes m k n);
  filings_past = λ source customer a b. swap [] _ _ [] (untied_pairs Public source customer Overrides source customer (λ e. two_registers e.0));
  public_clearing_past = λ source customer list. swap [] _ _ [] (untied_sources Public source Overrides source customer (λ e. two_registers e.0));
  override_clearing_past = λ source customer list. swap [] _ _ [] (untied_sources Overrides source Public source customer (λ e. two_registers (sym e.0)));
  compared = λ o source customer list. (tt, tt, tt);
  not_compared = λ k n. (λ s. s, λ s. s, λ s. s);
  both_there = (
    sym (filed-list Public 2 65010 blank blank_formed two_first 2) ∙ ap (λ m. providers_of (find_record (65010, 2) (lists_in Public m))) two_lists ∙ both.0,
    sym (filed-list Public 0 65010 blank blank_formed two_first 2) ∙ ap (λ m. providers_of (find_record (65010, 0) (lists_in Public m))) two_lists ∙ both.1,
  );
  both_there_too = (
    sym (filed-list Public 2 65010 blank blank_formed one_first 2) ∙ both.0,
    sym (filed-list Public 0 65010 blank blank_formed one_first 2) ∙ both.1,
  );
  either_order = swap [] _ _ [] (untied_pairs Public 2 65010 Public 0 65010 (λ p. let e : 2 ≡ 0 = p.1 in omega arith));
  same_either_way = history_written blank blank_formed two_first ∙ ap written two_lists ∙ sym (history_written blank blank_formed one_first);
  whole_register = ap (λ t. t.registers.public) (history_written blank blank_formed two_first ∙ ap written two_lists) ∙ register-words;
  each_there = (
    sym (filed-list Public 0 65010 blank blank_formed cleared_in_one 2) ∙ each_held.0,
    sym (filed-list Overrides 0 65010 blank blank_formed cleared_in_one 2) ∙ each_held.1,
  );
  other_left = (
    sym (filed-list Public 0 65010 blank blank_formed cleared_in_one 3) ∙ each_held.2,
    sym (filed-list Overrides 0 65010 blank blank_formed cleared_in_one 3) ∙ each_held.3,
  );
  first_valid = judged_over 1 public_alone override_lists.0 ∙ over_lists.0;
  then_invalid = judged_over 2 overridden override_lists.1 ∙ over_lists.1;
  valid_again = judged_over 3 public_alone override_lists.2 ∙ over_lists.0;
  first_looked_up = looked_over 1 0 (lit≤ tt) public_alone override_lists.0 ∙ lists_over.0;
  then_hidden = (
    looked_over 2 0 (lit≤ tt) overridden override_lists.1 ∙ lists_over.2,
    looked_over 2 3 (lit≤ tt) overridden override_lists.1 ∙ lists_over.3,
  );
  there_again = (
    looked_over 3 0 (lit≤ tt) public_alone override_lists.2 ∙ lists_over.0,
    looked_over 3 3 (lit≤ tt) public_alone override_lists.2 ∙ lists_over.1,
  );
  other_rows = roomy not_for_room 9 refl others_roomy;
  other_answers = (shown_other 1 _ others_answered.0, shown_other 2 _ others_answered.1);
  other_refusals = (
    shown_other 3 _ others_refused.0,
    shown_other 4 _ others_refused.1,
    shown_other 5 _ others_refused.2,
    shown_other 6 _ others_refused.3,
    shown_other 8 _ others_refused.4,
  );
  room_reordered = swap (filings 32) _ _ [] (untied_pairs Public 0 1 Public 0 33 (λ p. let e : 1 ≡ 33 = p.2 in omega arith));
  room_is_made = made;
  room_is_missing = history_replies blank blank_formed room_missing 32 ∙ missing;
  room_differs = differs;
  room_in_one = (
    history_replies blank blank_formed room_elsewhere 32 ∙ elsewhere.0,
    history_replies blank blank_formed room_elsewhere 33 ∙ elsewhere.1,
  );
  sixteen_fill = sixteen_fill;
  one_number_more = one_number_more;
  ground_fits = ground_fits;
}
