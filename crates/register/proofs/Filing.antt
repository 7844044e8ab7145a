-- Each way through File and Withdraw gives the answer and the words of their definitions. Assumes nothing.
use Prim.Native.Nat.{ℕ, suc, ◌+◌, ◌-◌, ◌*◌, ◌≤◌, ◌<◌}
use mathlib.Core.Path.{◌≡◌, refl, sym, ◌∙◌, ap}
use mathlib.Core.Bool.{Bool, true, false, cond, and-false}
use mathlib.Core.List.{List, [], ◌∷◌, ◌++◌, map}
use native.Mathlib.Omega.{arith}
use borrow.Author.Tests.{eq-eqb, ne_eqb, le-ltb, lt-ltb, le-leb, lt-leb, eqb-true, ltb-false, not-false}
use lib.Dec.{leb, eqb}
use lib.ListN.{length, get_or, take, drop, length-append, length-drop}
use lib.Seq.{length-take-le, take_at, drop_at}
use Rattle.types.specs.declared.Refusal.TheVariants.{TableLength, RegisterMalformed, SourceNumber, CustomerZero, ProviderList, NoRecord, RegisterFull}
use Rattle.types.specs.Rows.{first_given, effect}
use Rattle.table.specs.Table.{counters, bodies, encode, decode, Sound, staying_entries, insert_at, remove_at}
use Rattle.table.specs.Helpers.{Insertable, Removable, Clearable}
use Rattle.table.proofs.After.{removed}
use Rattle.keyed.specs.Keyed.{same_pair, before_pair, ascends, without}
use Rattle.keyed.proofs.Orders.{ordered_pairs, both_intro}
use Rattle.keyed.proofs.Ranks.{rank_within}
use Rattle.keyed.proofs.Puts.{length_put_new, length_put_over}
use Rattle.rules.specs.Records.{Record}
use Rattle.register.specs.Register.{record_head, record_tail, record_width, source_word, count_word, register_words, most_records, most_listed, last_source, entry_of, records_of, register_of, record_at, key_of, listed, list_ok, room_for, register_ok, position_of}
use Rattle.register.specs.Helpers.{Passed}
use Rattle.register.specs.Calls.{holds_record, put_record, erase_record, clear_records, count_records, record_for, file_effect, file_rows, withdraw_rows, clear_rows, withdraw_effect, clear_effect}
use Rattle.register.proofs.Entries.{decoded, length_records, record_count, list_count, length_is, slot_within, listed_next, listed_take, bodies_listed, length_entries}
use Rattle.register.proofs.Holding.{sound, records-ok, ordered, has_room, room_records, room_lists}
use Rattle.register.proofs.Changes.{cleared_count}
use Rattle.register.proofs.Placing.{inserted_entries, removed_entries, listed_append, listed_at, put_at, listed_new, put_in_position, position_within, listed_over, erase_position}
use Rattle.std.specs.Prelude.{Ok, Err, Some, None}
use Rattle.types.specs.declared.Refusal.{Refusal}
use Rattle.types.proofs.Refusing.{accepted_none, row_passed, first_front}
use Rattle.types.specs.declared.Filed.TheVariants.{New}
use Rattle.types.specs.declared.Filed.TheVariants.{Replaced}

-- ---- the rows that every call tests first, 1, 2 and 4

module _ (ws : List ℕ) (source : ℕ) where
  pub rows_length : (length ws ≡ register_words → ⊥) → first_given (clear_rows ws source) ≡ Some TableLength
  unfolding first_given
  rows_length a = rw (ne_eqb (length ws) register_words a)

  module _ (a : length ws ≡ register_words) where
    pub rows_malformed : register_ok ws ≡ false → first_given (clear_rows ws source) ≡ Some RegisterMalformed
    unfolding first_given
    rows_malformed b = rw (eq-eqb (length ws) register_words a, b)

    module _ (b : register_ok ws ≡ true) where
      pub rows_source : last_source < source → first_given (clear_rows ws source) ≡ Some SourceNumber
      unfolding first_given
      rows_source c = rw (eq-eqb (length ws) register_words a, b, lt-ltb last_source source c)

      pub rows_pass : source ≤ last_source → first_given (clear_rows ws source) ≡ None
      unfolding first_given
      rows_pass c = rw (eq-eqb (length ws) register_words a, b, le-ltb last_source source c)

-- What a call knows of which none is given.
pub record Passes (ws : List ℕ) (source : ℕ) : Type 0 where
  pub long : length ws ≡ register_words
  pub ok : register_ok ws ≡ true
  pub known : source ≤ last_source

pub passes : (ws : List ℕ) (source : ℕ) → first_given (clear_rows ws source) ≡ None → Passes ws source
passes ws source e =
    let given = accepted_none (clear_rows ws source) e in
    record {
      long = eqb-true _ _ (not-false _ (row_passed _ _ (given 0)));
      ok = not-false _ (row_passed _ _ (given 1));
      known = ltb-false _ _ (row_passed _ _ (given 2));
    }

-- ---- a refusal by them

pub file_early : (ws : List ℕ) (source customer : ℕ) (list : List ℕ) (r : Refusal) → first_given (clear_rows ws source) ≡ Some r
    → effect (Err r) ws ≡ file_effect ws source customer list
unfolding file_effect
file_early ws source customer list r e =
    let given : first_given (file_rows ws source customer list) ≡ Some r = first_front (clear_rows ws source) _ r e in
    rw given

pub withdraw_early : (ws : List ℕ) (source customer : ℕ) (r : Refusal) → first_given (clear_rows ws source) ≡ Some r
    → effect (Err r) ws ≡ withdraw_effect ws source customer
unfolding withdraw_effect
withdraw_early ws source customer r e =
    let given : first_given (withdraw_rows ws source customer) ≡ Some r = first_front (clear_rows ws source) _ r e in
    rw given

pub clear_early : (ws : List ℕ) (source : ℕ) (r : Refusal) → first_given (clear_rows ws source) ≡ Some r → effect (Err r) ws ≡ clear_effect ws source
unfolding clear_effect
clear_early ws source r e = rw e

-- Row by row, each of the three calls.
module _ (ws : List ℕ) (source customer : ℕ) (list : List ℕ) where
  pub file_length : (length ws ≡ register_words → ⊥) → file_effect ws source customer list ≡ record { answer = Err TableLength; words = ws }
  file_length a = sym (file_early ws source customer list TableLength (rows_length ws source a))

  module _ (a : length ws ≡ register_words) where
    pub file_malformed : register_ok ws ≡ false → file_effect ws source customer list ≡ record { answer = Err RegisterMalformed; words = ws }
    file_malformed b = sym (file_early ws source customer list RegisterMalformed (rows_malformed ws source a b))

    pub file_source : register_ok ws ≡ true → last_source < source → file_effect ws source customer list ≡ record { answer = Err SourceNumber; words = ws }
    file_source b c = sym (file_early ws source customer list SourceNumber (rows_source ws source a b c))

module _ (ws : List ℕ) (source customer : ℕ) where
  pub withdraw_length : (length ws ≡ register_words → ⊥) → withdraw_effect ws source customer ≡ record { answer = Err TableLength; words = ws }
  withdraw_length a = sym (withdraw_early ws source customer TableLength (rows_length ws source a))

  module _ (a : length ws ≡ register_words) where
    pub withdraw_malformed : register_ok ws ≡ false → withdraw_effect ws source customer ≡ record { answer = Err RegisterMalformed; words = ws }
    withdraw_malformed b = sym (withdraw_early ws source customer RegisterMalformed (rows_malformed ws source a b))

    pub withdraw_source : register_ok ws ≡ true → last_source < source → withdraw_effect ws source customer ≡ record { answer = Err SourceNumber; words = ws }
    withdraw_source b c = sym (withdraw_early ws source customer SourceNumber (rows_source ws source a b c))

module _ (ws : List ℕ) (source : ℕ) where
  pub clear_length : (length ws ≡ register_words → ⊥) → clear_effect ws source ≡ record { answer = Err TableLength; words = ws }
  clear_length a = sym (clear_early ws source TableLength (rows_length ws source a))

  module _ (a : length ws ≡ register_words) where
    pub clear_malformed : register_ok ws ≡ false → clear_effect ws source ≡ record { answer = Err RegisterMalformed; words = ws }
    clear_malformed b = sym (clear_early ws source RegisterMalformed (rows_malformed ws source a b))

    pub clear_source : register_ok ws ≡ true → last_source < source → clear_effect ws source ≡ record { answer = Err SourceNumber; words = ws }
    clear_source b c = sym (clear_early ws source SourceNumber (rows_source ws source a b c))

-- ---- the rows of a filing behind them

module _ (ws : List ℕ) (source customer : ℕ) (list : List ℕ) (p : Passes ws source) where
  pub file_customer : customer ≡ 0 → effect (Err CustomerZero) ws ≡ file_effect ws source customer list
  unfolding file_effect first_given
  file_customer d = rw (eq-eqb (length ws) register_words p.long, p.ok, le-ltb last_source source p.known, eq-eqb customer 0 d)

  module _ (d : customer ≡ 0 → ⊥) where
    pub file_list : list_ok customer list ≡ false → effect (Err ProviderList) ws ≡ file_effect ws source customer list
    unfolding file_effect first_given
    file_list e = rw (eq-eqb (length ws) register_words p.long, p.ok, le-ltb last_source source p.known, ne_eqb customer 0 d, e)

    pub file_passed : list_ok customer list ≡ true → {position : ℕ} → position ≡ position_of customer source (records_of ws)
        → Passed ws position source customer list
    file_passed e h = record { long = p.long; ok = p.ok; known = p.known; some = d; rising = e; here = h }

-- ---- row 8, and the filing

module _ {ws : List ℕ} {position source customer : ℕ} {list : List ℕ} (p : Passed ws position source customer list) where
  abbrev rs : List Record
  rs = records_of ws

  abbrev r : Record
  r = record_for source customer list

  s : Sound record_head record_tail ws
  s = sound ws p.ok

  pub file_full : room_for (put_record r rs) ≡ false → file_effect ws source customer list ≡ record { answer = Err RegisterFull; words = ws }
  unfolding file_effect first_given
  file_full e =
      rw (eq-eqb (length ws) register_words p.long, p.ok, le-ltb last_source source p.known, ne_eqb customer 0 p.some, p.rising, e)

  pub file_done : (b : Bool) → holds_record customer source rs ≡ b → room_for (put_record r rs) ≡ true
      → file_effect ws source customer list ≡ effect (Ok (cond b Replaced New)) (register_of (put_record r rs))
  unfolding file_effect first_given
  file_done b h e =
      rw (eq-eqb (length ws) register_words p.long, p.ok, le-ltb last_source source p.known, ne_eqb customer 0 p.some, p.rising, e, h)

  -- The two counts, and the position.
  pub count-word : get_or ws 0 0 ≡ length rs
  count-word = record_count ws s

  pub body_word : get_or ws 1 0 ≡ listed rs
  body_word = list_count ws s

  pub few : length rs ≤ most_records
  few = room_records rs (has_room rs (records-ok ws p.ok))

  pub little : listed rs ≤ most_listed
  little = room_lists rs (has_room rs (records-ok ws p.ok))

  pub position_in : position ≤ length rs
  unfolding position_of
  position_in = rw p.here (rank_within key_of same_pair before_pair (customer, source) rs)

  body_count : length (bodies (decode record_head record_tail ws)) ≡ listed rs
  body_count = ap (λ es. length (bodies es)) (decoded ws s) ∙ bodies_listed rs

  -- A new record.
  module _ (free : holds_record customer source rs ≡ false) where
    pub full_records : most_records ≤ length rs → file_effect ws source customer list ≡ record { answer = Err RegisterFull; words = ws }
    unfolding room_for
    full_records h =
        let n : length (put_record r rs) ≡ suc (length rs) = length_put_new key_of same_pair before_pair r rs free in
        file_full (rw (lt-leb (length (put_record r rs)) most_records (omega arith)) refl)

    pub full_lists : most_listed - listed rs < length list → file_effect ws source customer list ≡ record { answer = Err RegisterFull; words = ws }
    unfolding room_for
    full_lists h =
        let b : listed (put_record r rs) ≡ listed rs + length list = listed_new r rs free in
        file_full (rw (lt-leb (listed (put_record r rs)) most_listed (omega (arith, little))) (and-false (leb (length (put_record r rs)) most_records)))

    module _ (more : length rs < most_records) (room : length list ≤ most_listed - listed rs) where
      pub new_fits : Insertable record_head record_tail ws position (entry_of r)
      new_fits =
          record {
            sound = s;
            within = omega (arith, position_in, length_records ws s);
            head = refl;
            tail = refl;
            room = omega (arith, p.long, body_count, length_records ws s, little);
            small = omega (arith, p.long);
          }

      pub new_done : {ws' : List ℕ} → ws' ≡ encode (length ws) (insert_at position (entry_of r) (decode record_head record_tail ws))
          → effect (Ok New) ws' ≡ file_effect ws source customer list
      unfolding room_for register_of
      new_done {ws'} e = ap (effect (Ok New)) (e ∙ words) ∙ sym done
        where
          fits : room_for (put_record r rs) ≡ true
          fits =
              let n : length (put_record r rs) ≡ suc (length rs) = length_put_new key_of same_pair before_pair r rs free in
              let b : listed (put_record r rs) ≡ listed rs + length list = listed_new r rs free in
              both_intro _ _ (le-leb (length (put_record r rs)) most_records (omega arith)) (le-leb (listed (put_record r rs)) most_listed (omega (arith, little)))

          done : file_effect ws source customer list ≡ record { answer = Ok New; words = register_of (put_record r rs) }
          done = file_done false free fits

          words : encode (length ws) (insert_at position (entry_of r) (decode record_head record_tail ws)) ≡ encode register_words (map entry_of (put_record r rs))
          words =
              (λ i. encode (p.long i) (insert_at (p.here i) (entry_of r) (decoded ws s i)))
              ∙ ap (encode register_words) (inserted_entries (position_of customer source rs) r rs ∙ ap (map entry_of) (sym (put_at r rs free)))

  -- A list in the position of another.
  module _ (taken : holds_record customer source rs ≡ true) where
    asc : ascends key_of same_pair before_pair rs ≡ true
    asc = ordered ws p.ok

    pub position_under : position < length rs
    position_under = rw p.here (position_within r rs asc taken)

    pub old_slot : counters + position * record_width + record_width ≤ length ws
    old_slot = slot_within ws s position position_under

    -- The numbers of the list that goes.
    pub old_word : get_or ws (counters + position * record_width + count_word) 0 ≡ length (record_at rs position).providers
    old_word = length_is ws s position position_under

    pub old_within : length (record_at rs position).providers ≤ listed rs
    old_within = omega (arith, listed_next rs position position_under, listed_take rs (suc position))

    others : listed (put_record r rs) + length (record_at rs position).providers ≡ listed rs + length list
    others = rw p.here (listed_over r rs asc taken)

    pub full_over : most_listed - (listed rs - length (record_at rs position).providers) < length list
        → file_effect ws source customer list ≡ record { answer = Err RegisterFull; words = ws }
    unfolding room_for
    full_over h =
        file_full (rw (lt-leb (listed (put_record r rs)) most_listed (omega (arith, others, old_within, little))) (and-false (leb (length (put_record r rs)) most_records)))

    pub old_goes : Removable record_head record_tail ws position
    old_goes = record { sound = s; within = omega (arith, position_under, length_records ws s); small = omega (arith, p.long) }

    module _ (room : length list ≤ most_listed - (listed rs - length (record_at rs position).providers))
        {ws₁ : List ℕ} (gone : ws₁ ≡ encode (length ws) (remove_at position (decode record_head record_tail ws))) (long₁ : length ws₁ ≡ length ws) where
      abbrev rest : List Record
      rest = take position rs ++ drop (suc position) rs

      now_sound : Sound record_head record_tail ws₁
      now_sound = (removed record_head record_tail ws position ws₁ old_goes gone).0

      now_holds : decode record_head record_tail ws₁ ≡ map entry_of rest
      now_holds = (removed record_head record_tail ws position ws₁ old_goes gone).1 ∙ ap (remove_at position) (decoded ws s) ∙ removed_entries position rs

      front : length (take position rs) ≡ position
      front = length-take-le position rs (omega (arith, position_under))

      rest_length : suc (length rest) ≡ length rs
      rest_length = omega (arith, length-append (take position rs) (drop (suc position) rs), length-drop (suc position) rs, front, position_under)

      rest_listed : listed rest + length (record_at rs position).providers ≡ listed rs
      rest_listed = omega (arith, listed_append (take position rs) (drop (suc position) rs), listed_at position rs position_under)

      pub over_fits : Insertable record_head record_tail ws₁ position (entry_of r)
      over_fits =
          let n : length (decode record_head record_tail ws₁) ≡ length rest = ap length now_holds ∙ length_entries rest in
          let b : length (bodies (decode record_head record_tail ws₁)) ≡ listed rest = ap (λ es. length (bodies es)) now_holds ∙ bodies_listed rest in
          record {
            sound = now_sound;
            within = omega (arith, position_under, rest_length);
            head = refl;
            tail = refl;
            room = omega (arith, p.long, rest_length, rest_listed, few, little);
            small = omega (arith, p.long);
          }

      pub over_done : {ws₂ : List ℕ} → ws₂ ≡ encode (length ws₁) (insert_at position (entry_of r) (decode record_head record_tail ws₁))
          → effect (Ok Replaced) ws₂ ≡ file_effect ws source customer list
      unfolding room_for register_of
      over_done {ws₂} e = ap (effect (Ok Replaced)) (e ∙ words) ∙ sym done
        where
          fits : room_for (put_record r rs) ≡ true
          fits =
              let n : length (put_record r rs) ≡ length rs = length_put_over key_of same_pair before_pair ordered_pairs r rs asc taken in
              both_intro _ _ (le-leb (length (put_record r rs)) most_records (omega (arith, few))) (le-leb (listed (put_record r rs)) most_listed (omega (arith, others, old_within, little)))

          done : file_effect ws source customer list ≡ record { answer = Ok Replaced; words = register_of (put_record r rs) }
          done = file_done true taken fits

          put_here : put_record r rs ≡ take position rs ++ (r ∷ drop (suc position) rs)
          put_here = rw p.here (put_in_position r rs asc taken)

          words : encode (length ws₁) (insert_at position (entry_of r) (decode record_head record_tail ws₁)) ≡ encode register_words (map entry_of (put_record r rs))
          words =
              (λ i. encode ((long₁ ∙ p.long) i) (insert_at position (entry_of r) (now_holds i)))
              ∙ ap (encode register_words) (inserted_entries position r rest)
              ∙ (λ i. encode register_words (map entry_of (take_at (take position rs) (drop (suc position) rs) position front i ++ (r ∷ drop_at (take position rs) (drop (suc position) rs) position front i))))
              ∙ ap (λ l. encode register_words (map entry_of l)) (sym put_here)

-- ---- Withdraw

module _ (ws : List ℕ) (source customer : ℕ) (p : Passes ws source) where
  pub withdraw_customer : customer ≡ 0 → effect (Err CustomerZero) ws ≡ withdraw_effect ws source customer
  unfolding withdraw_effect first_given
  withdraw_customer d = rw (eq-eqb (length ws) register_words p.long, p.ok, le-ltb last_source source p.known, eq-eqb customer 0 d)

  module _ (d : customer ≡ 0 → ⊥) where
    pub withdraw_none : holds_record customer source (records_of ws) ≡ false → effect (Err NoRecord) ws ≡ withdraw_effect ws source customer
    unfolding withdraw_effect first_given
    withdraw_none e = rw (eq-eqb (length ws) register_words p.long, p.ok, le-ltb last_source source p.known, ne_eqb customer 0 d, e)

    module _ (e : holds_record customer source (records_of ws) ≡ true) {position : ℕ} (f : position ≡ position_of customer source (records_of ws)) where
      asc' : ascends key_of same_pair before_pair (records_of ws) ≡ true
      asc' = ordered ws p.ok

      pub withdraw_goes : Removable record_head record_tail ws position
      withdraw_goes =
          let h : position < length (records_of ws) = rw f (position_within (record_for source customer []) (records_of ws) asc' e) in
          record { sound = sound ws p.ok; within = omega (arith, length_records ws (sound ws p.ok)); small = omega (arith, p.long) }

      pub withdraw_done : {ws' : List ℕ} → ws' ≡ encode (length ws) (remove_at position (decode record_head record_tail ws))
          → effect (Ok tt) ws' ≡ withdraw_effect ws source customer
      unfolding register_of withdraw_effect first_given
      withdraw_done {ws'} g =
          rw (eq-eqb (length ws) register_words p.long, p.ok, le-ltb last_source source p.known, ne_eqb customer 0 d, e) (ap (effect (Ok tt)) (g ∙ words))
        where
          words : encode (length ws) (remove_at position (decode record_head record_tail ws)) ≡ encode register_words (map entry_of (erase_record customer source (records_of ws)))
          words =
              (λ i. encode (p.long i) (remove_at (f i) (decoded ws (sound ws p.ok) i)))
              ∙ ap (encode register_words)
              (removed_entries (position_of customer source (records_of ws)) (records_of ws) ∙ ap (map entry_of) (sym (erase_position customer source (records_of ws) asc' e)))

-- ---- Clear

-- The entries that a clearing keeps are those of the records that it keeps.
kept_entries : (source : ℕ) (rs : List Record) → staying_entries source_word source (map entry_of rs) ≡ map entry_of (clear_records source rs)
unfolding staying_entries without
kept_entries source [] = refl
kept_entries source (r ∷ rs) = go (eqb r.source source) (kept_entries source rs)
  where
    go : (b : Bool) → staying_entries source_word source (map entry_of rs) ≡ map entry_of (clear_records source rs)
        → cond b (staying_entries source_word source (map entry_of rs)) (entry_of r ∷ staying_entries source_word source (map entry_of rs))
        ≡ map entry_of (cond b (clear_records source rs) (r ∷ clear_records source rs))
    go true h = h
    go false h = ap (λ l. entry_of r ∷ l) h

module _ (ws : List ℕ) (source : ℕ) (a : length ws ≡ register_words) (b : register_ok ws ≡ true) where
  pub clear_may : Clearable record_head record_tail ws source_word
  clear_may = record { sound = sound ws b; within = omega arith; small = omega (arith, a) }

  kept : staying_entries source_word source (decode record_head record_tail ws) ≡ map entry_of (clear_records source (records_of ws))
  kept = ap (staying_entries source_word source) (decoded ws (sound ws b)) ∙ kept_entries source (records_of ws)

  module _ {gone : ℕ} (g : gone + length (staying_entries source_word source (decode record_head record_tail ws)) ≡ length (decode record_head record_tail ws)) where
    pub gone_is : gone ≡ count_records source (records_of ws)
    gone_is =
        omega (
          arith,
          cleared_count source (records_of ws),
          ap length kept ∙ length_entries (clear_records source (records_of ws)),
          length_records ws (sound ws b),
        )

    pub gone_few : gone ≤ most_records
    gone_few = omega (arith, length_records ws (sound ws b), room_records (records_of ws) (has_room (records_of ws) (records-ok ws b)))

pub clear_done :
    (ws : List ℕ) (source : ℕ) (p : Passes ws source) {gone : ℕ}
    → gone + length (staying_entries source_word source (decode record_head record_tail ws)) ≡ length (decode record_head record_tail ws)
    → {ws' : List ℕ} → ws' ≡ encode (length ws) (staying_entries source_word source (decode record_head record_tail ws))
    → effect (Ok gone) ws' ≡ clear_effect ws source
unfolding clear_effect first_given register_of
clear_done ws source p g e =
    rw (eq-eqb (length ws) register_words p.long, p.ok, le-ltb last_source source p.known)
    (λ i. effect (Ok (gone_is ws source p.long p.ok g i)) ((e ∙ (λ j. encode (p.long j) (kept ws source p.long p.ok j))) i))
