-- The statements of specs/Laws.antt. Assumes nothing.
use Prim.Native.Nat.{ℕ, ◌+◌, ◌≤◌}
use mathlib.Core.Path.{◌≡◌, refl, sym, ◌∙◌, ap}
use mathlib.Core.Bool.{Bool, true, false, cond}
use mathlib.Core.List.{List}
use native.Mathlib.Omega.{arith}
use borrow.Author.Tests.{not-false, eq-eqb, ne_eqb, le-ltb}
use lib.ListN.{length}
use Rattle.types.specs.Rows.{first_given, effect}
use Rattle.types.proofs.Refusing.{row_passed, accepted_none}
use Rattle.keyed.specs.Keyed.{same_pair, before_pair, without}
use Rattle.keyed.proofs.Orders.{ordered_pairs}
use Rattle.keyed.proofs.Finds.{is_some, find_holds, every_found}
use Rattle.rules.specs.Records.{Record}
use Rattle.register.specs.Register.{register_words, last_source, records_of, register_of, key_of, position_of, record_ok, room_for, records_ok, register_ok}
use Rattle.register.specs.Calls.{holds_record, put_record, erase_record, clear_records, count_records, of_source, record_for, file_rows, withdraw_rows, clear_rows, file_effect, withdraw_effect, clear_effect}
use Rattle.register.specs.Helpers.{Passed}
use Rattle.register.specs.Calls.{find_record}
use Rattle.register.specs.Laws.{Register, RegisterLaws}
use Rattle.register.proofs.Entries.{records_of_words, words_are}
use Rattle.register.proofs.Holding.{sound, records-ok, has_room, room_records, room_lists, each_ok}
use Rattle.register.proofs.Changes.{record_customer, record_source, record_list, without_ok, filed_finds, withdrawn_finds, cleared_finds, cleared_count}
use Rattle.register.proofs.Changes as changes
use Rattle.register.proofs.Refusals.{records_register, file_preserves, withdraw_preserves, clear_preserves}
use Rattle.register.proofs.Filing.{file_done}
use Rattle.register.proofs.Uniting as uniting
use Rattle.std.specs.Prelude.{None, Ok, Some}
use Rattle.types.specs.declared.Filed.TheVariants.{New}

-- Records that fit are read back from their words.
read_back : (rs : List Record) → room_for rs ≡ true → records_of (register_of rs) ≡ rs
read_back rs e = records_of_words rs (room_records rs e) (room_lists rs e)

-- ---- accepted calls

module _ (ws : List ℕ) (source customer : ℕ) (list : List ℕ) (e : first_given (file_rows ws source customer list) ≡ None) where
  file_words : (file_effect ws source customer list).words ≡ register_of (put_record (record_for source customer list) (records_of ws))
  unfolding file_effect
  file_words = rw e

  pub file_records : records_of (file_effect ws source customer list).words ≡ put_record (record_for source customer list) (records_of ws)
  file_records =
      ap records_of file_words
      ∙ read_back (put_record (record_for source customer list) (records_of ws))
      (not-false _ (row_passed _ _ (accepted_none (file_rows ws source customer list) e 5)))

-- Some records of a register taken out, by their keys, are read back.
rest_back : (ws : List ℕ) (test : ℕ × ℕ → Bool) → register_ok ws ≡ true
    → records_of (register_of (without key_of same_pair before_pair test (records_of ws))) ≡ without key_of same_pair before_pair test (records_of ws)
rest_back ws test ok = read_back _ (has_room _ (without_ok (records_of ws) (records-ok ws ok) test))

module _ (ws : List ℕ) (source customer : ℕ) (e : first_given (withdraw_rows ws source customer) ≡ None) where
  withdraw_words : (withdraw_effect ws source customer).words ≡ register_of (erase_record customer source (records_of ws))
  unfolding withdraw_effect
  withdraw_words = rw e

  pub withdraw_records : records_of (withdraw_effect ws source customer).words ≡ erase_record customer source (records_of ws)
  withdraw_records =
      ap records_of withdraw_words
      ∙ rest_back ws (same_pair (customer, source)) (not-false _ (row_passed _ _ (accepted_none (withdraw_rows ws source customer) e 1)))

module _ (ws : List ℕ) (source : ℕ) (e : first_given (clear_rows ws source) ≡ None) where
  clear_is : clear_effect ws source ≡ effect (Ok (count_records source (records_of ws))) (register_of (clear_records source (records_of ws)))
  unfolding clear_effect
  clear_is = rw e

  clear-records : records_of (clear_effect ws source).words ≡ clear_records source (records_of ws)
  clear-records =
      ap (λ s. records_of s.words) clear_is ∙ rest_back ws (of_source source) (not-false _ (row_passed _ _ (accepted_none (clear_rows ws source) e 1)))

-- ---- a record withdrawn and filed once more

module _ (ws : List ℕ) (r : Record) (w : Register ws) (f : find_record (key_of r) (records_of ws) ≡ Some r) where
  abbrev rs : List Record
  rs = records_of ws

  abbrev rest : List Record
  rest = erase_record r.customer r.source rs

  ok : records_ok rs ≡ true
  ok = records-ok ws w.ok

  own : record_ok r ≡ true
  own = every_found key_of same_pair before_pair record_ok (key_of r) rs r (each_ok rs ok) f

  customer_some : r.customer ≡ 0 → ⊥
  customer_some e = omega (arith, record_customer r own)

  source_known : r.source ≤ last_source
  source_known = record_source r own

  held : holds_record r.customer r.source rs ≡ true
  held = find_holds key_of same_pair before_pair (key_of r) rs ∙ ap is_some f

  taken_out : (withdraw_effect ws r.source r.customer).words ≡ register_of rest
  unfolding withdraw_effect first_given
  taken_out =
      rw (eq-eqb (length ws) register_words w.long, w.ok, le-ltb last_source r.source source_known, ne_eqb r.customer 0 customer_some, held)

  rest_ok : records_ok rest ≡ true
  rest_ok = without_ok rs ok (same_pair (key_of r))

  rest_read : records_of (register_of rest) ≡ rest
  rest_read = read_back rest (has_room rest rest_ok)

  gone : find_record (key_of r) rest ≡ None
  gone = withdrawn_finds (key_of r) r.customer r.source rs ∙ ap (λ b. cond b None (find_record (key_of r) rs)) (ordered_pairs.same_self (key_of r))

  rest_free : holds_record r.customer r.source (records_of (register_of rest)) ≡ false
  rest_free = ap (holds_record r.customer r.source) rest_read ∙ find_holds key_of same_pair before_pair (key_of r) rest ∙ ap is_some gone

  put_back : put_record r (records_of (register_of rest)) ≡ rs
  put_back = ap (put_record r) rest_read ∙ changes.refiled r rs ok f

  passed : Passed (register_of rest) (position_of r.customer r.source (records_of (register_of rest))) r.source r.customer r.providers
  passed =
      let formed = records_register rest rest_ok in
      record { long = formed.long; ok = formed.ok; known = source_known; some = customer_some; rising = record_list r own; here = refl }

  refiled : file_effect (withdraw_effect ws r.source r.customer).words r.source r.customer r.providers ≡ effect (Ok New) ws
  refiled =
      ap (λ l. file_effect l r.source r.customer r.providers) taken_out
      ∙ file_done passed false rest_free (ap room_for put_back ∙ has_room rs ok)
      ∙ ap (effect (Ok New)) (ap register_of put_back ∙ sym (words_are ws (sound ws w.ok) w.long))

pub register_laws : RegisterLaws
register_laws = record {
  listed_united = λ rs x y l. uniting.listed_united rs x y l.at l.within l.owner l.inside;
  united_listed = uniting.united_listed;
  file_formed = file_preserves;
  withdraw_formed = withdraw_preserves;
  clear_formed = clear_preserves;
  filed = λ ws source customer list e k.
      ap (find_record k) (file_records ws source customer list e) ∙ filed_finds k (record_for source customer list) (records_of ws);
  withdrawn = λ ws source customer e k.
      ap (find_record k) (withdraw_records ws source customer e) ∙ withdrawn_finds k customer source (records_of ws);
  cleared = λ ws source e k. ap (find_record k) (clear-records ws source e) ∙ cleared_finds k source (records_of ws);
  cleared_count = λ ws source e. (
    ap (λ s. s.answer) (clear_is ws source e),
    ap (λ rs. length rs + count_records source (records_of ws)) (clear-records ws source e) ∙ cleared_count source (records_of ws),
  );
  refiled = refiled;
}
