-- Each call is refused by the first of its rows that is given, and by no other; a refusal leaves the words. Assumes nothing.
use Prim.Native.Nat.{ℕ}
use mathlib.Core.Path.{◌≡◌, refl}
use mathlib.Core.Bool.{true, not}
use mathlib.Core.Logic.{◌↔◌}
use mathlib.Core.List.{List, [], ◌∷◌, map}
use borrow.Author.Tests.{not-false}
use lib.Dec.{ltb, eqb}
use lib.ListN.{length}
use Rattle.types.specs.declared.Refusal.{Refusal}
use Rattle.types.specs.declared.Refusal.TheVariants.{TableLength, RegisterMalformed, SourceNumber, CustomerZero, ProviderList, NoRecord, RegisterFull}
use Rattle.types.specs.Numbers.{refusal_number}
use Rattle.types.specs.Rows.{first_given, effect, unless_refused, FirstAt, Numbered}
use Rattle.types.proofs.Refusing.{row_passed, accepted_none, answers_first, refusal_leaves, numbered}
use Rattle.table.proofs.Exact.{length_encode}
use Rattle.keyed.specs.Keyed.{same_pair}
use Rattle.rules.specs.Records.{Record}
use Rattle.register.specs.Register.{record_head, record_tail, register_words, last_source, records_of, register_of, entry_of, list_ok, room_for, records_ok, register_ok}
use Rattle.register.specs.Calls.{table_row, register_row, source_row, customer_row, holds_record, count_records, of_source, record_for, put_record, erase_record, clear_records, filed_as, file_rows, withdraw_rows, clear_rows, file_effect, withdraw_effect, clear_effect}
pub use Rattle.register.specs.Laws.{Register}
use Rattle.register.proofs.Entries.{entries_wide, records_fit}
use Rattle.register.proofs.Holding.{room_records, room_lists, has_room, words_ok, records-ok}
use Rattle.register.proofs.Changes.{record-ok, put_ok, without_ok}
use Rattle.std.specs.Prelude.{Err, None, Ok, Option, Some}

-- ---- exactly when a call is refused, and what a refusal leaves

module _ (ws : List ℕ) (source customer : ℕ) (list : List ℕ) (r : Refusal) where
  pub file_refuses : ((file_effect ws source customer list).answer ≡ Err r) ↔ ((i : ℕ) × FirstAt (file_rows ws source customer list) i r)
  unfolding file_effect
  file_refuses =
      answers_first (file_rows ws source customer list) ws _ _ r

  pub file_leaves : (file_effect ws source customer list).answer ≡ Err r → (file_effect ws source customer list).words ≡ ws
  unfolding file_effect
  file_leaves =
      refusal_leaves (file_rows ws source customer list) ws _ _ r

module _ (ws : List ℕ) (source customer : ℕ) (r : Refusal) where
  pub withdraw_refuses : ((withdraw_effect ws source customer).answer ≡ Err r) ↔ ((i : ℕ) × FirstAt (withdraw_rows ws source customer) i r)
  unfolding withdraw_effect
  withdraw_refuses = answers_first (withdraw_rows ws source customer) ws _ _ r

  pub withdraw_leaves : (withdraw_effect ws source customer).answer ≡ Err r → (withdraw_effect ws source customer).words ≡ ws
  unfolding withdraw_effect
  withdraw_leaves = refusal_leaves (withdraw_rows ws source customer) ws _ _ r

module _ (ws : List ℕ) (source : ℕ) (r : Refusal) where
  pub clear_refuses : ((clear_effect ws source).answer ≡ Err r) ↔ ((i : ℕ) × FirstAt (clear_rows ws source) i r)
  unfolding clear_effect
  clear_refuses =
      answers_first (clear_rows ws source) ws _ _ r

  pub clear_leaves : (clear_effect ws source).answer ≡ Err r → (clear_effect ws source).words ≡ ws
  unfolding clear_effect
  clear_leaves = refusal_leaves (clear_rows ws source) ws _ _ r

-- ---- the rows in the order of their numbers

module _ (ws : List ℕ) (source customer : ℕ) where
  wrong_length : (r : Refusal) → table_row ws ≡ Some r → refusal_number r ≡ 1
  wrong_length = numbered (not (eqb (length ws) register_words)) TableLength

  malformed : (r : Refusal) → register_row ws ≡ Some r → refusal_number r ≡ 2
  malformed = numbered (not (register_ok ws)) RegisterMalformed

  source_over : (r : Refusal) → source_row source ≡ Some r → refusal_number r ≡ 4
  source_over = numbered (ltb last_source source) SourceNumber

  no_customer : (r : Refusal) → customer_row customer ≡ Some r → refusal_number r ≡ 5
  no_customer = numbered (eqb customer 0) CustomerZero

  pub file_numbers : (list : List ℕ) → Numbered (file_rows ws source customer list) (1 ∷ 2 ∷ 4 ∷ 5 ∷ 6 ∷ 8 ∷ [])
  file_numbers list = (
    wrong_length,
    (
      malformed,
      (
        source_over,
        (
          no_customer,
          (
            numbered (not (list_ok customer list)) ProviderList,
            (
              numbered (not (room_for (put_record (record_for source customer list) (records_of ws)))) RegisterFull,
              tt,
            ),
          ),
        ),
      ),
    ),
  )

  pub withdraw_numbers : Numbered (withdraw_rows ws source customer) (1 ∷ 2 ∷ 4 ∷ 5 ∷ 7 ∷ [])
  withdraw_numbers = (
    wrong_length,
    (malformed, (source_over, (no_customer, (numbered (not (holds_record customer source (records_of ws))) NoRecord, tt)))),
  )

  pub clear_numbers : Numbered (clear_rows ws source) (1 ∷ 2 ∷ 4 ∷ [])
  clear_numbers = (wrong_length, (malformed, (source_over, tt)))

-- ---- accepted calls

length_words : (rs : List Record) → room_for rs ≡ true → length (register_of rs) ≡ register_words
unfolding register_of
length_words rs e = length_encode record_head record_tail register_words (map entry_of rs) (entries_wide rs) (records_fit rs (room_records rs e) (room_lists rs e))

pub records_register : (rs : List Record) → records_ok rs ≡ true → Register (register_of rs)
records_register rs e = record { long = length_words rs (has_room rs e); ok = words_ok rs e }

-- Every call leaves a well-formed register well formed.
module _ (ws : List ℕ) (w : Register ws) where
  abbrev rs : List Record
  rs = records_of ws

  pub file_preserves : (source customer : ℕ) (list : List ℕ) → Register (file_effect ws source customer list).words
  unfolding file_effect
  file_preserves source customer list = go (first_given rows) refl
    where
      rows : List (Option Refusal)
      rows = file_rows ws source customer list

      r : Record
      r = record_for source customer list

      go : (o : Option Refusal) → first_given rows ≡ o
          → Register (unless_refused o ws (effect (Ok (filed_as r rs)) (register_of (put_record r rs)))).words
      go (Some _) e = w
      go None e =
          let given = accepted_none rows e in
          records_register (put_record r rs)
          (put_ok rs (records-ok ws w.ok) r
          (record-ok r (row_passed _ _ (given 2)) (row_passed _ _ (given 3)) (not-false _ (row_passed _ _ (given 4))))
          (not-false _ (row_passed _ _ (given 5))))

  pub withdraw_preserves : (source customer : ℕ) → Register (withdraw_effect ws source customer).words
  unfolding withdraw_effect
  withdraw_preserves source customer = go (first_given (withdraw_rows ws source customer))
    where
      go : (o : Option Refusal)
          → Register (unless_refused o ws (effect (Ok (tt {0})) (register_of (erase_record customer source rs)))).words
      go (Some _) = w
      go None = records_register (erase_record customer source rs) (without_ok rs (records-ok ws w.ok) (same_pair (customer, source)))

  pub clear_preserves : (source : ℕ) → Register (clear_effect ws source).words
  unfolding clear_effect
  clear_preserves source = go (first_given (clear_rows ws source))
    where
      go : (o : Option Refusal)
          → Register (unless_refused o ws (effect (Ok (count_records source rs)) (register_of (clear_records source rs)))).words
      go (Some _) = w
      go None = records_register (clear_records source rs) (without_ok rs (records-ok ws w.ok) (of_source source))
