-- File, Withdraw and Clear ("The calls"): the answer, and the register's words after it, for every argument and all words before.
use Rattle.std.specs.Prelude.{ℕ, Bool, not, cond, List, [], ◌∷◌, ltb, eqb, Ok, Option, Result}
use Rattle.types.specs.declared.Refusal.{Refusal}
use Rattle.types.specs.declared.Refusal.TheVariants.{RegisterMalformed, SourceNumber, CustomerZero, ProviderList, NoRecord, RegisterFull}
use Rattle.types.specs.Rows.{row_if, length_row, first_given, Effect, effect, unless_refused}
use Rattle.keyed.specs.Keyed.{same_pair, before_pair, holds, find, put, without, count_of}
use Rattle.rules.specs.Records.{Record}
use Rattle.register.specs.Register.{register_words, last_source, records_of, register_of, key_of, list_ok, room_for, register_ok}
use Rattle.types.specs.declared.Filed.{Filed}
use Rattle.types.specs.declared.Filed.TheVariants.{New}
use Rattle.types.specs.declared.Filed.TheVariants.{Replaced}

-- ---- records: looked for, put in, taken out

-- The record under a pair of customer and source.
abbrev pub find_record : ℕ × ℕ → List Record → Option Record
find_record k rs = find key_of same_pair before_pair k rs

abbrev pub holds_record : ℕ → ℕ → List Record → Bool
holds_record customer source rs = holds key_of same_pair before_pair (customer, source) rs

abbrev pub put_record : Record → List Record → List Record
put_record r rs = put key_of same_pair before_pair r rs

abbrev pub erase_record : ℕ → ℕ → List Record → List Record
erase_record customer source rs = without key_of same_pair before_pair (same_pair (customer, source)) rs

abbrev pub of_source : ℕ → ℕ × ℕ → Bool
of_source source k = eqb k.1 source

abbrev pub clear_records : ℕ → List Record → List Record
clear_records source rs = without key_of same_pair before_pair (of_source source) rs

abbrev pub count_records : ℕ → List Record → ℕ
count_records source rs = count_of key_of same_pair before_pair (of_source source) rs

-- ---- the rows of each call

abbrev pub table_row : List ℕ → Option Refusal
table_row ws = length_row register_words ws

abbrev pub register_row : List ℕ → Option Refusal
register_row ws = row_if (not (register_ok ws)) RegisterMalformed

abbrev pub source_row : ℕ → Option Refusal
source_row source = row_if (ltb last_source source) SourceNumber

abbrev pub customer_row : ℕ → Option Refusal
customer_row customer = row_if (eqb customer 0) CustomerZero

abbrev pub record_for : ℕ → ℕ → List ℕ → Record
record_for source customer list = record { customer = customer; source = source; providers = list }

abbrev pub file_rows : List ℕ → ℕ → ℕ → List ℕ → List (Option Refusal)
file_rows ws source customer list =
    table_row ws
    ∷ register_row ws
    ∷ source_row source
    ∷ customer_row customer
    ∷ row_if (not (list_ok customer list)) ProviderList
    ∷ row_if (not (room_for (put_record (record_for source customer list) (records_of ws)))) RegisterFull
    ∷ []

abbrev pub withdraw_rows : List ℕ → ℕ → ℕ → List (Option Refusal)
withdraw_rows ws source customer =
    table_row ws
    ∷ register_row ws
    ∷ source_row source
    ∷ customer_row customer
    ∷ row_if (not (holds_record customer source (records_of ws))) NoRecord
    ∷ []

abbrev pub clear_rows : List ℕ → ℕ → List (Option Refusal)
clear_rows ws source = table_row ws ∷ register_row ws ∷ source_row source ∷ []

-- ---- the calls

-- File answers whether the pair had a list, and replaces only that pair's.
abbrev pub filed_as : Record → List Record → Filed
filed_as r rs = cond (holds_record r.customer r.source rs) Replaced New

unfoldable pub file_effect : List ℕ → ℕ → ℕ → List ℕ → Effect (Result Filed Refusal)
file_effect ws source customer list =
    unless_refused (first_given (file_rows ws source customer list)) ws
    (effect (Ok (filed_as (record_for source customer list) (records_of ws)))
    (register_of (put_record (record_for source customer list) (records_of ws))))

unfoldable pub withdraw_effect : List ℕ → ℕ → ℕ → Effect (Result Unit Refusal)
withdraw_effect ws source customer =
    unless_refused (first_given (withdraw_rows ws source customer)) ws
    (effect (Ok tt) (register_of (erase_record customer source (records_of ws))))

-- Clear answers how many records went, zero included.
unfoldable pub clear_effect : List ℕ → ℕ → Effect (Result ℕ Refusal)
clear_effect ws source =
    unless_refused (first_given (clear_rows ws source)) ws
    (effect (Ok (count_records source (records_of ws))) (register_of (clear_records source (records_of ws))))
