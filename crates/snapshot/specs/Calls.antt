-- Writing and reading a snapshot ("The calls"): the answer, every byte of the output, every word of both tables, for every argument.
use Rattle.std.specs.Prelude.{ℕ, not, List, [], ◌∷◌, ◌++◌, ltb, eqb, length, drop, Err, None, Ok, Option, Result, Some}
use Rattle.types.specs.declared.Refusal.{Refusal}
use Rattle.types.specs.declared.Refusal.TheVariants.{RegisterMalformed, RoutesMalformed, OutputLength, Edition, Contents, SnapshotLength}
use Rattle.types.specs.Rows.{row_if, length_row, first_given, Effect, effect, unless_refused}
use Rattle.register.specs.Register.{register_words}
use Rattle.register.specs.Calls.{register_row}
use Rattle.ledger.specs.Routes.{ledger_words}
use Rattle.ledger.specs.Calls.{ledger_row}
use Rattle.snapshot.specs.Snapshot.{contents_bytes, edition, snapshot_of, field, contents_ok, length_in, register_in, ledger_in, register_in_ok, ledger_in_ok}

-- ---- Write

-- Rows 1, 1, 2, 3, 21: the last exactly when the file does not fit.
abbrev pub write_rows : List ℕ → List ℕ → List ℕ → List (Option Refusal)
write_rows reg led out =
    length_row register_words reg
    ∷ length_row ledger_words led
    ∷ register_row reg
    ∷ ledger_row led
    ∷ row_if (ltb (length out) (length (snapshot_of reg led))) OutputLength
    ∷ []

-- A file at the start of an output: the bytes behind it stay.
abbrev pub over : List ℕ → List ℕ → List ℕ
over file out = file ++ drop (length file) out

-- Write answers the file's length; the words are the output's bytes.
unfoldable pub write_effect : List ℕ → List ℕ → List ℕ → Effect (Result ℕ Refusal)
write_effect reg led out =
    unless_refused (first_given (write_rows reg led out)) out
    (effect (Ok (length (snapshot_of reg led))) (over (snapshot_of reg led) out))

-- ---- Read

-- Rows 24, 22, 23, 24: a file too short for its contents, another edition, contents that are wrong, a file not as long as they say.
abbrev pub contents_rows : List ℕ → List (Option Refusal)
contents_rows file =
    row_if (ltb (length file) contents_bytes) SnapshotLength
    ∷ row_if (not (eqb (field file 0) edition)) Edition
    ∷ row_if (not (contents_ok file)) Contents
    ∷ row_if (not (eqb (length file) (length_in file))) SnapshotLength
    ∷ []

-- Rows 2, 3, of the tables in the file.
abbrev pub body_rows : List ℕ → List (Option Refusal)
body_rows file = row_if (not (register_in_ok file)) RegisterMalformed ∷ row_if (not (ledger_in_ok file)) RoutesMalformed ∷ []

-- Rows 1, 1, 24, 22, 23, 24, 2, 3. Of the lent tables only the lengths are looked at.
abbrev pub read_rows : List ℕ → List ℕ → List ℕ → List (Option Refusal)
read_rows file reg led = length_row register_words reg ∷ (length_row ledger_words led ∷ (contents_rows file ++ body_rows file))

-- What Read answers, and the words that it leaves in both tables.
pub record Reading : Type 0 where
  pub answer : Result Unit Refusal
  pub register : List ℕ
  pub ledger : List ℕ

abbrev pub reading : Result Unit Refusal → List ℕ → List ℕ → Reading
reading answer reg led = record { answer = answer; register = reg; ledger = led }

-- A refused reading leaves both tables.
abbrev pub read_unless : Option Refusal → List ℕ → List ℕ → List ℕ → Reading
read_unless (Some r) file reg led = reading (Err r) reg led
read_unless None file reg led = reading (Ok tt) (register_in file) (ledger_in file)

unfoldable pub read_effect : List ℕ → List ℕ → List ℕ → Reading
read_effect file reg led = read_unless (first_given (read_rows file reg led)) file reg led
