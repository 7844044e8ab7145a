-- What the snapshot's own functions ask of each other. No call's promise speaks of it.
use Rattle.std.specs.Prelude.{ℕ, ◌*◌, ◌≡◌, List, ◌++◌, length, Err, None, Ok, Option, Result, Some}
use Rattle.types.specs.declared.Refusal.{Refusal}
use Rattle.types.specs.Rows.{first_given}
use Rattle.register.specs.Register.{register_words}
use Rattle.ledger.specs.Routes.{ledger_words}
use Rattle.snapshot.specs.Snapshot.{word_bytes, bytes_of, contents_of}
use Rattle.snapshot.specs.Calls.{contents_rows}

-- The file of a register's and a ledger's used words.
unfoldable pub file_of : List ℕ → List ℕ → List ℕ
file_of reg led = bytes_of (contents_of (word_bytes * length reg) (word_bytes * length led)) ++ (bytes_of reg ++ bytes_of led)

-- The answer of some of a reading's rows.
abbrev pub answer_by : Option Refusal → Result Unit Refusal
answer_by (Some r) = Err r
answer_by None = Ok tt

-- A reading that passed the rows before 2.
pub record Loadable (file reg led : List ℕ) : Type 0 where
  pub register_long : length reg ≡ register_words
  pub ledger_long : length led ≡ ledger_words
  pub passed : first_given (contents_rows file) ≡ None
