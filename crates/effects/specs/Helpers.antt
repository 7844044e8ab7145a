-- What the functions of crate `filter` ask of each other and promise, beside the calls' own definitions.
use Rattle.std.specs.Prelude.{ℕ, ◌≡◌, true, List, length, None, Ok, Result}
use Rattle.types.specs.declared.Answer.{Answer}
use Rattle.types.specs.declared.Refusal.{Refusal}
use Rattle.types.specs.Rows.{first_given, Effect, effect, unless_refused}
use Rattle.rules.specs.Judging.{argument_rows}
use Rattle.registers.specs.Registers.{Registers, both_long, both_ok}
use Rattle.ledger.specs.Routes.{ledger_words, Route, routes_of, ledger_of, ledger_ok}
use Rattle.ledger.specs.Calls.{put_route, store_rows}

-- A keeping that passed rows 1, 2, 3, 9, 10 and 11.
pub record Ready (reg : Registers) (led : List ℕ) (role neighbour : ℕ) (attribute : List ℕ) : Type 0 where
  pub long : both_long reg ≡ true
  pub ok : both_ok reg ≡ true
  pub long_ledger : length led ≡ ledger_words
  pub ok_ledger : ledger_ok led ≡ true
  pub argued : first_given (argument_rows role neighbour attribute) ≡ None

-- The end of a keeping that is answered: rows 18 and 20, and the store.
abbrev pub stored_effect : List ℕ → Route → Answer → Effect (Result Answer Refusal)
stored_effect led r answer =
    unless_refused (first_given (store_rows led r)) led (effect (Ok answer) (ledger_of (put_route r (routes_of led))))
