-- What the functions over a register ask of each other and count. No call's promise speaks of it.
use Rattle.std.specs.Prelude.{ℕ, ◌≤◌, ◌≡◌, true, List, length}
use Rattle.register.specs.Register.{register_words, last_source, records_of, list_ok, register_ok, position_of}

-- The most steps that find a record: a full register's records can be halved ten times.
abbrev pub most_steps : ℕ
most_steps = 11

-- A filing that passed rows 1 to 6, and the position of its pair.
pub record Passed (ws : List ℕ) (position source customer : ℕ) (list : List ℕ) : Type 0 where
  pub long : length ws ≡ register_words
  pub ok : register_ok ws ≡ true
  pub known : source ≤ last_source
  pub some : customer ≡ 0 → ⊥
  pub rising : list_ok customer list ≡ true
  pub here : position ≡ position_of customer source (records_of ws)
