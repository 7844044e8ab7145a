-- What the functions of this crate ask of their callers.
use Rattle.std.specs.Prelude.{ℕ, ◌+◌, ◌*◌, ◌^◌, ◌≤◌, ◌<◌, List, length, get_or}
use Rattle.table.specs.Table.{counters}
use Rattle.halves.specs.declared.Range.{Range}

-- A range that has an entry, and can count one step more.
pub record Open (r : Range) : Type 0 where
  pub some : r.low < r.high
  pub countable : r.steps < 2 ^ 32

-- The slots are within the words, and have two words or more.
pub record Searchable (ws : List ℕ) (width : ℕ) : Type 0 where
  pub two : 2 ≤ width
  pub head : counters ≤ length ws
  pub slots : counters + get_or ws 0 0 * width ≤ length ws
