-- The words of hints, of which the functions speak to each other. No promise of a look-up speaks of them.
use Rattle.std.specs.Prelude.{ℕ, ◌+◌, ◌*◌}
use Rattle.register.specs.Register.{most_records}

-- The words of a part, of which there are two behind the first word; the hints follow.
abbrev pub part_words : ℕ
part_words = 4

abbrev pub upper_part : ℕ
upper_part = 1 + part_words

abbrev pub first_cell : ℕ
first_cell = upper_part + part_words

-- Cells to a record of a full register.
abbrev pub cells_each : ℕ
cells_each = 4

-- The words that hold all hints; the last is behind the last cell.
abbrev pub hint_words : ℕ
hint_words = first_cell + cells_each * most_records + 1
