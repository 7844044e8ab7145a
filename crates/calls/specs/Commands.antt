-- What a line's words ask for ("The console"). What is no command, or speaks of a table that there is not, is bad: it answers `error` and changes nothing.
use Rattle.std.specs.Prelude.{ℕ, ◌/◌, cond, List, [], Option, Some, None, eqb, ltb, length, get_or, drop}
use Rattle.std.specs.Option.{option_map_or}
use Rattle.text.specs.Ascii.{ascii}
use Rattle.text.specs.Numbers.{number_of, if_number}
use Rattle.text.specs.Bytes.{bytes_of, bytes_in, if_bytes, same_bytes}
use Rattle.lines.specs.Words.{all_numbers, numbers_in}
use Rattle.types.specs.declared.Origin.{Origin}
use Rattle.effects.specs.Calls.{keeping}
use Rattle.history.specs.Calls.{Call, file, withdraw, clear, keep, drop as drop_route, rejudge}
use Rattle.calls.specs.declared.Named.{Named}
use Rattle.calls.specs.declared.Named.TheVariants.{Register, Overrides, Ledger}

pub data Command : Type 0 where
  call : Call → Command
  judge : (role neighbour : ℕ) → (attribute : List ℕ) → Command
  hop : (x y : ℕ) → Command
  lookup : (source customer : ℕ) → Command
  read : (file : List ℕ) → Command
  write : (capacity : ℕ) → Command
  show : Named → Command
  words : Named → Command
  poke : Named → (index value : ℕ) → Command
  resize : Named → (to : ℕ) → Command
  empty : Command
  bad : Command

-- ---- the parts of a command

-- The most bytes of a line.
abbrev pub most_line : ℕ
most_line = 262144

-- The most numbers, or bytes in hex, of a line: each takes two of its bytes.
abbrev pub most_parts : ℕ
most_parts = most_line / 2

-- The table that a word names.
unfoldable pub named_by : List ℕ → Option Named
named_by word =
    cond (same_bytes word (ascii "register")) (Some Register)
    (cond (same_bytes word (ascii "drawer")) (Some Overrides)
    (cond (same_bytes word (ascii "ledger")) (Some Ledger)
    None))

abbrev pub of_words : List (List ℕ) → ℕ → Command → Command
of_words ws n command = cond (eqb (length ws) n) command bad

abbrev pub with_number : List (List ℕ) → ℕ → (ℕ → Command) → Command
with_number ws k f = if_number (number_of (get_or ws k [])) f bad

abbrev pub with_bytes : List (List ℕ) → ℕ → (List ℕ → Command) → Command
with_bytes ws k f = if_bytes (bytes_of (get_or ws k [])) (f (bytes_in (get_or ws k []))) bad

abbrev pub with_numbers : List (List ℕ) → ℕ → (List ℕ → Command) → Command
with_numbers ws k f = cond (all_numbers (drop k ws)) (f (numbers_in (drop k ws))) bad

abbrev pub with_table : List (List ℕ) → ℕ → (Named → Command) → Command
with_table ws k f = option_map_or f (named_by (get_or ws k [])) bad

-- The most words that a table is lent with.
abbrev pub most_lent : ℕ
most_lent = 16384

-- The most bytes of an output that a snapshot is written to.
abbrev pub most_output : ℕ
most_output = 131072

abbrev pub up_to : ℕ → ℕ → Command → Command
up_to most n command = cond (ltb most n) bad command

abbrev pub from_one : ℕ → Command → Command
from_one n command = cond (eqb n 0) bad command

-- ---- the commands, each after its name was read

-- On the register of an origin.
abbrev pub file_command : Origin → List (List ℕ) → Command
file_command o ws =
    cond (ltb (length ws) 3) bad
    (with_number ws 1 (λ source. with_number ws 2 (λ customer. with_numbers ws 3 (λ list. call (file o source customer list)))))

abbrev pub withdraw_command : Origin → List (List ℕ) → Command
withdraw_command o ws = of_words ws 3 (with_number ws 1 (λ source. with_number ws 2 (λ customer. call (withdraw o source customer))))

abbrev pub clear_command : Origin → List (List ℕ) → Command
clear_command o ws = of_words ws 2 (with_number ws 1 (λ source. call (clear o source)))

abbrev pub judge_command : List (List ℕ) → Command
judge_command ws =
    of_words ws 4 (with_number ws 1 (λ role. with_number ws 2 (λ neighbour. with_bytes ws 3 (λ attribute. judge role neighbour attribute))))

abbrev pub keep_command : List (List ℕ) → Command
keep_command ws =
    of_words ws 5
    (with_number ws 1 (λ number. with_number ws 2 (λ role. with_number ws 3 (λ neighbour. with_bytes ws 4 (λ attribute. call (keep (keeping number role neighbour attribute)))))))

abbrev pub drop_command : List (List ℕ) → Command
drop_command ws = of_words ws 2 (with_number ws 1 (λ number. call (drop_route number)))

abbrev pub rejudge_command : List (List ℕ) → Command
rejudge_command ws = of_words ws 1 (call rejudge)

abbrev pub hop_command : List (List ℕ) → Command
hop_command ws = of_words ws 3 (with_number ws 1 (λ x. with_number ws 2 (λ y. from_one x (from_one y (hop x y)))))

-- The customer stands before the source.
abbrev pub lookup_command : List (List ℕ) → Command
lookup_command ws = of_words ws 3 (with_number ws 1 (λ customer. with_number ws 2 (λ source. lookup source customer)))

abbrev pub read_command : List (List ℕ) → Command
read_command ws = of_words ws 2 (with_bytes ws 1 (λ file. read file))

abbrev pub write_command : List (List ℕ) → Command
write_command ws = of_words ws 2 (with_number ws 1 (λ capacity. up_to most_output capacity (write capacity)))

abbrev pub show_command : List (List ℕ) → Command
show_command ws = of_words ws 1 (with_table ws 0 (λ n. show n))

abbrev pub poke_command : List (List ℕ) → Command
poke_command ws = of_words ws 4 (with_table ws 1 (λ n. with_number ws 2 (λ index. with_number ws 3 (λ value. poke n index value))))

abbrev pub resize_command : List (List ℕ) → Command
resize_command ws = of_words ws 3 (with_table ws 1 (λ n. with_number ws 2 (λ to. up_to most_lent to (resize n to))))

abbrev pub words_command : List (List ℕ) → Command
words_command ws = of_words ws 2 (with_table ws 1 (λ n. words n))

abbrev pub empty_command : List (List ℕ) → Command
empty_command ws = of_words ws 1 empty
