-- The command of a line, by its first word ("The console").
use Rattle.std.specs.Prelude.{ℕ, Bool, cond, List, [], get_or}
use Prim.Native.String.{String}
use Rattle.text.specs.Ascii.{ascii}
use Rattle.text.specs.Bytes.{same_bytes}
use Rattle.types.specs.declared.Origin.TheVariants as origin
use Rattle.calls.specs.Commands.{Command, file_command, withdraw_command, clear_command, judge_command, keep_command, drop_command, rejudge_command, hop_command, lookup_command, read_command, write_command, show_command, poke_command, resize_command, words_command, empty_command}

abbrev pub is : List (List ℕ) → String → Bool
is ws name = same_bytes (get_or ws 0 []) (ascii name)

-- Those that leave the lengths as they are.
unfoldable pub lent_command : List (List ℕ) → Command
lent_command ws =
    cond (is ws "file") (file_command origin.Public ws)
    (cond (is ws "withdraw") (withdraw_command origin.Public ws)
    (cond (is ws "clear") (clear_command origin.Public ws)
    (cond (is ws "judge") (judge_command ws)
    (cond (is ws "keep") (keep_command ws)
    (cond (is ws "drop") (drop_command ws)
    (cond (is ws "rejudge") (rejudge_command ws)
    (cond (is ws "read") (read_command ws)
    (cond (is ws "write") (write_command ws)
    (cond (is ws "dfile") (file_command origin.Overrides ws)
    (cond (is ws "dwithdraw") (withdraw_command origin.Overrides ws)
    (cond (is ws "dclear") (clear_command origin.Overrides ws)
    (cond (is ws "hop") (hop_command ws)
    (cond (is ws "lookup") (lookup_command ws)
    (cond (is ws "poke") (poke_command ws)
    (cond (is ws "words") (words_command ws)
    (show_command ws))))))))))))))))

unfoldable pub command_of : List (List ℕ) → Command
command_of ws = cond (is ws "resize") (resize_command ws) (cond (is ws "empty") (empty_command ws) (lent_command ws))
