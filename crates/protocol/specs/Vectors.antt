-- Lines and answers of the console, by computation.
use Rattle.std.specs.Prelude.{ℕ, ◌≡◌, refl, List, [], ◌∷◌, map, pos, negsuc, None, Err, Ok}
use Rattle.std.specs.Option.{option_map_or}
use Rattle.std.proofs.Common.{ap}
use Prim.Native.String.{String}
use Rattle.text.specs.Ascii.{ascii}
use Rattle.text.specs.Numbers.{value_from, all_digits, number_from, digits_before}
use Rattle.text.specs.Bytes.{hex_value, pair_value, pairs, all_bytes, same_bytes, hex_text}
use Rattle.lines.specs.Words.{split, words_of, all_numbers, numbers_in}
use Rattle.types.specs.declared.Answer.TheVariants.{Plain, WithGap}
use Rattle.types.specs.declared.Origin.TheVariants as origin
use Rattle.types.specs.declared.Origins.TheVariants.{One, Two}
use Rattle.types.specs.declared.Hop.TheVariants.{NoAttestation, ProviderPlus, NotProviderPlus}
use Rattle.types.specs.declared.Cause.TheVariants.{ByGround, ByHops}
use Rattle.types.specs.declared.Ground.TheVariants.{AsSet}
use Rattle.types.specs.declared.Verdict.TheVariants.{Valid, Invalid, Unknown}
use Rattle.types.specs.declared.Fault.TheVariants.{UnknownType}
use Rattle.types.specs.declared.Refusal.TheVariants.{RegisterMalformed, RegisterFull, Attribute}
use Rattle.types.specs.Rows.{first_given}
use Rattle.answers.specs.Texts.{each_text, judged_text, hopped_text, list_text, spaced_text}
use Rattle.effects.specs.Calls.{keeping}
use Rattle.table.specs.Table.{bodies, decode_slots, decode, slots_ok, all_zero, well_formed}
use Rattle.keyed.specs.Keyed.{ascends, every}
use Rattle.register.specs.Register.{records_of, listed, records_ok, register_ok}
use Rattle.register.specs.Register as register
use Rattle.ledger.specs.Routes.{routes_of, path_words, routes_ok, ledger_ok}
use Rattle.ledger.specs.Routes as ledger
use Rattle.snapshot.specs.Snapshot.{snapshot_of, bytes_of}
use Rattle.snapshot.specs.Calls.{write_effect, read_effect}
use Rattle.history.specs.Calls.{Tables, blank, file, withdraw, clear, keep, drop, rejudge}
use Rattle.calls.specs.declared.Named.TheVariants.{Register, Overrides, Ledger}
use Rattle.calls.specs.Commands.{Command, call, judge, hop, lookup, read, write, show, words, poke, resize, empty, bad, most_lent, named_by, with_number, up_to, show_command, words_command, poke_command, resize_command}
use Rattle.commands.specs.Commands.{lent_command, command_of}
use Rattle.calls.specs.Performing.{after}
use Rattle.protocol.specs.Feeding.{answer_line}

abbrev command : String → Command
command line = command_of (words_of (ascii line))

-- Lines that are commands.
pub commands :
    map command ("file 1 64500" ∷ "file 1 64500 64501 0" ∷ "withdraw 1 64500" ∷ "clear 7" ∷ "judge 3 64500 0202" ∷ "judge 3 64500 -" ∷ "keep 4294967295 1 64500 02" ∷ "drop 9" ∷ "rejudge" ∷ "read 00ff" ∷ "read -" ∷ "write 131072" ∷ "register" ∷ "words ledger" ∷ "poke ledger 0 5" ∷ "resize register 16384" ∷ "empty" ∷ [])
    ≡ call (file origin.Public 1 64500 [])
    ∷ call (file origin.Public 1 64500 (64501 ∷ 0 ∷ []))
    ∷ call (withdraw origin.Public 1 64500)
    ∷ call (clear origin.Public 7)
    ∷ judge 3 64500 (2 ∷ 2 ∷ [])
    ∷ judge 3 64500 []
    ∷ call (keep (keeping 4294967295 1 64500 (2 ∷ [])))
    ∷ call (drop 9)
    ∷ call rejudge
    ∷ read (0 ∷ 255 ∷ [])
    ∷ read []
    ∷ write 131072
    ∷ show Register
    ∷ words Ledger
    ∷ poke Ledger 0 5
    ∷ resize Register 16384
    ∷ empty
    ∷ []
unfolding command_of lent_command named_by same_bytes split number_from all_digits value_from all_numbers numbers_in pairs pair_value hex_value all_bytes
commands = refl

-- Those of the overrides, and those that ask both registers. `lookup` has the customer before the source.
pub overrides_commands :
    map command ("dfile 1 64500" ∷ "dfile 1 64500 64501" ∷ "dwithdraw 1 64500" ∷ "dclear 7" ∷ "hop 5 6" ∷ "hop 1 4294967295" ∷ "lookup 64500 1" ∷ "lookup 0 0" ∷ "drawer" ∷ "words drawer" ∷ "poke drawer 0 5" ∷ "resize drawer 16384" ∷ [])
    ≡ call (file origin.Overrides 1 64500 [])
    ∷ call (file origin.Overrides 1 64500 (64501 ∷ []))
    ∷ call (withdraw origin.Overrides 1 64500)
    ∷ call (clear origin.Overrides 7)
    ∷ hop 5 6
    ∷ hop 1 4294967295
    ∷ lookup 1 64500
    ∷ lookup 0 0
    ∷ show Overrides
    ∷ words Overrides
    ∷ poke Overrides 0 5
    ∷ resize Overrides 16384
    ∷ []
unfolding command_of lent_command named_by same_bytes split number_from all_digits value_from all_numbers numbers_in pairs pair_value hex_value all_bytes
overrides_commands = refl

-- Lines that are none: too few words, too many, a leading zero, 2^32, a space too many, odd, upper-case and no hex, a length or a capacity past the most.
pub no_commands :
    map command ("file 1" ∷ "rejudge now" ∷ "clear 07" ∷ "clear 4294967296" ∷ "clear  7" ∷ "clear 7 " ∷ "judge 3 64500 020" ∷ "judge 3 64500 0A" ∷ "judge 3 64500 xy" ∷ "judge 3 64500" ∷ "resize register 16385" ∷ "read" ∷ "read 00 ff" ∷ "write 131073" ∷ [])
    ≡ bad ∷ bad ∷ bad ∷ bad ∷ bad ∷ bad ∷ bad ∷ bad ∷ bad ∷ bad ∷ bad ∷ bad ∷ bad ∷ bad ∷ []
unfolding command_of lent_command named_by same_bytes split number_from all_digits value_from all_numbers numbers_in pairs pair_value hex_value all_bytes
no_commands = refl

-- A hop with 0, or with one number or three; a look-up with one number or three; a leading zero, a word too many, a length past the most.
pub no_overrides_commands :
    map command ("hop 0 5" ∷ "hop 5 0" ∷ "hop 5" ∷ "hop 5 6 7" ∷ "lookup 5" ∷ "lookup 5 1 2" ∷ "dclear 07" ∷ "dfile 1" ∷ "dwithdraw 1" ∷ "drawer 1" ∷ "resize drawer 16385" ∷ [])
    ≡ bad ∷ bad ∷ bad ∷ bad ∷ bad ∷ bad ∷ bad ∷ bad ∷ bad ∷ bad ∷ bad ∷ []
unfolding command_of lent_command named_by same_bytes split number_from all_digits value_from all_numbers numbers_in pairs pair_value hex_value all_bytes
no_overrides_commands = refl

-- A line with another first word is none, and nor is one that speaks of a table that there is not.
pub unknown : map command ("" ∷ "hello" ∷ "File" ∷ "words x" ∷ "poke x 0 5" ∷ "resize x 0" ∷ []) ≡ bad ∷ bad ∷ bad ∷ bad ∷ bad ∷ bad ∷ []
unfolding command_of lent_command named_by same_bytes split number_from all_digits value_from all_numbers numbers_in pairs pair_value hex_value all_bytes
unknown = refl

-- Whatever else stands in it, a command with a word that names no table is bad.
pub unnamed :
    (word : List ℕ)
    → named_by word ≡ None
    → (name index value to : List ℕ)
    → show_command (word ∷ []) ∷ words_command (name ∷ word ∷ []) ∷ poke_command (name ∷ word ∷ index ∷ value ∷ []) ∷ resize_command (name ∷ word ∷ to ∷ []) ∷ []
    ≡ bad ∷ bad ∷ bad ∷ bad ∷ []
unnamed word none name index value to =
    ap (λ n.
    option_map_or show n bad
    ∷ option_map_or words n bad
    ∷ option_map_or (λ n. with_number (name ∷ word ∷ index ∷ value ∷ []) 2 (λ i. with_number (name ∷ word ∷ index ∷ value ∷ []) 3 (λ v. poke n i v))) n bad
    ∷ option_map_or (λ n. with_number (name ∷ word ∷ to ∷ []) 2 (λ k. up_to most_lent k (resize n k))) n bad
    ∷ []) none

-- What is bad answers `error`, and changes nothing.
pub no_table : (t : Tables) → answer_line t bad ≡ ascii "error\n"
no_table t = refl

pub nothing_changes : (t : Tables) → after t bad ≡ t
nothing_changes t = refl

-- Answers.
pub answers :
    map judged_text
    (Ok (Plain Valid) ∷ Ok (WithGap Valid (pos 0)) ∷ Ok (WithGap (Invalid (ByHops 2 1 (Two origin.Public origin.Overrides))) (negsuc 2)) ∷ Ok (Plain (Invalid (ByHops 3 0 (One origin.Overrides)))) ∷ Ok (Plain (Invalid (ByGround AsSet))) ∷ Ok (Plain (Unknown 10 3)) ∷ Err RegisterFull ∷ Err (Attribute UnknownType 102) ∷ [])
    ≡ ascii "Valid"
    ∷ ascii "Valid gap 0"
    ∷ ascii "Invalid 2 1 public drawer gap -3"
    ∷ ascii "Invalid 3 0 drawer -"
    ∷ ascii "Invalid ground 3"
    ∷ ascii "Unknown 10 3"
    ∷ ascii "refused 8"
    ∷ ascii "refused 13 at 102"
    ∷ []
unfolding digits_before
answers = refl

pub hop_answers :
    map hopped_text
    (Ok NoAttestation ∷ Ok (ProviderPlus origin.Public 3) ∷ Ok (ProviderPlus origin.Overrides 0) ∷ Ok (NotProviderPlus origin.Overrides) ∷ Ok (NotProviderPlus origin.Public) ∷ Err RegisterMalformed ∷ [])
    ≡ ascii "none" ∷ ascii "provider public 3" ∷ ascii "provider drawer 0" ∷ ascii "other drawer" ∷ ascii "other public" ∷ ascii "refused 2" ∷ []
unfolding digits_before
hop_answers = refl

pub lists : map list_text ([] ∷ (64501 ∷ 4294967295 ∷ []) ∷ []) ≡ ascii "list" ∷ ascii "list 64501 4294967295" ∷ []
unfolding digits_before each_text
lists = refl

-- A snapshot of the empty tables; an output of one byte less; two bytes read.
pub snapshots :
    map (answer_line blank) (write 36 ∷ write 35 ∷ read (0 ∷ 255 ∷ []) ∷ [])
    ≡ ascii "written 36 0000000100000014000000080000001c0000000800000000000000000000000000000000\n"
    ∷ ascii "refused 21\n"
    ∷ ascii "refused 24\n"
    ∷ []
unfolding blank write_effect read_effect first_given snapshot_of bytes_of hex_text digits_before bodies decode_slots decode slots_ok all_zero well_formed every ascends records_of listed records_ok register.room_for register_ok routes_of path_words routes_ok ledger.room_for ledger_ok
snapshots = refl

pub table_words : spaced_text (2 ∷ 0 ∷ 4294967295 ∷ []) ≡ ascii "2 0 4294967295"
unfolding digits_before each_text
table_words = refl
