-- What the documents say of a snapshot's text, as a statement. proofs/ReadingBack.antt has the proof.
use Rattle.std.specs.Prelude.{ℕ, ◌<◌, ◌≡◌, true, List, ◌++◌, length}
use Rattle.text.specs.Ascii.{ascii}
use Rattle.text.specs.Bytes.{all_bytes, hex_text}
use Rattle.lines.specs.Words.{words_of}
use Rattle.calls.specs.Commands.{read}
use Rattle.commands.specs.Commands.{command_of}

-- A line of `read` and bytes as `write` prints them asks for a reading of those bytes.
abbrev pub ReadsBack : Type 0
ReadsBack = (bs : List ℕ) → 0 < length bs → all_bytes bs ≡ true → command_of (words_of (ascii "read " ++ hex_text bs)) ≡ read bs
