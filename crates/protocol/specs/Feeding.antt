-- Bytes that arrive in pieces, and the lines that they make ("The console").
use Rattle.std.specs.Prelude.{ℕ, ◌+◌, ◌≤◌, ◌≡◌, Bool, false, cond, List, [], ◌++◌, eqb, ltb, length, take, None, Option, Some}
use Rattle.std.proofs.lemmas.List.Edits.{sets}
use Rattle.table.specs.Table.{pad}
use Rattle.text.specs.Ascii.{ascii}
use Rattle.text.specs.declared.Text.{Text}
use Rattle.text.specs.Wrote.{Room, Wrote}
use Rattle.lines.specs.Words.{before, words_of}
use Rattle.history.specs.Calls.{Tables}
use Rattle.protocol.specs.declared.Lent.{Lent}
use Rattle.protocol.specs.declared.Lending.{Lending}
use Rattle.protocol.specs.declared.Console.{Console}
use Rattle.calls.specs.declared.Reply.{Reply}
use Rattle.calls.specs.Commands.{Command, bad, most_lent, most_line}
use Rattle.commands.specs.Commands.{command_of}
use Rattle.calls.specs.Performing.{tables_of, reply_to, after, performed}
use Rattle.replies.specs.Texts.{reply_text, most_reply}

-- ---- one line

-- A command's answer, with the tables as the command leaves them.
abbrev pub answer_line : Tables → Command → List ℕ
answer_line t c = reply_text (after t c) (reply_to t c) ++ ascii "\n"

-- Bytes added to a line; none is a line that is too long.
unfoldable pub joined : Option (List ℕ) → List ℕ → Option (List ℕ)
joined None part = None
joined (Some line) part = cond (ltb most_line (length line + length part)) None (Some (line ++ part))

unfoldable pub command_in : Option (List ℕ) → Command
command_in None = bad
command_in (Some line) = command_of (words_of line)

-- ---- a piece, up to its first newline

pub record Session : Type 0 where
  pub tables : Tables
  pub line : Option (List ℕ)

-- A newline is 10.
abbrev pub ends_line : List ℕ → Bool
ends_line piece = ltb (length (before 10 piece)) (length piece)

abbrev pub grown : Session → List ℕ → Option (List ℕ)
grown s piece = joined s.line (before 10 piece)

unfoldable pub fed : Session → List ℕ → Session
fed s piece =
    cond (ends_line piece)
    (record { tables = after s.tables (command_in (grown s piece)); line = Some [] })
    (record { tables = s.tables; line = grown s piece })

unfoldable pub fed_text : Session → List ℕ → List ℕ
fed_text s piece = cond (ends_line piece) (answer_line s.tables (command_in (grown s piece))) []

-- How many bytes of the piece are used.
unfoldable pub fed_bytes : List ℕ → ℕ
fed_bytes piece = cond (ends_line piece) (length (before 10 piece) + 1) (length piece)

-- ---- the end: a last line without a newline counts

abbrev pub is_blank : Option (List ℕ) → Bool
is_blank None = false
is_blank (Some line) = eqb (length line) 0

unfoldable pub finished : Session → Session
finished s = cond (is_blank s.line) s (record { tables = after s.tables (command_in s.line); line = Some [] })

unfoldable pub last_text : Session → List ℕ
last_text s = cond (is_blank s.line) [] (answer_line s.tables (command_in s.line))

-- ---- a session in the caller's buffers

-- A table is lent with n words: those past them are zero.
pub record Held (n : ℕ) (table : List ℕ) : Type 0 where
  pub size : length table ≡ most_lent
  pub within : n ≤ most_lent
  pub rest : table ≡ pad most_lent (take n table)

pub record HeldAll (s : Lent) (reg overrides led : List ℕ) : Type 0 where
  pub register_held : Held s.register reg
  pub overrides_held : Held s.overrides overrides
  pub ledger_held : Held s.ledger led

-- The words of the tables that are lent.
abbrev pub lent_in : Lending → Tables
lent_in l =
    tables_of (take l.lent.register l.tables.register.now) (take l.lent.overrides l.tables.overrides.now) (take l.lent.ledger l.tables.ledger.now)

abbrev pub HeldIn : Lending → Type 0
HeldIn l = HeldAll l.lent l.tables.register.now l.tables.overrides.now l.tables.ledger.now

-- A line of n bytes, and of one more than the most where it is too long.
unfoldable pub line_in : ℕ → List ℕ → Option (List ℕ)
line_in n buffer = cond (ltb most_line n) None (Some (take n buffer))

abbrev pub session_in : Console → Session
session_in c = record { tables = lent_in c.lending; line = line_in c.line.end c.line.buffer.now }

-- What adding bytes to a line of n leaves in its buffer.
unfoldable pub line_stored : ℕ → List ℕ → List ℕ → List ℕ
line_stored n buffer part = cond (ltb most_line (n + length part)) buffer (sets buffer n part)

-- The room that an answer takes at most.
abbrev pub most_text : ℕ
most_text = most_reply + 1

pub record Ready (c : Console) : Type 0 where
  pub line_size : length c.line.buffer.now ≡ most_line
  pub held : HeldIn c.lending
  pub room : Room c.out most_text

-- ---- what the functions on these buffers promise

-- They are the same tables.
pub record SameTables (old new : Lending) : Type 0 where
  pub register : new.tables.register.ghost_name ≡ old.tables.register.ghost_name
  pub overrides : new.tables.overrides.ghost_name ≡ old.tables.overrides.ghost_name
  pub ledger : new.tables.ledger.ghost_name ≡ old.tables.ledger.ghost_name

-- A command carried out: the reply, and the words that the tables are then lent with.
pub record Carries (old new : Lending) (reply : Reply) (command : Command) : Type 0 where
  pub same : SameTables old new
  pub result : record { reply = reply; tables = lent_in new } ≡ performed (lent_in old) command
  pub held : HeldIn new

-- The same with the reply's text.
pub record Answers (old new : Lending) (out out' : Text) (command : Command) : Type 0 where
  pub same : SameTables old new
  pub tables : lent_in new ≡ after (lent_in old) command
  pub text : Wrote out out' (reply_text (after (lent_in old) command) (reply_to (lent_in old) command))
  pub within : out'.end ≤ out.end + most_reply
  pub held : HeldIn new

-- Bytes added to a line, in its buffer.
pub record Joins (old new : Text) (part : List ℕ) : Type 0 where
  pub same : new.buffer.ghost_name ≡ old.buffer.ghost_name
  pub line : line_in new.end new.buffer.now ≡ joined (line_in old.end old.buffer.now) part
  pub stored : new.buffer.now ≡ line_stored old.end old.buffer.now part
  pub size : length new.buffer.now ≡ length old.buffer.now

-- They are the same buffers.
pub record SameBuffers (old new : Console) : Type 0 where
  pub tables : SameTables old.lending new.lending
  pub line : new.line.buffer.ghost_name ≡ old.line.buffer.ghost_name
  pub out : new.out.buffer.ghost_name ≡ old.out.buffer.ghost_name

-- The command that a line ends.
abbrev pub command_ending : Console → Command
command_ending c = command_in (line_in c.line.end c.line.buffer.now)

-- The line is answered behind what the output holds, and the next begins.
pub record EndsLine (old new : Console) : Type 0 where
  pub same : SameBuffers old new
  pub stored : new.line.buffer.now ≡ old.line.buffer.now
  pub tables : lent_in new.lending ≡ after (lent_in old.lending) (command_ending old)
  pub ended : new.line.end ≡ 0
  pub text : Wrote old.out new.out (answer_line (lent_in old.lending) (command_ending old))
  pub within : new.out.end ≤ old.out.end + most_text
  pub held : HeldIn new.lending

-- A piece fed: the session after it, how many of its bytes are used, and the text behind what the output holds.
pub record Feeds (piece : List ℕ) (old new : Console) (n : ℕ) : Type 0 where
  pub same : SameBuffers old new
  pub session : session_in new ≡ fed (session_in old) piece
  pub used : n ≡ fed_bytes piece
  pub stored : new.line.buffer.now ≡ line_stored old.line.end old.line.buffer.now (before 10 piece)
  pub size : length new.line.buffer.now ≡ length old.line.buffer.now
  pub text : Wrote old.out new.out (fed_text (session_in old) piece)
  pub within : new.out.end ≤ old.out.end + most_text
  pub held : HeldIn new.lending

-- The input's end, where n bytes stand in a line that is lent shared: the tables and the empty line after it, and the text behind what the output holds.
pub record Closes (n : ℕ) (line : List ℕ) (old new : Lending) (out out' : Text) : Type 0 where
  pub same : SameTables old new
  pub session : ◌≡◌ {A = Session} (record { tables = lent_in new; line = Some [] }) (finished (record { tables = lent_in old; line = line_in n line }))
  pub text : Wrote out out' (last_text (record { tables = lent_in old; line = line_in n line }))
  pub within : out'.end ≤ out.end + most_text
  pub held : HeldIn new

-- The input's end: the session after it, and the text behind what the output holds.
pub record Finishes (old new : Console) : Type 0 where
  pub same : SameBuffers old new
  pub session : session_in new ≡ finished (session_in old)
  pub stored : new.line.buffer.now ≡ old.line.buffer.now
  pub text : Wrote old.out new.out (last_text (session_in old))
  pub within : new.out.end ≤ old.out.end + most_text
  pub held : HeldIn new.lending
