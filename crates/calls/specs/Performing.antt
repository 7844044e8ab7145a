-- What a command answers, and the tables as it leaves them ("The console").
use Rattle.std.specs.Prelude.{ℕ, cond, List, ltb, length, take, set}
use Rattle.table.specs.Table.{pad}
use Rattle.types.specs.declared.Origin.TheVariants as origin
use Rattle.registers.specs.Registers.{lent}
use Rattle.effects.specs.Calls.{judge_answer, hop_answer}
use Rattle.history.specs.Calls as calls
use Rattle.history.specs.Calls.{Tables, says, with_register, with_ledger, leaves, blank}
use Rattle.snapshot.specs.Calls.{read_effect}
use Rattle.calls.specs.declared.Named.{Named}
use Rattle.calls.specs.declared.Named.TheVariants.{Register, Overrides, Ledger}
use Rattle.calls.specs.declared.Reply.{Reply}
use Rattle.calls.specs.declared.Reply.TheVariants.{Done, Error, Filed, Removed, Cleared, Judged, Hopped, Rejudged, Restored, Written, Listed, Shown, Sized}
use Rattle.calls.specs.Commands.{Command, call, judge, hop, lookup, read, write, show, words, poke, resize, empty, bad, most_lent}

-- ---- the reply

-- A call's answer.
abbrev pub of_call : calls.Reply → Reply
of_call (calls.filed a) = Filed a
of_call (calls.removed a) = Removed a
of_call (calls.cleared a) = Cleared a
of_call (calls.kept a) = Judged a
of_call (calls.rejudged a) = Rejudged a

abbrev pub poke_reply : List ℕ → ℕ → Reply
poke_reply table index = cond (ltb index (length table)) Done Error

abbrev pub named_reply : Named → Reply → Reply → Reply → Reply
named_reply Register r o l = r
named_reply Overrides r o l = o
named_reply Ledger r o l = l

abbrev pub reply_to : Tables → Command → Reply
reply_to t (call c) = of_call (says t c)
reply_to t (judge role neighbour attribute) = Judged (judge_answer t.registers role neighbour attribute)
reply_to t (hop x y) = Hopped (hop_answer t.registers x y)
reply_to t (lookup source customer) = Listed source customer
reply_to t (read file) = Restored (read_effect file t.registers.public t.ledger).answer
reply_to t (write capacity) = Written capacity
reply_to t (show n) = Shown n
reply_to t (words n) = Sized n
reply_to t (poke n index value) =
    named_reply n (poke_reply t.registers.public index) (poke_reply t.registers.overrides index) (poke_reply t.ledger index)
reply_to t (resize n to) = named_reply n Done Done Done
reply_to t empty = Done
reply_to t bad = Error

-- ---- the tables

-- A table's words changed, the table being named.
abbrev pub changed : Named → (List ℕ → List ℕ) → Tables → Tables
changed Register f t = with_register t origin.Public (f t.registers.public)
changed Overrides f t = with_register t origin.Overrides (f t.registers.overrides)
changed Ledger f t = with_ledger t (f t.ledger)

-- Lent with another number of words: those past the old end are zero.
abbrev pub resized : ℕ → List ℕ → List ℕ
resized to table = take to (pad most_lent table)

abbrev pub tables_of : List ℕ → List ℕ → List ℕ → Tables
tables_of reg overrides led = record { registers = lent reg overrides; ledger = led }

abbrev pub after : Tables → Command → Tables
after t (call c) = leaves t c
after t (judge role neighbour attribute) = t
after t (hop x y) = t
after t (lookup source customer) = t
after t (read file) =
    tables_of (read_effect file t.registers.public t.ledger).register t.registers.overrides
    (read_effect file t.registers.public t.ledger).ledger
after t (write capacity) = t
after t (show n) = t
after t (words n) = t
after t (poke n index value) = changed n (λ table. set table index value) t
after t (resize n to) = changed n (resized to) t
after t empty = blank
after t bad = t

-- ---- both

pub record Result : Type 0 where
  pub reply : Reply
  pub tables : Tables

abbrev pub result_of : Reply → List ℕ → List ℕ → List ℕ → Result
result_of r reg overrides led = record { reply = r; tables = tables_of reg overrides led }

-- The reply to a command, and the tables after it.
abbrev pub performed : Tables → Command → Result
performed t c = record { reply = reply_to t c; tables = after t c }
