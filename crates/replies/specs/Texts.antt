-- The text of a reply, with the tables as its command leaves them ("The console").
use Rattle.std.specs.Prelude.{ℕ, ◌+◌, ◌*◌, ◌≤◌, min, cond, List, [], ◌∷◌, length, get_or, take, replicate, Result}
use Rattle.types.specs.Rows.{Effect}
use Rattle.table.specs.Table.{all_zero}
use Rattle.text.specs.Ascii.{ascii}
use Rattle.answers.specs.Texts.{judged_text, hopped_text, filed_text, done_text, cleared_text, rejudged_text, written_text, list_text}
use Rattle.answers.specs.Texts.{spaced_text, answer_room}
use Rattle.register.specs.Register as register
use Rattle.ledger.specs.Routes as ledger
use Rattle.snapshot.specs.Calls.{write_effect}
use Rattle.registers.specs.Registers.{Registers}
use Rattle.effects.specs.Calls.{lookup_list}
use Rattle.history.specs.Calls.{Tables}
use Rattle.calls.specs.declared.Named.{Named}
use Rattle.calls.specs.declared.Named.TheVariants.{Register, Overrides, Ledger}
use Rattle.calls.specs.declared.Reply.{Reply}
use Rattle.calls.specs.declared.Reply.TheVariants.{Done, Error, Filed, Removed, Cleared, Judged, Hopped, Rejudged, Restored, Written, Listed, Shown, Sized}
use Rattle.calls.specs.Commands.{most_lent, most_output}
use Rattle.types.specs.declared.Refusal.{Refusal}

-- The words up to the last body, of a table whose slots have so many words; all where the counts lead past the end.
abbrev pub used_words : ℕ → List ℕ → List ℕ
used_words slot table = take (min (2 + slot * get_or table 0 0 + get_or table 1 0) (length table)) table

-- The words up to the last that is not zero.
unfoldable pub without_zeros : List ℕ → List ℕ
without_zeros [] = []
without_zeros (x ∷ xs) = cond (all_zero (x ∷ xs)) [] (x ∷ without_zeros xs)

abbrev pub sized_text : List ℕ → List ℕ
sized_text table = spaced_text (length table ∷ without_zeros table)

abbrev pub table_named : Tables → Named → List ℕ
table_named t Register = t.registers.public
table_named t Overrides = t.registers.overrides
table_named t Ledger = t.ledger

abbrev pub slot_width : Named → ℕ
slot_width Register = register.record_width
slot_width Overrides = register.record_width
slot_width Ledger = ledger.route_width

abbrev pub shown_text : Tables → Named → List ℕ
shown_text t n = spaced_text (used_words (slot_width n) (table_named t n))

abbrev pub sized_in : Tables → Named → List ℕ
sized_in t n = sized_text (table_named t n)

-- The answer of a writing, with the bytes of its output.
abbrev pub effect_text : Effect (Result ℕ Refusal) → List ℕ
effect_text e = written_text e.words e.answer

-- A snapshot written to an output of so many zero bytes. No command asks for more than the most.
abbrev pub snapshot_text : List ℕ → List ℕ → ℕ → List ℕ
snapshot_text reg led capacity = effect_text (write_effect reg led (replicate (min capacity most_output) 0))

-- The list of a source for a customer, in the register that counts.
abbrev pub lookup_text : Registers → ℕ → ℕ → List ℕ
lookup_text reg source customer = list_text (lookup_list reg source customer)

abbrev pub reply_text : Tables → Reply → List ℕ
reply_text t Done = ascii "done"
reply_text t Error = ascii "error"
reply_text t (Filed a) = filed_text a
reply_text t (Removed a) = done_text a
reply_text t (Cleared a) = cleared_text a
reply_text t (Judged a) = judged_text a
reply_text t (Hopped a) = hopped_text a
reply_text t (Rejudged a) = rejudged_text a
reply_text t (Restored a) = done_text a
reply_text t (Written capacity) = snapshot_text t.registers.public t.ledger capacity
reply_text t (Listed source customer) = lookup_text t.registers source customer
reply_text t (Shown n) = shown_text t n
reply_text t (Sized n) = sized_in t n

-- The room that a reply takes at most: a snapshot's length, and two digits for each of its bytes. The words of a table, of eleven bytes each at
-- most, take less.
abbrev pub most_reply : ℕ
most_reply = answer_room + 2 * most_output

-- No table is lent with more words than the most.
pub record Small (t : Tables) : Type 0 where
  pub public : length t.registers.public ≤ most_lent
  pub overrides : length t.registers.overrides ≤ most_lent
  pub ledger : length t.ledger ≤ most_lent
