-- What a refused call writes is no answer, as statements: who looks at the first word alone sees that the call was refused. And the words of a
-- look-up lead to its list. proofs/Laws.antt has the proof.
use Rattle.std.specs.Prelude.{ℕ, ◌≡◌, cond, List, [], eqb, get_or, take, drop, Result}
use Rattle.types.specs.declared.Origin.TheVariants.{Public, Overrides}
use Rattle.register.specs.Calls.{clear_effect}
use Rattle.types.specs.Numbers.{origin_number}
use Rattle.registers.specs.Registers.{Registers}
use Rattle.effects.specs.Calls.{rejudge_effect, lookup_part, lookup_list}
use Rattle.snapshot.specs.Calls.{write_effect}
use Rattle.told.specs.Answers.{no_verdict, no_hop, not_filed, no_count, no_bytes, filed_told, counted_told, judged_told, hopped_told, part_told, written_told}
use Rattle.told.specs.Marks.{Marks}
use Rattle.types.specs.declared.Answer.{Answer}
use Rattle.types.specs.declared.Filed.{Filed}
use Rattle.types.specs.declared.Hop.{Hop}
use Rattle.types.specs.declared.Refusal.{Refusal}

pub record RefusalLaws : Type 0 where
  -- File, whatever it answers.
  pub file : (f : Result Filed Refusal) → Marks not_filed (filed_told f).result (filed_told f).words
  -- Clear and Re-judge, of whatever words: a count is no larger than its table.
  pub clear : (reg : List ℕ) (source : ℕ)
      → Marks no_count (counted_told (clear_effect reg source).answer).result (counted_told (clear_effect reg source).answer).words
  pub rejudge : (reg : Registers) (led : List ℕ)
      → Marks no_count (counted_told (rejudge_effect reg led).answer).result (counted_told (rejudge_effect reg led).answer).words
  -- Judge and Keep, whatever they answer.
  pub judge : (j : Result Answer Refusal) → Marks no_verdict (judged_told j).result (judged_told j).words
  -- Hop, whatever it answers.
  pub hop : (h : Result Hop Refusal) → Marks no_hop (hopped_told h).result (hopped_told h).words
  -- Write, of whatever words and whatever output.
  pub write : (reg led output : List ℕ)
      → Marks no_bytes (written_told (write_effect reg led output).answer).result (written_told (write_effect reg led output).answer).words

-- ---- the look-up

-- The register of a number, and what three words lead to: so many words from an index of it on.
abbrev pub register_of : ℕ → Registers → List ℕ
register_of n reg = cond (eqb n (origin_number Public)) reg.public (cond (eqb n (origin_number Overrides)) reg.overrides [])

abbrev pub list_at : Registers → List ℕ → List ℕ
list_at reg words = take (get_or words 2 0) (drop (get_or words 1 0) (register_of (get_or words 0 0) reg))

-- The words that C gets lead to the list, whatever the registers and the arguments.
abbrev pub LeadsToList : Type 0
LeadsToList = (reg : Registers) (source customer : ℕ) → list_at reg (part_told (lookup_part reg source customer)) ≡ lookup_list reg source customer
