-- The answers as C gets them: the refusal's number as the result, 0 where there is none, and the rest in words.
use Rattle.std.specs.Prelude.{ℕ, ◌-◌, cond, List, [], ◌∷◌, eqb, ℤ, pos, Err, None, Ok, Option, Result, Some}
use Rattle.types.specs.declared.Hop.{Hop}
use Rattle.types.specs.declared.Hop.TheVariants.{NoAttestation, ProviderPlus, NotProviderPlus}
use Rattle.types.specs.declared.Verdict.{Verdict}
use Rattle.types.specs.Numbers.{verdict_number, verdict_ground, place_a, place_b, origin_number, origin_a, origin_b, verdict_of, answer_gap, refusal_number, refusal_place}
use Rattle.types.specs.Rows.{Effect, effect}
use Rattle.registers.specs.declared.Part.{Part}
use Rattle.snapshot.specs.Calls.{Reading}
use Rattle.types.specs.declared.Answer.{Answer}
use Rattle.types.specs.declared.Filed.{Filed}
use Rattle.types.specs.declared.Filed.TheVariants.{New}
use Rattle.types.specs.declared.Refusal.{Refusal}
use Rattle.types.specs.declared.Filed.TheVariants.{Replaced}

-- What C gets of a call: its result, and the words that it writes.
pub record Told : Type 0 where
  pub result : ℕ
  pub words : List ℕ

abbrev pub told : ℕ → List ℕ → Told
told result words = record { result = result; words = words }

-- What C gets of a judging: the gap as well.
pub record ToldRoute : Type 0 where
  pub result : ℕ
  pub words : List ℕ
  pub gap : ℤ

abbrev pub told_route : ℕ → List ℕ → ℤ → ToldRoute
told_route result words gap = record { result = result; words = words; gap = gap }

-- A call's effect with its answer as C gets it; the lent words stay the same.
abbrev pub telling : {A B : Type 0} → (A → B) → Effect A → Effect B
telling tell e = effect (tell e.answer) e.words

-- ---- what is written when a call is refused, so that no answer is read from it

-- In place of a verdict: the verdicts are 0, 1 and 2.
abbrev pub no_verdict : ℕ
no_verdict = 3

-- In place of a hop: the hops are 0, 1 and 2.
abbrev pub no_hop : ℕ
no_hop = 3

-- In place of new and replaced, 0 and 1.
abbrev pub not_filed : ℕ
not_filed = 2

-- In place of a count: no table has so many entries.
abbrev pub no_count : ℕ
no_count = 4294967295

-- In place of a file's length: every file has some bytes. Who takes it for a length nevertheless goes past no end.
abbrev pub no_bytes : ℕ
no_bytes = 0

-- ---- the calls on a table

-- File: 0 new, 1 replaced.
abbrev pub filed_told : Result Filed Refusal → Told
filed_told (Ok New) = told 0 (0 ∷ [])
filed_told (Ok Replaced) = told 0 (1 ∷ [])
filed_told (Err r) = told (refusal_number r) (not_filed ∷ [])

-- Withdraw, Drop and Read: the result alone.
abbrev pub done_told : Result Unit Refusal → ℕ
done_told (Ok u) = 0
done_told (Err r) = refusal_number r

-- Clear: how many records went. Re-judge: how many routes changed.
abbrev pub counted_told : Result ℕ Refusal → Told
counted_told (Ok n) = told 0 (n ∷ [])
counted_told (Err r) = told (refusal_number r) (no_count ∷ [])

-- ---- Judge and Keep

-- The place of a refusal; 0 where it has none.
abbrev pub place_word : Option ℕ → ℕ
place_word None = 0
place_word (Some p) = p

-- Whether a gap is given, and the gap; 0 where none is.
abbrev pub gap_given : Option ℤ → ℕ
gap_given None = 0
gap_given (Some g) = 1

abbrev pub gap_told : Option ℤ → ℤ
gap_told None = pos 0
gap_told (Some g) = g

-- Verdict, ground, place a, place b, whether a gap is given, the place of a refusal, and the registers of the hops at a and at b.
abbrev pub verdict_words : Verdict → ℕ → List ℕ
verdict_words v given = verdict_number v ∷ verdict_ground v ∷ place_a v ∷ place_b v ∷ given ∷ 0 ∷ origin_a v ∷ origin_b v ∷ []

abbrev pub judged_told : Result Answer Refusal → ToldRoute
judged_told (Ok a) = told_route 0 (verdict_words (verdict_of a) (gap_given (answer_gap a))) (gap_told (answer_gap a))
judged_told (Err r) = told_route (refusal_number r) (no_verdict ∷ 0 ∷ 0 ∷ 0 ∷ 0 ∷ place_word (refusal_place r) ∷ 0 ∷ 0 ∷ []) (pos 0)

-- ---- Hop and the look-up

-- In place of a source where a hop names none: the sources are 0 to 7.
abbrev pub no_source : ℕ
no_source = 8

-- Hops: 0 No Attestation, 1 Provider+, 2 Not Provider+. Then the register, and the source.
abbrev pub hop_words : Hop → List ℕ
hop_words NoAttestation = 0 ∷ 0 ∷ no_source ∷ []
hop_words (ProviderPlus o s) = 1 ∷ origin_number o ∷ s ∷ []
hop_words (NotProviderPlus o) = 2 ∷ origin_number o ∷ no_source ∷ []

abbrev pub hopped_told : Result Hop Refusal → Told
hopped_told (Ok h) = told 0 (hop_words h)
hopped_told (Err r) = told (refusal_number r) (no_hop ∷ 0 ∷ no_source ∷ [])

-- The register of a part, where it starts, and how many words it has; all 0 where it is empty.
abbrev pub part_told : Part → List ℕ
part_told p = cond (eqb p.from p.to) (0 ∷ 0 ∷ 0 ∷ []) (origin_number p.origin ∷ (p.from ∷ ((p.to - p.from) ∷ [])))

-- ---- Write and Read

-- Write: the file's length in bytes.
abbrev pub written_told : Result ℕ Refusal → Told
written_told (Ok n) = told 0 (n ∷ [])
written_told (Err r) = told (refusal_number r) (no_bytes ∷ [])

-- What C gets of a reading: its result, and the words of both tables.
pub record ToldTables : Type 0 where
  pub result : ℕ
  pub register : List ℕ
  pub ledger : List ℕ

abbrev pub told_tables : ℕ → List ℕ → List ℕ → ToldTables
told_tables result reg led = record { result = result; register = reg; ledger = led }

-- Read: its answer as the result, and the words that it leaves in both tables.
abbrev pub reading_told : Reading → ToldTables
reading_told e = told_tables (done_told e.answer) e.register e.ledger
