-- The answers as the console writes them ("The console").
use Rattle.std.specs.Prelude.{ℕ, List, [], ◌∷◌, ◌++◌, take, Err, None, Ok, Option, Result, Some}
use Rattle.types.specs.declared.Answer.{Answer}
use Rattle.types.specs.declared.Answer.TheVariants.{Plain, WithGap}
use Rattle.types.specs.declared.Origin.{Origin}
use Rattle.types.specs.declared.Origin.TheVariants.{Public, Overrides}
use Rattle.types.specs.declared.Origins.{Origins}
use Rattle.types.specs.declared.Origins.TheVariants.{One, Two}
use Rattle.types.specs.declared.Hop.{Hop}
use Rattle.types.specs.declared.Hop.TheVariants.{NoAttestation, ProviderPlus, NotProviderPlus}
use Rattle.types.specs.declared.Cause.{Cause}
use Rattle.types.specs.declared.Cause.TheVariants.{ByGround, ByHops}
use Rattle.types.specs.declared.Verdict.{Verdict}
use Rattle.types.specs.declared.Verdict.TheVariants.{Valid, Invalid, Unknown}
use Rattle.types.specs.declared.Refusal.{Refusal}
use Rattle.types.specs.Numbers.{ground_number, refusal_number, refusal_place}
use Rattle.text.specs.Ascii.{ascii}
use Rattle.text.specs.Numbers.{decimal_of, signed_of}
use Rattle.text.specs.Bytes.{hex_text}
use Rattle.types.specs.declared.Filed.{Filed}
use Rattle.types.specs.declared.Filed.TheVariants.{New, Replaced}

-- Bytes that are room enough for the text of a verdict, and of an answer.
abbrev pub verdict_room : ℕ
verdict_room = 64

abbrev pub answer_room : ℕ
answer_room = 128

-- ---- registers

abbrev pub origin_text : Origin → List ℕ
origin_text Public = ascii "public"
origin_text Overrides = ascii "drawer"

-- The register of each of two hops, a space before it; a dash where the second is not named.
abbrev pub origins_text : Origins → List ℕ
origins_text (One a) = (ascii " " ++ origin_text a) ++ ascii " -"
origins_text (Two a b) = (ascii " " ++ origin_text a) ++ (ascii " " ++ origin_text b)

-- ---- verdicts

abbrev pub places_text : ℕ → ℕ → List ℕ
places_text a b = decimal_of a ++ (ascii " " ++ decimal_of b)

abbrev pub cause_text : Cause → List ℕ
cause_text (ByGround g) = ascii "Invalid ground " ++ decimal_of (ground_number g)
cause_text (ByHops a b o) = (ascii "Invalid " ++ places_text a b) ++ origins_text o

abbrev pub verdict_text : Verdict → List ℕ
verdict_text Valid = ascii "Valid"
verdict_text (Invalid c) = cause_text c
verdict_text (Unknown a b) = ascii "Unknown " ++ places_text a b

abbrev pub answer_text : Answer → List ℕ
answer_text (Plain v) = verdict_text v
answer_text (WithGap v g) = verdict_text v ++ (ascii " gap " ++ signed_of g)

-- ---- refusals: rows 12 to 16 have a place

abbrev pub place_text : Option ℕ → List ℕ
place_text None = []
place_text (Some p) = ascii " at " ++ decimal_of p

abbrev pub refusal_text : Refusal → List ℕ
refusal_text r = (ascii "refused " ++ decimal_of (refusal_number r)) ++ place_text (refusal_place r)

-- ---- the answers of the calls

-- Of a refusal where there is one.
abbrev pub result_text : {A : Type 0} → (A → List ℕ) → Result A Refusal → List ℕ
result_text text (Ok x) = text x
result_text text (Err r) = refusal_text r

abbrev pub judged_text : Result Answer Refusal → List ℕ
judged_text = result_text answer_text

abbrev pub hop_text : Hop → List ℕ
hop_text NoAttestation = ascii "none"
hop_text (ProviderPlus o source) = (ascii "provider " ++ origin_text o) ++ (ascii " " ++ decimal_of source)
hop_text (NotProviderPlus o) = ascii "other " ++ origin_text o

abbrev pub hopped_text : Result Hop Refusal → List ℕ
hopped_text = result_text hop_text

abbrev pub filing_text : Filed → List ℕ
filing_text New = ascii "new"
filing_text Replaced = ascii "replaced"

abbrev pub filed_text : Result Filed Refusal → List ℕ
filed_text = result_text filing_text

-- Of Remove and Restore.
abbrev pub done_text : Result Unit Refusal → List ℕ
done_text = result_text (λ u. ascii "done")

-- What is counted: a word and how many.
abbrev pub counted_text : List ℕ → Result ℕ Refusal → List ℕ
counted_text word = result_text (λ n. word ++ decimal_of n)

abbrev pub cleared_text : Result ℕ Refusal → List ℕ
cleared_text = counted_text (ascii "cleared ")

abbrev pub rejudged_text : Result ℕ Refusal → List ℕ
rejudged_text = counted_text (ascii "changed ")

-- ---- snapshots

-- A file of n bytes, which stand at the start of an output.
abbrev pub file_text : ℕ → List ℕ → List ℕ
file_text n output = (ascii "written " ++ decimal_of n) ++ (ascii " " ++ hex_text (take n output))

abbrev pub written_text : List ℕ → Result ℕ Refusal → List ℕ
written_text output = result_text (λ n. file_text n output)

-- ---- words of a table

-- Each with a space before it.
unfoldable pub each_text : List ℕ → List ℕ
each_text [] = []
each_text (x ∷ xs) = 32 ∷ (decimal_of x ++ each_text xs)

-- The providers of a list that was looked up.
abbrev pub list_text : List ℕ → List ℕ
list_text providers = ascii "list" ++ each_text providers

-- Separated by spaces.
abbrev pub spaced_text : List ℕ → List ℕ
spaced_text [] = []
spaced_text (x ∷ xs) = decimal_of x ++ each_text xs
