-- What the functions that tell an answer ask.
use Rattle.std.specs.Prelude.{ℕ, Err, Ok, Result}
use Rattle.types.specs.Numbers.{refusal_place}
use Rattle.told.specs.Answers.{place_word}
use Rattle.types.specs.declared.Answer.{Answer}
use Rattle.types.specs.declared.Refusal.{Refusal}

-- The place that is told of a judging's answer. It is asked to be below the most bytes of an attribute, so no word loses a bit of it.
abbrev pub place_in : Result Answer Refusal → ℕ
place_in (Ok a) = 0
place_in (Err r) = place_word (refusal_place r)

-- The length that is told of a writing's answer. It is asked to fit a word.
abbrev pub bytes_in : Result ℕ Refusal → ℕ
bytes_in (Ok n) = n
bytes_in (Err r) = 0
