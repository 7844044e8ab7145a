-- A table's words, the first with no space before it. Assumes nothing.
use Rattle.std.proofs.Common.{◌≡◌, refl, ℕ, ◌<◌, List, [], ◌∷◌, ◌++◌, length, get_or, drop, arith}
use Rattle.std.proofs.lemmas.Grind.{common_steps}
use Rattle.text.specs.Numbers.{decimal_of}
use Rattle.text.proofs.Wrote.{writing}
use Rattle.answers.specs.Texts.{each_text, spaced_text}

pub spaced : (words : List ℕ) → 0 < length words → spaced_text words ≡ decimal_of (get_or words 0 0) ++ each_text (drop 1 words)
spaced [] h = absurd (omega arith)
spaced (x ∷ words) h = refl

pub ruleset spacing = (spaced, writing, common_steps)
