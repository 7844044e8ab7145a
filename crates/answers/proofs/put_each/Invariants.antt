use Rattle.std.proofs.Common.{◌+◌, ◌*◌, ◌≤◌, take}
use Rattle.text.specs.Wrote.{Wrote}
use Rattle.answers.specs.Texts.{each_text}
use Rattle.answers.proofs.put_each.Given as goal

abbrev pub invariant-loop-word : goal.invariant-loop-word
invariant-loop-word l =
    Wrote l.initial.text l.text (each_text (take l.word-index l.words)) × (l.text.end ≤ l.initial.text.end + 11 * l.word-index)
