-- `table::start_of` meets its contract.
use Rattle.std.proofs.Common.{◌∙◌, arith}
use Rattle.table.proofs.Sounds.{count_is, in_slot, start_is, start_last}
use Rattle.table.proofs.start_of.Goals as goal

pub slot-requires : goal.slot-requires
slot-requires c = omega (arith, in_slot _ _ _ c.requires.0 c.args.i (omega (arith, count_is _ _ _ c.requires.0)))

pub overflow_add-slot : goal.overflow_add-slot
overflow_add-slot c = omega (arith, in_slot _ _ _ c.requires.0 c.args.i (omega (arith, count_is _ _ _ c.requires.0)))

pub word-requires-then-i-word : goal.word-requires-then-i-word
word-requires-then-i-word c = omega (arith, in_slot _ _ _ c.requires.0 c.args.i (omega (arith, count_is _ _ _ c.requires.0)))

pub returns-then-i-word : goal.returns-then-i-word
returns-then-i-word c =
    rw c.slot.ensures at c.word-then-i-word.ensures.0 ∙ start_is _ _ _ c.requires.0 c.args.i (omega (arith, count_is _ _ _ c.requires.0))

pub returns-else-i-word : goal.returns-else-i-word
returns-else-i-word c =
    c.word-else-i-word.ensures.0 ∙ start_last _ _ _ c.requires.0 c.args.i (omega (arith, count_is _ _ _ c.requires.0))
