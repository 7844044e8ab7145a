-- `storing::is_at` meets its contract. Assumes nothing.
use borrow.Author.Tests.{le-ltb}
use mathlib.Core.Path.{◌∙◌}
use native.Mathlib.Omega.{arith}
use Rattle.ledger.proofs.Looking.{head_within, past, there_in, there}
use Rattle.storing.proofs.is_at.Goals as goal

pub word-requires : goal.word-requires
word-requires c = omega (arith, head_within c.args.led.now c.requires.0)

pub bounds-led-position : goal.bounds-led-position
bounds-led-position c =
    omega (arith, there_in c.args.led.now c.requires.0 c.args.number.0 c.requires.1 c.word.ensures.0 c.if-position-word.true)

pub returns-then-position-word : goal.returns-then-position-word
returns-then-position-word c =
    there c.args.led.now c.requires.0 c.args.number.0 c.requires.1 c.word.ensures.0 c.if-position-word.true

pub returns-else-position-word : goal.returns-else-position-word
returns-else-position-word c =
    le-ltb c.args.position _ c.if-position-word.false
    ∙ past c.args.led.now c.requires.0 c.args.number.0 c.requires.1 c.word.ensures.0 c.if-position-word.false
