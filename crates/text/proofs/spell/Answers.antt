-- `text::spell` meets its contract. Assumes nothing.
use Rattle.text.proofs.Spelling.{is_last, goes_on, no_room}
use Rattle.text.proofs.spell.Goals as goal

pub returns-then-rest-lt10-clause-digits : goal.returns-then-rest-lt10-clause-digits
returns-then-rest-lt10-clause-digits c = is_last c.loop-i.invariant c.loop-i-test.true c.if-rest-lt10.true

pub loop-i-preserved : goal.loop-i-preserved
loop-i-preserved c = goes_on c.loop-i.invariant c.loop-i-test.true c.if-rest-lt10.false

pub returns-clause-digits : goal.returns-clause-digits
returns-clause-digits c = no_room c.loop-i.invariant c.loop-i-test.false
