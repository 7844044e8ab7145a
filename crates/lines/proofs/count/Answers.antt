-- `lines::count` meets its contract. Assumes nothing.
use Rattle.lines.proofs.Marks.{counted}
use Rattle.lines.proofs.count.Goals as goal

pub returns : goal.returns
returns c = counted c.args.line.now c.loop-b.invariant.0 c.loop-b-test.false
