-- `halves::search` meets its contract. Assumes nothing.
use native.Mathlib.Omega.{arith}
use mathlib.Core.Path.{sym}
use Rattle.keyed.specs.Keyed.{before_pair}
use Rattle.halves.specs.Halves.{key_of}
use Rattle.halves.proofs.Searches.{again, ends}
use Rattle.halves.proofs.search.Goals as goal

pub loop-range-preserved : goal.loop-range-preserved
loop-range-preserved c =
    let e = rw c.middle_of.ensures at c.key_at-entry.ensures in
    again c.loop-range.invariant (omega arith) (λ q. before_pair (sym e q) (key_of c.args.key)) c.step-range.ensures.0

pub returns : goal.returns
returns c = ends c.loop-range.invariant (omega (arith, c.loop-range-test.false))
