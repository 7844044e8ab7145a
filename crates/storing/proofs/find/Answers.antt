-- `storing::find` meets its contract. Assumes nothing.
use native.Mathlib.Omega.{arith}
use Rattle.ledger.proofs.Looking.{begins}
use Rattle.storing.proofs.find.Goals as goal

pub returns : goal.returns
returns c =
    (c.search.ensures.0, omega (arith, c.search.ensures.0, (begins c.args.led.now c.requires c.args.number.0).within))
