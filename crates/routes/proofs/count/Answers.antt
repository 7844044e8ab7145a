-- `routes::count` meets its contract. Assumes nothing.
use mathlib.Core.Path.{◌∙◌}
use native.Mathlib.Omega.{arith}
use Rattle.ledger.proofs.Looking.{head_within, count_is, few}
use Rattle.routes.proofs.count.Goals as goal

pub word-requires : goal.word-requires
word-requires c = omega (arith, head_within c.args.led.now c.requires)

pub returns : goal.returns
returns c =
    let n = c.word.ensures.0 ∙ count_is c.args.led.now c.requires in
    (n, omega (arith, n, few c.args.led.now c.requires))
