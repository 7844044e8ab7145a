-- `routes::path_words` meets its contract. Assumes nothing.
use mathlib.Core.Path.{◌∙◌}
use native.Mathlib.Omega.{arith}
use Rattle.ledger.proofs.Entries.{path_count}
use Rattle.ledger.proofs.Holding.{sound}
use Rattle.ledger.proofs.Looking.{head_within}
use Rattle.routes.proofs.path_words.Goals as goal

pub word-requires : goal.word-requires
word-requires c = omega (arith, head_within c.args.led.now c.requires)

pub returns : goal.returns
returns c =
    c.word.ensures.0 ∙ path_count c.args.led.now (sound c.args.led.now c.requires)
