-- `protocol::cut` meets its contract.
use Rattle.std.proofs.Common.{arith}
use Rattle.std.proofs.lemmas.Grind.{common_steps}
use Rattle.table.specs.Table.{pad}
use Rattle.protocol.proofs.cut.Goals as goal

pub returns : goal.returns
unfolding pad
returns c = grind (arith, common_steps)
