-- `runs::zero` meets its contract.
use Rattle.std.proofs.Common.{arith}
use Rattle.std.proofs.lemmas.Grind.{common_steps}
use Rattle.runs.specs.Words.{zeroed}
use Rattle.runs.proofs.zero.Goals as goal

pub returns : goal.returns
unfolding zeroed
returns c = grind (arith, common_steps)
