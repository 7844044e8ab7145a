-- `runs::copy_down` meets its contract.
use Rattle.std.proofs.Common.{arith}
use Rattle.std.proofs.lemmas.Grind.{common_steps}
use Rattle.runs.specs.Words.{pasted}
use Rattle.runs.proofs.copy_down.Goals as goal

pub returns : goal.returns
unfolding pasted
returns c = grind (arith, common_steps)
