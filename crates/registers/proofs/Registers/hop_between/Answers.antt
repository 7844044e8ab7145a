-- `Registers::hop_between` meets its contract.
use Rattle.registers.specs.Words.{words_of}
use Rattle.registers.proofs.Choosing.{words_hop}
use Rattle.registers.proofs.Registers.hop_between.Goals as goal

pub returns : goal.returns
returns c = words_hop (words_of c.args.self) _ c.locate-found.ensures c.choose-register.ensures _ c.hop_from.ensures
