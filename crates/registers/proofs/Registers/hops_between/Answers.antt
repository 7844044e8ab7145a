-- `Registers::hops_between` meets its contract.
use Rattle.registers.specs.Words.{words_of}
use Rattle.registers.proofs.Choosing.{words_hop}
use Rattle.registers.proofs.Registers.hops_between.Goals as goal

pub returns : goal.returns
returns c =
    let e = c.locate-found.ensures in
    let w = c.choose-register.ensures in
    (words_hop (words_of c.args.self) _ e w _ c.hops_from.ensures.0, words_hop (words_of c.args.self) _ e w _ c.hops_from.ensures.1)
