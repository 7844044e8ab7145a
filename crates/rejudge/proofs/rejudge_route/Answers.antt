-- `rejudge::rejudge_route` meets its contract. Assumes nothing.
use Rattle.registers.specs.Registers.{hop_in}
use Rattle.registers.specs.Words.{words_of}
use Rattle.rejudge.proofs.Rerouting.{grounded, may_judge}
use Rattle.rejudge.proofs.rejudge_route.Goals as goal

pub returns-then-ground-ne0 : goal.returns-then-ground-ne0
returns-then-ground-ne0 c = grounded c.requires c.ground.ensures (hop_in (words_of c.args.registers)) c.if-ground-ne0.true

pub judge-answer-requires : goal.judge-answer-requires
judge-answer-requires c = may_judge c.requires c.ground.ensures c.if-ground-ne0.false c.path.ensures
