use Rattle.answers.proofs.put_cause.Goals as goal

pub returns-in-ByGround-clause-wrote : goal.returns-in-ByGround-clause-wrote
returns-in-ByGround-clause-wrote c = rw c.in-ByGround.is (rw (← c.from.ensures, ← c.from-in-ByGround.ensures) c.put_with.ensures.wrote)
