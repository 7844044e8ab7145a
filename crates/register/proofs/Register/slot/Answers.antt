-- `Register::slot` meets its contract.
use Rattle.register.proofs.Looking.{slot_in}
use Rattle.register.proofs.Register.slot.Goals as goal

pub returns-clause-within : goal.returns-clause-within
returns-clause-within c = slot_in _ c.args.self.well_formed _ c.requires
