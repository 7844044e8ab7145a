-- `protocol::Lending::perform_line` meets its contract. Assumes nothing.
use native.Mathlib.Omega.{arith}
use Rattle.protocol.proofs.Joining.{command_too_long, command_is}
use Rattle.protocol.proofs.Performing.{carries_nothing}
use Rattle.protocol.proofs.Lending.perform_line.Goals as goal

pub returns-then-line-end : goal.returns-then-line-end
returns-then-line-end c =
    let a = c.args in
    carries_nothing _ _ c.requires.1 (command_too_long a.end a.line.now (omega (arith, c.requires.0, c.if-line-end.true)))

pub returns-else-line-end : goal.returns-else-line-end
returns-else-line-end c =
    let a = c.args in
    rw (command_is a.end a.line.now (omega (arith, c.requires.0, c.if-line-end.false)), ← c.new.ensures) c.perform.ensures
