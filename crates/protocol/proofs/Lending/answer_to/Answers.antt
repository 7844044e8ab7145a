-- `protocol::Lending::answer_to` meets its contract. Assumes nothing.
use mathlib.Core.Path.{ap}
use Rattle.calls.specs.Performing.{Result}
use Rattle.protocol.specs.Feeding.{lent_in, command_in, line_in}
use Rattle.protocol.proofs.Feedings.{replied}
use Rattle.protocol.proofs.Lending.answer_to.Goals as goal

pub returns : goal.returns
returns c =
    let a = c.args in
    let p = c.perform_line-reply.ensures in
    let put = c.put.ensures in
    record {
      same = p.same;
      tables = ap (λ (x : Result). x.tables) p.result;
      text = replied (lent_in a.self.now) (command_in (line_in a.end a.line.now)) _ _ p.result put.wrote;
      within = put.within;
      held = p.held;
    }
