-- `console::serve_line` meets its contract. Assumes nothing.
use mathlib.Core.Path.{ap, ◌∙◌}
use native.Mathlib.Omega.{arith}
use Rattle.protocol.specs.Feeding.{fed_bytes}
use Rattle.console.proofs.Serving.{rest_is, rest_used}
use Rattle.console.proofs.serve_line.Goals as goal

pub returns-in_err-make_room-clause-ready : goal.returns-in_err-make_room-clause-ready
returns-in_err-make_room-clause-ready c =
    let fed = c.feed-used.ensures in
    record { line_size = fed.size ∙ c.requires.0.line_size; held = fed.held; room = c.make_room.ensures.room }

pub overflow_add-result : goal.overflow_add-result
overflow_add-result c =
    let a = c.args in
    let u = rest_used a.piece.now a.from c.requires.1 in
    omega (arith, u.1, c.feed-used.ensures.used ∙ ap fed_bytes (rest_is a.piece.now a.from))

pub returns-clause-ready : goal.returns-clause-ready
returns-clause-ready c =
    let fed = c.feed-used.ensures in
    record { line_size = fed.size ∙ c.requires.0.line_size; held = fed.held; room = c.make_room.ensures.room }
