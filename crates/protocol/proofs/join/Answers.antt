-- `protocol::join` meets its contract. Assumes nothing.
use mathlib.Core.Path.{refl}
use Rattle.protocol.proofs.Joining.{joins_none, joins_too_long, joins}
use Rattle.protocol.proofs.join.Goals as goal

pub returns-then-most-line : goal.returns-then-most-line
returns-then-most-line c =
    let line = c.args.line.now in
    let w = joins_too_long line.end line.buffer.now c.args.part.now c.requires c.if-line-most.true c.if-most-line.true in
    record { same = refl; line = w.0; stored = w.1; size = refl }

pub returns-else-most-line : goal.returns-else-most-line
returns-else-most-line c =
    let line = c.args.line.now in
    let put = c.put.ensures in
    let w = joins line.end line.buffer.now c.args.part.now c.requires c.if-line-most.true c.if-most-line.false put.end put.written in
    record { same = put.same; line = w.0; stored = w.1; size = put.room }

pub returns-else-line-most : goal.returns-else-line-most
returns-else-line-most c =
    let line = c.args.line.now in
    let w = joins_none line.end line.buffer.now c.args.part.now c.requires c.if-line-most.false in
    record { same = refl; line = w.0; stored = w.1; size = refl }
