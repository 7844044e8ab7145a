-- `protocol::Console::feed` meets its contract. Assumes nothing.
use mathlib.Core.Path.{refl, ap, ◌∙◌}
use native.Mathlib.Omega.{arith}
use lib.ListN.{length}
use Rattle.text.proofs.Wrote.{wrote_nothing}
use Rattle.protocol.specs.Feeding.{session_in, line_stored}
use Rattle.protocol.proofs.Feedings.{part_is, line_ends, line_goes_on, no_line}
use Rattle.protocol.proofs.Console.feed.Goals as goal

pub returns-then-to-piece : goal.returns-then-to-piece
returns-then-to-piece c =
    let a = c.args in
    let find = c.find-to in
    let j = c.join.ensures in
    let e = c.end_line.ensures in
    let w =
    line_ends (session_in a.self.now) a.piece.now find.result _ find.ensures.0 j.line c.if-to-piece.true e.tables (no_line _ _ e.ended) in
    record {
      same = record { tables = e.same.tables; line = e.same.line ∙ j.same; out = e.same.out };
      session = w.0;
      used = w.2;
      stored = e.stored ∙ j.stored ∙ ap (line_stored a.self.now.line.end a.self.now.line.buffer.now) (part_is a.piece.now find.result find.ensures.0);
      size = ap length e.stored ∙ j.size;
      text = rw w.1 at e.text;
      within = e.within;
      held = e.held;
    }

pub returns : goal.returns
returns c =
    let a = c.args in
    let find = c.find-to in
    let j = c.join.ensures in
    let w = line_goes_on (session_in a.self.now) a.piece.now find.result _ find.ensures.0 j.line c.if-to-piece.false find.ensures.1 in
    record {
      same = record { tables = record { register = refl; overrides = refl; ledger = refl }; line = j.same; out = refl };
      session = w.0;
      used = w.2;
      stored = j.stored ∙ ap (line_stored a.self.now.line.end a.self.now.line.buffer.now) (part_is a.piece.now find.result find.ensures.0);
      size = j.size;
      text = rw w.1 at (wrote_nothing a.self.now.out);
      within = omega arith;
      held = c.requires.held;
    }
