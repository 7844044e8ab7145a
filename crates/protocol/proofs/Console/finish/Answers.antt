-- `protocol::Console::finish` meets its contract. Assumes nothing.
use mathlib.Core.Path.{refl, ◌∙◌}
use native.Mathlib.Omega.{arith}
use Rattle.text.proofs.Wrote.{wrote_nothing}
use Rattle.protocol.specs.Feeding.{session_in}
use Rattle.protocol.proofs.Feedings.{no_line, blank_line, not_blank, finishes_blank, finishes}
use Rattle.protocol.proofs.Console.finish.Goals as goal

pub returns-then-self-ne0 : goal.returns-then-self-ne0
returns-then-self-ne0 c =
    let self = c.args.self.now in
    let line = c.end_line.new.self.line in
    let e = c.end_line.ensures in
    let f = finishes (session_in self) (not_blank self.line.end self.line.buffer.now c.requires.line_size c.if-self-ne0.true) in
    record {
      same = e.same;
      session = (λ i. record { tables = e.tables i; line = no_line line.end line.buffer.now e.ended i }) ∙ f.0;
      stored = e.stored;
      text = rw f.1 at e.text;
      within = e.within;
      held = e.held;
    }

pub returns-else-self-ne0 : goal.returns-else-self-ne0
returns-else-self-ne0 c =
    let self = c.args.self.now in
    let f = finishes_blank (session_in self) (blank_line self.line.end self.line.buffer.now c.if-self-ne0.false) in
    record {
      same = record { tables = record { register = refl; overrides = refl; ledger = refl }; line = refl; out = refl };
      session = f.0;
      stored = refl;
      text = rw f.1 at (wrote_nothing self.out);
      within = omega arith;
      held = c.requires.held;
    }
