-- `protocol::Lending::finish` meets its contract. Assumes nothing.
use mathlib.Core.Path.{refl, sym, ◌∙◌}
use mathlib.Core.List.{[]}
use native.Mathlib.Omega.{arith}
use Rattle.std.specs.Prelude.{Some}
use Rattle.text.proofs.Wrote.{wrote_nothing, wrote_then}
use Rattle.protocol.specs.Feeding.{Session, lent_in, line_in}
use Rattle.protocol.proofs.Feedings.{no_line, blank_line, not_blank, finishes_blank, finishes}
use Rattle.protocol.proofs.Lending.finish.Goals as goal

pub returns-then-end-ne0 : goal.returns-then-end-ne0
returns-then-end-ne0 c =
    let a = c.args in
    let s : Session = record { tables = lent_in a.self.now; line = line_in a.end a.line.now } in
    let f = finishes s (not_blank a.end a.line.now c.requires.0 c.if-end-ne0.true) in
    let p = c.answer_to.ensures in
    let newline = c.put.ensures in
    record {
      same = p.same;
      session = (λ i. record { tables = p.tables i; line = Some [] }) ∙ f.0;
      text = rw f.1 at (wrote_then p.text newline);
      within = omega (arith, p.within, newline.end);
      held = p.held;
    }

pub returns-else-end-ne0 : goal.returns-else-end-ne0
returns-else-end-ne0 c =
    let a = c.args in
    let s : Session = record { tables = lent_in a.self.now; line = line_in a.end a.line.now } in
    let none = no_line a.end a.line.now c.if-end-ne0.false in
    let f = finishes_blank s (blank_line a.end a.line.now c.if-end-ne0.false) in
    record {
      same = record { register = refl; overrides = refl; ledger = refl };
      session = (λ i. record { tables = lent_in a.self.now; line = sym none i }) ∙ f.0;
      text = rw f.1 at (wrote_nothing a.out.now);
      within = omega arith;
      held = c.requires.1;
    }
