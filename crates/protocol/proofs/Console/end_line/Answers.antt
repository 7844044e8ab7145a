-- `protocol::Console::end_line` meets its contract. Assumes nothing.
use mathlib.Core.Path.{refl}
use native.Mathlib.Omega.{arith}
use Rattle.text.proofs.Wrote.{wrote_then}
use Rattle.protocol.proofs.Console.end_line.Goals as goal

pub returns : goal.returns
returns c =
    let p = c.answer.ensures in
    let newline = c.put.ensures in
    let text = wrote_then p.text newline in
    record {
      same = record { tables = p.same; line = refl; out = text.same };
      stored = refl;
      tables = p.tables;
      ended = refl;
      text = text;
      within = omega (arith, p.within, newline.end);
      held = p.held;
    }
