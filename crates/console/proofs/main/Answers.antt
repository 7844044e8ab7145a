-- `console::main` meets its contract. Assumes nothing.
use native.Mathlib.Omega.{arith}
use Rattle.console.proofs.Serving.{starts}
use Rattle.console.proofs.main.Goals as goal

pub serve-requires : goal.serve-requires
serve-requires c =
    record {
      line_size = c.filled-line.ensures.size;
      held = starts c.filled-register.ensures.all c.filled-overrides.ensures.all c.filled-ledger.ensures.all;
      room = omega (arith, c.filled-out.ensures.size);
    }
