-- `console::serve_piece` meets its contract.
use Prim.Native.Nat.{◌-◌}
use lib.ListN.{length}
use Rattle.protocol.specs.Feeding.{session_in, SameBuffers, Ready}
use Rattle.console.proofs.Serving.{Taking}
use Rattle.console.proofs.serve_piece.Given as goal

abbrev pub invariant-loop-from : goal.invariant-loop-from
invariant-loop-from l =
    record {
      taking : Taking l.piece (session_in l.initial.console) (session_in l.console) l.from;
      same : SameBuffers l.initial.console l.console;
      ready : Ready l.console;
    }

abbrev pub decreases-loop-from : goal.decreases-loop-from
decreases-loop-from l = length l.piece - l.from
