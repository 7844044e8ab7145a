-- `console::serve` meets its contract.
use Rattle.protocol.specs.Feeding.{SameBuffers, Ready}
use Rattle.console.proofs.serve.Given as goal

abbrev pub invariant-loop : goal.invariant-loop
invariant-loop l = record { same : SameBuffers l.initial.console l.console; ready : Ready l.console }
