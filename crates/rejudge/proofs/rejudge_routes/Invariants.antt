use Rattle.registers.specs.Registers.{hop_in}
use Rattle.registers.specs.Words.{words_of}
use Rattle.rejudge.proofs.Turns.{Turned}
use Rattle.rejudge.proofs.rejudge_routes.Given as goal

abbrev pub invariant-loop-i : goal.invariant-loop-i
invariant-loop-i l = Turned (hop_in (words_of l.registers)) l.initial.led l.n l.led l.changed l.i
