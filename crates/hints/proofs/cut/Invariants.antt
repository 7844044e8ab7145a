use Rattle.std.proofs.Common.{◌<◌, length}
use Rattle.register.specs.Register.{records_of}
use Rattle.hints.proofs.cut.Given as goal

abbrev pub invariant-loop-i : goal.invariant-loop-i
invariant-loop-i l = l.position < length (records_of l.register.words.now)
