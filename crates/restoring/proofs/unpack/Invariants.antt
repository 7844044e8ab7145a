use Rattle.snapshot.specs.Snapshot.{words_in}
use Rattle.snapshot.proofs.Copying.{Unpacking}
use Rattle.restoring.proofs.unpack.Given as goal

abbrev pub invariant-loop-i : goal.invariant-loop-i
invariant-loop-i g l = Unpacking (words_in l.bytes) l.initial.table l.table l.i
