use Rattle.finding.proofs.Checking.{Checked}
use Rattle.finding.proofs.are_records.Given as goal

abbrev pub invariant-loop-i : goal.invariant-loop-i
invariant-loop-i l = Checked l.reg l.n l.last.first l.last.second l.between l.from l.i
