use Rattle.verdict.proofs.Passing.{Passing}
use Rattle.verdict.proofs.find_ramps.Given as goal

abbrev pub invariant-loop-i : goal.invariant-loop-i
invariant-loop-i g l = Passing (g.L.Lookup.hop l.lookup) l.path l.ramps l.i l.up
