use Rattle.verdict.proofs.Rising.{Rising}
use Rattle.verdict.proofs.upstream.Given as goal

abbrev pub invariant-loop-i : goal.invariant-loop-i
invariant-loop-i g l = Rising (g.L.Lookup.hop l.lookup) l.path l.unattested l.i
