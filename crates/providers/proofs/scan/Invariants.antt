use Rattle.providers.proofs.Seeking.{Seeking}
use Rattle.providers.proofs.scan.Given as goal

abbrev pub invariant-loop-p : goal.invariant-loop-p
invariant-loop-p l = Seeking l.y.0 l.list l.has_y l.p-index × Seeking l.z.0 l.list l.has_z l.p-index
