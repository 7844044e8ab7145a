use Rattle.register.specs.Register.{records_of}
use Rattle.hops.proofs.Hopping.{Passing, Naming}
use Rattle.hops.proofs.hops_from.Given as goal

abbrev pub invariant-loop-i : goal.invariant-loop-i
invariant-loop-i l =
    Passing (records_of l.register.words.now) l.x.0 l.attested l.i
    × Naming (records_of l.register.words.now) l.x.0 l.y.0 l.first_y l.i
    × Naming (records_of l.register.words.now) l.x.0 l.z.0 l.first_z l.i
