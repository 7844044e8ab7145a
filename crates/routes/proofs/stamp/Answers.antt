-- `routes::stamp` meets its contract. Assumes nothing.
use lib.ListN.{length-set}
use native.Mathlib.Omega.{arith}
use Rattle.std.proofs.lemmas.Grind.{common_steps}
use Rattle.routes.proofs.Stamping.{slot_in, stamped_effect}
use Rattle.routes.proofs.stamp.Goals as goal

pub bounds-led-slot-2 : goal.bounds-led-slot-2
bounds-led-slot-2 c = simp length-set (omega (arith, slot_in c.requires))

pub bounds-led-slot-3 : goal.bounds-led-slot-3
bounds-led-slot-3 c = simp length-set (omega (arith, slot_in c.requires))

pub returns : goal.returns
returns c = stamped_effect c.requires c.args.v c.number-word.ensures c.place_a-a.ensures c.place_b-b.ensures (grind (arith, common_steps))
