-- `snapshot::emit` meets its contract. Assumes nothing.
use mathlib.Core.Path.{ap, ◌∙◌}
use Prim.Native.Nat.{◌*◌}
use lib.ListN.{length, drop}
use Rattle.snapshot.specs.Snapshot.{word_bytes}
use Rattle.snapshot.proofs.Writing.{emitted}
use Rattle.snapshot.proofs.emit.Goals as goal

pub returns : goal.returns
returns c =
    emitted c.args.reg.now c.args.led.now c.args.out.now c.pack.ensures c.pack-2.ensures c.pack-3.ensures
    (c.split_at_mut-first.ensures.back ∙ ap (drop (word_bytes * length c.args.reg.now)) c.split_at_mut-head.ensures.back)
