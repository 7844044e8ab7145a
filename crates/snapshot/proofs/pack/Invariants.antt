use Prim.Native.Nat.{◌*◌}
use mathlib.Core.Path.{◌≡◌}
use lib.ListN.{take}
use Rattle.snapshot.specs.Snapshot.{word_bytes, bytes_of}
use Rattle.snapshot.proofs.pack.Given as goal

abbrev pub invariant-loop-i : goal.invariant-loop-i
invariant-loop-i l = take (word_bytes * l.i) l.into ≡ bytes_of (take l.i l.words)
