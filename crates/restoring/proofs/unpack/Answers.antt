-- `restoring::unpack` meets its contract. Assumes nothing.
use Prim.Native.Nat.{ℕ, ◌/◌}
use mathlib.Core.Path.{◌≡◌}
use native.Mathlib.Omega.{arith}
use lib.ListN.{length, length-replicate}
use Rattle.snapshot.specs.Snapshot.{word_bytes, words_in}
use Rattle.snapshot.proofs.Copying.{word_made, words_long, unpacks_on, unpacked}
use Rattle.restoring.proofs.unpack.Goals as goal

pub loop-i-preserved : goal.loop-i-preserved
loop-i-preserved g c =
    let n : length c.as_chunks.result.0.now ≡ length c.args.bytes.now / word_bytes = c.as_chunks.ensures.front_len in
    let w = words_long c.args.bytes.now in
    unpacks_on c.loop-i.invariant (omega (arith, w)) (omega (arith, w, c.requires, length-replicate {A = ℕ} g.row.N 0))
    (word_made _ _ c.as_chunks.ensures.front c.loop-i-test.true c.from_be_bytes.ensures)

pub returns : goal.returns
returns g c =
    let n : length c.as_chunks.result.0.now ≡ length c.args.bytes.now / word_bytes = c.as_chunks.ensures.front_len in
    let w = words_long c.args.bytes.now in
    unpacked (words_in c.args.bytes.now) g.row.N c.loop-i.invariant (omega (arith, w)) (omega (arith, w))
