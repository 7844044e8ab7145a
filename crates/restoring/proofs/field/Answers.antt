-- `restoring::field` meets its contract. Assumes nothing.
use Prim.Native.Nat.{◌/◌}
use mathlib.Core.Path.{◌≡◌}
use native.Mathlib.Omega.{arith}
use borrow.Author.Rules.{rules}
use lib.ListN.{length, take, length-take}
use Rattle.snapshot.specs.Snapshot.{word_bytes, contents_bytes, field}
use Rattle.snapshot.proofs.Copying.{word_made}
use Rattle.restoring.proofs.field.Goals as goal

pub returns : goal.returns
unfolding field
returns c =
    let n : length c.as_chunks.result.0.now ≡ length (take contents_bytes c.args.file.now) / word_bytes = c.as_chunks.ensures.front_len in
    let l : length (take contents_bytes c.args.file.now) ≡ contents_bytes = simp length-take (omega arith) in
    (word_made _ _ c.as_chunks.ensures.front (omega arith) c.from_be_bytes.ensures, search rules)
