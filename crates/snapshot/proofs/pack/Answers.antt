-- `snapshot::pack` meets its contract. Assumes nothing.
use mathlib.Core.Path.{refl, ◌∙◌}
use borrow.Author.Rules.{rules}
use native.Mathlib.Omega.{arith}
use Rattle.snapshot.specs.Snapshot.{bytes_of}
use Rattle.snapshot.proofs.Copying.{packs_on}
use Rattle.snapshot.proofs.pack.Goals as goal

pub loop-i-init : goal.loop-i-init
unfolding bytes_of
loop-i-init c = refl

pub loop-i-preserved : goal.loop-i-preserved
loop-i-preserved c =
    packs_on _ _ _ c.loop-i.invariant c.loop-i-test.true (search rules) (omega (arith, c.requires)) (c.copy_from_slice.ensures.after ∙ c.to_be_bytes.ensures)
