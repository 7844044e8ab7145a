-- `text::fill_hex` meets its contract. Assumes nothing.
use mathlib.Core.Path.{refl, ◌∙◌}
use Rattle.text.specs.Bytes.{hex_text}
use Rattle.text.proofs.HexTexts.{fills_on}
use Rattle.text.proofs.fill_hex.Goals as goal

pub loop-i-init : goal.loop-i-init
unfolding hex_text
loop-i-init c = refl

pub loop-i-preserved : goal.loop-i-preserved
loop-i-preserved c =
    let l = c.loop-i in
    fills_on c.args.bytes.now l.out l.invariant c.loop-i-test.true (l.auto.out ∙ c.requires) c.hex_digit.ensures c.hex_digit-in-loop-i.ensures
