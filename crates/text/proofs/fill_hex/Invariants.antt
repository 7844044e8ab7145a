use Rattle.std.proofs.Common.{◌≡◌, ◌*◌, take}
use Rattle.text.specs.Bytes.{hex_text}
use Rattle.text.proofs.fill_hex.Given as goal

-- The digits of the bytes before this one stand at the front.
abbrev pub invariant-loop-i : goal.invariant-loop-i
invariant-loop-i l = take (2 * l.i) l.out ≡ hex_text (take l.i l.bytes)
