-- What `write` prints is read back. Assumes nothing.
use Prim.Native.Nat.{ℕ, ◌+◌, ◌/◌, ◌%◌}
use mathlib.Core.Path.{◌≡◌, refl, ap, ◌∙◌}
use mathlib.Core.Bool.{Bool, true, false, cond}
use mathlib.Core.List.{List, [], ◌∷◌, ◌++◌}
use native.Mathlib.Omega.{arith}
use lib.Dec.{ltb, eqb}
use borrow.Author.Tests.{ne_eqb}
use Rattle.text.specs.Ascii.{ascii}
use Rattle.text.specs.Bytes.{same_bytes, hex_digit, hex_text}
use Rattle.text.proofs.HexTexts.{hex_laws}
use Rattle.lines.specs.Words.{split, words_of}
use Rattle.commands.specs.Commands.{command_of, lent_command}
use Rattle.commands.specs.Laws.{ReadsBack}

-- A digit is no space.
digit_apart : (v : ℕ) → eqb (hex_digit v) 32 ≡ false
digit_apart v = go (ltb v 10)
  where
    go : (b : Bool) → eqb (cond b (48 + v) (87 + v)) 32 ≡ false
    go true = ne_eqb (48 + v) 32 (λ e. omega (arith, e))
    go false = ne_eqb (87 + v) 32 (λ e. omega (arith, e))

one_word : (bs : List ℕ) → split 32 (hex_text bs) ≡ hex_text bs ∷ []
unfolding hex_text split
one_word [] = refl
one_word (b ∷ bs) = rw (digit_apart (b / 16), digit_apart (b % 16), one_word bs)

two_words : (bs : List ℕ) → words_of (ascii "read " ++ hex_text bs) ≡ ascii "read" ∷ (hex_text bs ∷ [])
unfolding split
two_words bs = ap (λ l. ascii "read" ∷ l) (one_word bs)

pub reads_back : ReadsBack
unfolding command_of lent_command same_bytes
reads_back bs h k = ap command_of (two_words bs) ∙ rw (hex_laws.reads bs h k, hex_laws.same bs h k)
