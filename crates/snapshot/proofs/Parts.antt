-- The parts of a file that passed the rows before 2. Assumes nothing.
use Prim.Native.Nat.{ℕ, ◌+◌, ◌*◌}
use mathlib.Core.Path.{◌≡◌, ◌∙◌}
use mathlib.Core.List.{List}
use native.Mathlib.Omega.{arith}
use lib.ListN.{length, take, drop, length-drop}
use lib.Seq.{length-take-le}
use Rattle.table.proofs.Tables.{length_pad}
use Rattle.register.specs.Register.{register_words}
use Rattle.ledger.specs.Routes.{ledger_words}
use Rattle.snapshot.specs.Snapshot.{word_bytes, words_in, contents_bytes, register_bytes, ledger_bytes, register_in, ledger_in}
use Rattle.snapshot.proofs.Bytewise.{length_words}
use Rattle.snapshot.proofs.Accepting.{Cut}

-- The bytes of the contents, of the register and of the ledger.
abbrev pub head_part : List ℕ → List ℕ
head_part file = take contents_bytes file

abbrev pub first_part : List ℕ → List ℕ
first_part file = take (register_bytes file) (drop contents_bytes file)

abbrev pub second_part : List ℕ → List ℕ
second_part file = drop (contents_bytes + register_bytes file) file

module _ (file : List ℕ) (a : Cut file) where
  pub long_head_part : length (head_part file) ≡ contents_bytes
  long_head_part = length-take-le contents_bytes file a.long

  pub long_first_part : length (first_part file) ≡ register_bytes file
  long_first_part = length-take-le (register_bytes file) (drop contents_bytes file) (simp length-drop (omega (arith, a.whole)))

  pub long_second_part : length (second_part file) ≡ ledger_bytes file
  long_second_part = length-drop (contents_bytes + register_bytes file) file ∙ omega (arith, a.whole)

  -- The words of each part.
  pub words_first : word_bytes * length (words_in (first_part file)) ≡ register_bytes file
  words_first = length_words (first_part file) (rw long_first_part a.first_fits.whole) ∙ long_first_part

  pub words_second : word_bytes * length (words_in (second_part file)) ≡ ledger_bytes file
  words_second = length_words (second_part file) (rw long_second_part a.second_fits.whole) ∙ long_second_part

  -- The tables of a file have their lengths.
  pub register_long : length (register_in file) ≡ register_words
  unfolding register_in
  register_long = length_pad register_words (words_in (first_part file)) (omega (arith, words_first, a.first_fits.fits))

  pub ledger_long : length (ledger_in file) ≡ ledger_words
  unfolding ledger_in
  ledger_long = length_pad ledger_words (words_in (second_part file)) (omega (arith, words_second, a.second_fits.fits))
