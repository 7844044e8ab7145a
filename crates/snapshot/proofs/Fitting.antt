-- The parts of a file that passed the rows before 2, as the code cuts them, are whole words that fit a table of zeros. Assumes nothing.
use Prim.Native.Nat.{ℕ, ◌+◌, ◌-◌, ◌*◌, ◌%◌, ◌≤◌}
use mathlib.Core.Path.{◌≡◌, ap, ◌∙◌}
use mathlib.Core.List.{List}
use native.Mathlib.Omega.{arith}
use lib.ListN.{length, take, drop, replicate, length-replicate}
use Rattle.types.specs.Rows.{first_given}
use Rattle.register.specs.Register.{register_words}
use Rattle.ledger.specs.Routes.{ledger_words}
use Rattle.snapshot.specs.Snapshot.{word_bytes, contents_bytes, register_bytes}
use Rattle.snapshot.specs.Calls.{contents_rows}
use Rattle.snapshot.proofs.Accepting.{cut}
use Rattle.snapshot.proofs.Parts.{long_first_part, long_second_part}
use Rattle.snapshot.proofs.Reading.{first_cut, second_cut}
use Rattle.std.specs.Prelude.{None}

module _ (file : List ℕ) (q : first_given (contents_rows file) ≡ None) (r : ℕ) (f : r ≡ register_bytes file) where
  -- The register's.
  pub first_fits : (into : List ℕ) → into ≡ replicate register_words 0
      → (word_bytes * 0 + length (take (contents_bytes + r - contents_bytes) (drop contents_bytes file)) ≤ word_bytes * length into)
      × (length (take (contents_bytes + r - contents_bytes) (drop contents_bytes file)) % word_bytes ≡ 0)
  first_fits into z =
      let c = cut file q in
      let n : length into ≡ register_words = ap length z ∙ length-replicate {A = ℕ} register_words 0 in
      let m = ap length (first_cut file q r f) ∙ long_first_part file c in
      (omega (arith, n, m, c.first_fits.fits), rw m c.first_fits.whole)

  -- The ledger's.
  pub second_fits : (into : List ℕ) → into ≡ replicate ledger_words 0
      → (word_bytes * 0 + length (take (length file - (contents_bytes + r)) (drop (contents_bytes + r) file)) ≤ word_bytes * length into)
      × (length (take (length file - (contents_bytes + r)) (drop (contents_bytes + r) file)) % word_bytes ≡ 0)
  second_fits into z =
      let c = cut file q in
      let n : length into ≡ ledger_words = ap length z ∙ length-replicate {A = ℕ} ledger_words 0 in
      let m = ap length (second_cut file q r f) ∙ long_second_part file c in
      (omega (arith, n, m, c.second_fits.fits), rw m c.second_fits.whole)
