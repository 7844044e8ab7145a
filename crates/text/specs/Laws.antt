-- What the documents say of numbers and bytes as text, as statements. proofs/RoundTrips.antt and proofs/HexTexts.antt have the proofs.
use Rattle.std.specs.Prelude.{ℕ, ◌*◌, ◌^◌, ◌≤◌, ◌<◌, ◌≡◌, true, List, Some, length}
use Rattle.text.specs.Bytes.{all_bytes, bytes_of, bytes_in, hex_text}
use Rattle.text.specs.Numbers.{value_from, number_of, decimal_of}

pub record DecimalLaws : Type 0 where
  -- What is printed stands for the number,
  pub value : (n : ℕ) → n < 10 ^ 20 → value_from 0 (decimal_of n) ≡ n
  -- is read back as itself if it is a word,
  pub reads : (n : ℕ) → n < 2 ^ 32 → number_of (decimal_of n) ≡ Some n
  -- and then has at most ten digits.
  pub short : (n : ℕ) → n < 2 ^ 32 → length (decimal_of n) ≤ 10

pub record HexLaws : Type 0 where
  -- What is printed has two digits a byte,
  pub digits : (bs : List ℕ) → length (hex_text bs) ≡ 2 * length bs
  -- is a word of so many bytes,
  pub reads : (bs : List ℕ) → 0 < length bs → all_bytes bs ≡ true → bytes_of (hex_text bs) ≡ Some (length bs)
  -- and is read back as the same ones.
  pub same : (bs : List ℕ) → 0 < length bs → all_bytes bs ≡ true → bytes_in (hex_text bs) ≡ bs
