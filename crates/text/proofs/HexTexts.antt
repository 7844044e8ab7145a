-- Bytes written in hex: each turn of the loop, its end, and what is read back. Assumes nothing.
use Prim.Native.Nat.{ℕ, zero, suc, ◌+◌, ◌*◌, ◌/◌, ◌%◌, ◌≤◌, ◌<◌}
use mathlib.Core.Path.{◌≡◌, refl, sym, ap, ◌∙◌}
use native.Mathlib.Numerals.{add-one}
use mathlib.Core.Bool.{Bool, true, false, cond}
use mathlib.Core.List.{List, [], ◌∷◌, ◌++◌, append_assoc}
use native.Mathlib.Omega.{arith}
use borrow.Author.Tests.{ne_eqb, ltb-true, ltb-false}
use lib.Dec.{ltb}
use lib.ListN.{length, get_or, take, set, length-set}
use Rattle.std.proofs.Common.{Some}
use Rattle.std.proofs.lemmas.List.{take_more_set}
use Rattle.text.specs.Laws.{HexLaws}
use Rattle.text.specs.Bytes.{hex_value, pair_value, pairs, all_bytes, bytes_of, bytes_in, hex_digit, hex_text}
use Rattle.text.proofs.Pairs.{decimal, letter, both}

-- ---- the bytes

pub two_digits : (bs : List ℕ) → length (hex_text bs) ≡ 2 * length bs
unfolding hex_text
two_digits [] = refl
two_digits (b ∷ bs) = omega (arith, two_digits bs)

pub no_bytes : hex_text [] ≡ []
unfolding hex_text
no_bytes = refl

pub one_more :
    (bs : List ℕ) (i : ℕ) → i < length bs
    → hex_text (take (i + 1) bs) ≡ hex_text (take i bs) ++ (hex_digit (get_or bs i 0 / 16) ∷ (hex_digit (get_or bs i 0 % 16) ∷ []))
unfolding hex_text
one_more [] i h = absurd (omega arith)
one_more (b ∷ bs) zero h = refl
one_more (b ∷ bs) (suc i) h = rw add-one (ap (λ t. hex_digit (b / 16) ∷ (hex_digit (b % 16) ∷ t)) (rw add-one at (one_more bs i (omega arith))))

-- One byte more fills two places.
pub fills_on :
    (bytes out : List ℕ) {i high low : ℕ}
    → take (2 * i) out ≡ hex_text (take i bytes) → i < length bytes → length out ≡ 2 * length bytes
    → high ≡ hex_digit (get_or bytes i 0 / 16) → low ≡ hex_digit (get_or bytes i 0 % 16)
    → take (2 * (i + 1)) (set (set out (2 * i) high) (2 * i + 1) low) ≡ hex_text (take (i + 1) bytes)
fills_on bytes out {i} {high} {low} same h long p q =
    let once : List ℕ = set out (2 * i) high in
    let n : 2 * (i + 1) ≡ 2 * i + 1 + 1 = omega arith in
    let room : 2 * i < length out = omega arith in
    let more : 2 * i + 1 < length once = simp length-set (omega arith) in
    ap (λ m. take m (set once (2 * i + 1) low)) n
    ∙ take_more_set once (2 * i + 1) low more
    ∙ ap (λ l. l ++ low ∷ []) (take_more_set out (2 * i) high room)
    ∙ append_assoc (take (2 * i) out) (high ∷ []) (low ∷ [])
    ∙ (λ j. same j ++ (p j ∷ (q j ∷ [])))
    ∙ sym (one_more bytes i h)

-- ---- read back

digit_read : (v : ℕ) → v < 16 → hex_value (hex_digit v) ≡ v
digit_read v h = go (ltb v 10) refl
  where
    go : (b : Bool) → ltb v 10 ≡ b → hex_value (cond b (48 + v) (87 + v)) ≡ v
    go true e =
        let l : v < 10 = ltb-true v 10 e in
        sym (decimal (48 + v) (omega arith) (omega arith)) ∙ omega arith
    go false e =
        let l : 10 ≤ v = ltb-false v 10 e in
        sym (letter (87 + v) (omega arith) (omega arith) (omega arith) (omega arith)) ∙ omega arith

byte_read : (b : ℕ) → b ≤ 255 → pair_value (hex_digit (b / 16)) (hex_digit (b % 16)) ≡ b
byte_read b h =
    let p : b / 16 ≡ hex_value (hex_digit (b / 16)) = sym (digit_read (b / 16) (omega arith)) in
    let q : b % 16 ≡ hex_value (hex_digit (b % 16)) = sym (digit_read (b % 16) (omega arith)) in
    sym (both (hex_digit (b / 16)) (hex_digit (b % 16)) p q (omega arith) (omega arith)) ∙ omega arith

bytes_read : (bs : List ℕ) → all_bytes bs ≡ true → pairs (hex_text bs) ≡ bs
unfolding hex_text pairs all_bytes
bytes_read [] e = refl
bytes_read (b ∷ bs) e = go (ltb 255 b) refl e (bytes_read bs)
  where
    go :
        (t : Bool) → ltb 255 b ≡ t → cond t false (all_bytes bs) ≡ true → (all_bytes bs ≡ true → pairs (hex_text bs) ≡ bs)
        → pairs (hex_text (b ∷ bs)) ≡ b ∷ bs
    go true l e' rest = absurd (let z : ◌≡◌ {A = ℕ} 0 1 = cc in omega arith)
    go false l e' rest = λ j. byte_read b (ltb-false 255 b l) j ∷ rest e' j

module _ (bs : List ℕ) (h : 0 < length bs) (e : all_bytes bs ≡ true) where
  pub hex_reads : bytes_of (hex_text bs) ≡ Some (length bs)
  hex_reads =
      let l : length (hex_text bs) ≡ 2 * length bs = two_digits bs in
      rw (ne_eqb (length (hex_text bs)) 0 (λ q. absurd (omega arith)), ne_eqb (length (hex_text bs)) 1 (λ q. absurd (omega arith)), bytes_read bs e, e) refl

  pub hex_same : bytes_in (hex_text bs) ≡ bs
  hex_same =
      let l : length (hex_text bs) ≡ 2 * length bs = two_digits bs in
      rw (ne_eqb (length (hex_text bs)) 1 (λ q. absurd (omega arith))) (bytes_read bs e)

pub hex_laws : HexLaws
hex_laws = record { digits = two_digits; reads = hex_reads; same = hex_same }
