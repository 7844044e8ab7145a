-- Words as bytes and back: nothing is lost either way. Assumes nothing.
use Prim.Native.Nat.{ℕ, suc, ◌+◌, ◌*◌, ◌/◌, ◌%◌, ◌≤◌, ◌<◌}
use mathlib.Core.Path.{◌≡◌, refl}
use mathlib.Core.List.{List, [], ◌∷◌}
use native.Mathlib.Omega.{arith}
use lib.ListN.{length, take, drop, get_or, length-take, get_or-eq_default}
use lib.Seq.{get_or-take, get_or-drop}
use lib.Dec.{ltb}
use borrow.Author.Tests.{ltb-true, ltb-false}
use mathlib.Core.Bool.{Bool, true, false}
use Rattle.snapshot.specs.Snapshot.{bytes_of, words_in, Bytes}

-- The bytes of a word make it again.
word_again : (w : ℕ) → w / 16777216 * 16777216 + w / 65536 % 256 * 65536 + w / 256 % 256 * 256 + w % 256 ≡ w
word_again w = omega arith

pub words_bytes : (ws : List ℕ) → words_in (bytes_of ws) ≡ ws
unfolding bytes_of words_in
words_bytes [] = refl
words_bytes (w ∷ ws) = λ i. word_again w i ∷ words_bytes ws i

pub length_bytes : (ws : List ℕ) → length (bytes_of ws) ≡ 4 * length ws
unfolding bytes_of
length_bytes [] = refl
length_bytes (w ∷ ws) = omega (arith, length_bytes ws)

-- The word of four bytes has those bytes.
module _ (a b c d : ℕ) (hb : b < 256) (hc : c < 256) (hd : d < 256) where
  byte_1 : (a * 16777216 + b * 65536 + c * 256 + d) / 16777216 ≡ a
  byte_1 = omega arith

  byte_2 : (a * 16777216 + b * 65536 + c * 256 + d) / 65536 % 256 ≡ b
  byte_2 = omega arith

  byte_3 : (a * 16777216 + b * 65536 + c * 256 + d) / 256 % 256 ≡ c
  byte_3 = omega arith

  byte_4 : (a * 16777216 + b * 65536 + c * 256 + d) % 256 ≡ d
  byte_4 = omega arith

pub bytes_words : (bs : List ℕ) → length bs % 4 ≡ 0 → Bytes bs → bytes_of (words_in bs) ≡ bs
unfolding bytes_of words_in
bytes_words [] e h = refl
bytes_words (a ∷ []) e h = absurd (omega arith)
bytes_words (a ∷ (b ∷ [])) e h = absurd (omega arith)
bytes_words (a ∷ (b ∷ (c ∷ []))) e h = absurd (omega arith)
bytes_words (a ∷ (b ∷ (c ∷ (d ∷ bs)))) e h =
    let r = bytes_words bs (omega arith) (λ i. h (suc (suc (suc (suc i))))) in
    λ i. byte_1 a b c d (h 1) (h 2) (h 3) i
    ∷ (byte_2 a b c d (h 1) (h 2) (h 3) i ∷ (byte_3 a b c d (h 1) (h 2) (h 3) i ∷ (byte_4 a b c d (h 1) (h 2) (h 3) i ∷ r i)))

pub length_words : (bs : List ℕ) → length bs % 4 ≡ 0 → 4 * length (words_in bs) ≡ length bs
unfolding words_in
length_words [] e = refl
length_words (a ∷ []) e = absurd (omega arith)
length_words (a ∷ (b ∷ [])) e = absurd (omega arith)
length_words (a ∷ (b ∷ (c ∷ []))) e = absurd (omega arith)
length_words (a ∷ (b ∷ (c ∷ (d ∷ bs)))) e = omega (arith, length_words bs (omega arith))

-- A part of bytes is bytes.
pub bytes_drop : (bs : List ℕ) (n : ℕ) → Bytes bs → Bytes (drop n bs)
bytes_drop bs n h i = rw (get_or-drop n bs i 0) (h (n + i))

pub bytes_take : (bs : List ℕ) (n : ℕ) → Bytes bs → Bytes (take n bs)
bytes_take bs n h i = go (ltb i n) refl
  where
    go : (b : Bool) → ltb i n ≡ b → get_or (take n bs) i 0 < 256
    go true e = rw (get_or-take n bs i 0 (ltb-true i n e)) (h i)
    go false e =
        let l : n ≤ i = ltb-false i n e in
        let m : length (take n bs) ≤ i = simp length-take (omega arith) in
        rw (get_or-eq_default (take n bs) 0 m) (omega arith)
