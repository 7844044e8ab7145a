-- The loops that write words as bytes and bytes as words: each turn, and the way out. Assumes nothing.
use Prim.Native.Nat.{ℕ, zero, suc, ◌+◌, ◌-◌, ◌*◌, ◌/◌, ◌%◌, ◌^◌, ◌≤◌, ◌<◌}
use mathlib.Core.Path.{◌≡◌, refl, sym, ap, ◌∙◌}
use mathlib.Core.List.{List, [], ◌∷◌, ◌++◌, map}
use native.Mathlib.Omega.{arith}
use borrow.Rule.Slice.PartMut.{put_mid}
use Rattle.std.specs.Int.{w32, to_be_bytes, from_be_bytes}
use Rattle.std.specs.Simd.{first_chunks}
use Rattle.std.proofs.lemmas.Grind.{common_steps}
use Rattle.table.specs.Table.{pad}
use Rattle.std.proofs.lemmas.List.{take_more, take_more_set, get_or-map, take-append-drop, drop-replicate}
use Rattle.std.proofs.lemmas.Slice.{take-put_mid}
use lib.ListN.{replicate, length-map, length, take, drop, get_or, set, length-set}
use lib.Seq.{take_all}
use Rattle.snapshot.specs.Snapshot.{word_bytes, bytes_of, words_in}

-- ---- words as bytes

-- The bytes of a word.
word_is : (w : ℕ) → w < 2 ^ 32 → to_be_bytes w32 w ≡ bytes_of (w ∷ [])
unfolding bytes_of
word_is w h =
    let e : w / 16777216 % 256 ≡ w / 16777216 = omega arith in
    ap (λ b. b ∷ (w / 65536 % 256 ∷ (w / 256 % 256 ∷ (w % 256 ∷ [])))) e

bytes_append : (a b : List ℕ) → bytes_of (a ++ b) ≡ bytes_of a ++ bytes_of b
unfolding bytes_of
bytes_append [] b = refl
bytes_append (w ∷ a) b = ap (λ l. w / 16777216 ∷ (w / 65536 % 256 ∷ (w / 256 % 256 ∷ (w % 256 ∷ l)))) (bytes_append a b)

-- One word more is packed.
pub packs_on :
    (words into : List ℕ) (k : ℕ) {i : ℕ} {bytes : List ℕ}
    → take (word_bytes * i) into ≡ bytes_of (take i words) → i < length words → get_or words i 0 < 2 ^ 32
    → word_bytes * i ≤ length into → bytes ≡ to_be_bytes w32 (get_or words i 0)
    → take (word_bytes * (i + 1)) (put_mid (word_bytes * i) k into bytes) ≡ bytes_of (take (i + 1) words)
packs_on words into k {i} {bytes} same h fits room e =
    let l : length bytes ≡ word_bytes = ap length e in
    let w : List ℕ = get_or words i 0 ∷ [] in
    take-put_mid (word_bytes * i) k into bytes (word_bytes * (i + 1)) (omega arith) room
    ∙ (λ j. same j ++ (e ∙ word_is (get_or words i 0) fits) j)
    ∙ sym (bytes_append (take i words) w)
    ∙ ap bytes_of (sym (take_more words i 0 h))

-- ---- bytes as words

-- The words of bytes are those of the fours that they are cut into.
words_are : (bytes : List ℕ) → words_in bytes ≡ map (from_be_bytes w32) (first_chunks word_bytes (length bytes / word_bytes) bytes)
unfolding words_in
words_are [] = refl
words_are (a ∷ []) = refl
words_are (a ∷ (b ∷ [])) = refl
words_are (a ∷ (b ∷ (c ∷ []))) = refl
words_are (a ∷ (b ∷ (c ∷ (d ∷ bytes)))) =
    let e : length (a ∷ (b ∷ (c ∷ (d ∷ bytes)))) / word_bytes ≡ suc (length bytes / word_bytes) = omega arith in
    rw e (ap (λ l. (a * 16777216 + b * 65536 + c * 256 + d) ∷ l) (words_are bytes))

-- Word k, as the code makes it of its four bytes.
pub word_made :
    (bytes d : List ℕ) {fours : List (List ℕ)} {k x : ℕ}
    → fours ≡ first_chunks word_bytes (length bytes / word_bytes) bytes → k < length fours → x ≡ from_be_bytes w32 (get_or fours k d)
    → x ≡ get_or (words_in bytes) k 0
word_made bytes d {fours} {k} e h ex =
    ex ∙ sym (get_or-map (from_be_bytes w32) fours k d 0 h) ∙ ap (λ l. get_or l k 0) (ap (map (from_be_bytes w32)) e ∙ sym (words_are bytes))

pub words_long : (bytes : List ℕ) → length (words_in bytes) ≡ length bytes / word_bytes
words_long bytes =
    ap length (words_are bytes)
    ∙ length-map (first_chunks word_bytes (length bytes / word_bytes) bytes) (from_be_bytes w32)
    ∙ cut word_bytes (length bytes / word_bytes) bytes
  where
    cut : (n k : ℕ) (xs : List ℕ) → length (first_chunks n k xs) ≡ k
    cut n zero xs = refl
    cut n (suc k) xs = ap suc (cut n k (drop n xs))

-- Words up to i are in the table, and behind them stands what stood there.
pub record Unpacking (words table₀ table : List ℕ) (i : ℕ) : Type 0 where
  pub same_length : length table ≡ length table₀
  pub front : take i table ≡ take i words
  pub back : drop i table ≡ drop i table₀

pub unpacks_on :
    {words table₀ table : List ℕ} {i x : ℕ} → Unpacking words table₀ table i → i < length words → length words ≤ length table₀ → x ≡ get_or words i 0
    → Unpacking words table₀ (set table i x) (i + 1)
unpacks_on {words} {table₀} {table} {i} {x} g h fits e =
    let room : i < length table = omega (arith, g.same_length) in
    record {
      same_length = length-set table i x ∙ g.same_length;
      front = take_more_set table i x room ∙ (λ j. g.front j ++ e j ∷ []) ∙ sym (take_more words i 0 h);
      back = grind (arith, common_steps, g.back);
    }

pub unpacked :
    (words : List ℕ) (size : ℕ) {table : List ℕ} {i : ℕ} → Unpacking words (replicate size 0) table i → i ≤ length words → length words ≤ i
    → table ≡ pad size words
unfolding pad
unpacked words size {table} {i} g h h' =
    let e : i ≡ length words = omega arith in
    sym (take-append-drop i table)
    ∙ (λ j. (g.front ∙ take_all i words h') j ++ (g.back ∙ drop-replicate i size 0) j)
    ∙ ap (λ n. words ++ replicate (size - n) 0) e
