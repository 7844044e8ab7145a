-- Bytes read two digits at a time: each turn of the loop, and each way out. Assumes nothing.
use Prim.Native.Nat.{ℕ, zero, suc, ◌+◌, ◌-◌, ◌*◌, ◌/◌, ◌%◌, ◌≤◌, ◌<◌}
use mathlib.Core.Path.{◌≡◌, refl, sym, ap, ◌∙◌}
use mathlib.Core.Bool.{true, false}
use mathlib.Core.List.{List, [], ◌∷◌}
use native.Mathlib.Omega.{arith}
use native.Mathlib.Numerals.{add-one}
use borrow.Author.Tests.{lt-ltb, le-ltb}
use lib.ListN.{length, get_or, drop, set}
use lib.Seq.{drop-cons, drop-length, sets}
use Rattle.std.proofs.Common.{Option, Some, None}
use Rattle.std.specs.Simd.{first_chunks}
use Rattle.text.specs.Bytes.{hex_value, pair_value, pairs, all_bytes, bytes_before, hex_of, hex_stored, read_count}

-- ---- a digit, and two

module _ (b : ℕ) where
  pub decimal : 48 ≤ b → b < 58 → b - 48 ≡ hex_value b
  unfolding hex_value
  decimal h k = rw (le-ltb b 48 h, lt-ltb b 58 k) refl

  pub letter : 48 ≤ b → 58 ≤ b → 97 ≤ b → b < 103 → b - 87 ≡ hex_value b
  unfolding hex_value
  letter h k l m = rw (le-ltb b 48 h, le-ltb b 58 k, le-ltb b 97 l, lt-ltb b 103 m) refl

pub both : (a b : ℕ) {x y : ℕ} → x ≡ hex_value a → y ≡ hex_value b → x ≤ 15 → y ≤ 15 → x * 16 + y ≡ pair_value a b
unfolding pair_value
both a b {x} {y} p q h k = rw (← p, ← q, le-ltb 15 x h, le-ltb 15 y k) refl

-- ---- the bytes

-- The byte that a pair stands for.
abbrev pub value : List ℕ → ℕ
value pair = pair_value (get_or pair 0 0) (get_or pair 1 0)

pub values :
    (k : ℕ) (word : List ℕ) (n : ℕ) → k * 2 ≤ length word → n < k
    → get_or (pairs word) n 0 ≡ value (get_or (first_chunks 2 k word) n [])
unfolding pairs
values zero word n h l = absurd (omega arith)
values (suc k) [] n h l = absurd (omega arith)
values (suc k) (a ∷ []) n h l = absurd (omega arith)
values (suc k) (a ∷ (b ∷ word)) zero h l = refl
values (suc k) (a ∷ (b ∷ word)) (suc n) h l = values k word n (omega arith) (omega arith)

pub as_many : (word : List ℕ) → length (pairs word) ≡ length word / 2 + length word % 2
unfolding pairs
as_many [] = refl
as_many (a ∷ []) = refl
as_many (a ∷ (b ∷ word)) = omega (arith, as_many word)

-- A word cut into chunks of two: what a turn of the loop reads, and how many there are and are left.
module _ (word : List ℕ) where
  pub read :
      {chunks : List (List ℕ)} {n : ℕ} → chunks ≡ first_chunks 2 (length word / 2) word → length chunks ≡ length word / 2
      → n < length chunks
      → (n < length (pairs word)) × (get_or (pairs word) n 0 ≡ value (get_or chunks n []))
  read {n = n} e l h = (omega (arith, as_many word), rw e (values (length word / 2) word n (omega arith) (omega arith)))

  pub lengths : {n r : ℕ} → n ≡ length word / 2 → r ≡ length word % 2 → (length word ≡ 2 * n + r) × (length (pairs word) ≡ n + r)
  lengths l e = (omega arith, omega (arith, as_many word))

-- A digit that is left alone is no byte.
pub alone : (word : List ℕ) (k : ℕ) → length word ≡ 2 * k + 1 → get_or (pairs word) k 0 ≡ 256
unfolding pairs
alone [] k h = absurd (omega arith)
alone (a ∷ []) zero h = refl
alone (a ∷ []) (suc k) h = absurd (omega arith)
alone (a ∷ (b ∷ word)) zero h = absurd (omega arith)
alone (a ∷ (b ∷ word)) (suc k) h = alone word k (omega arith)

bad_last : (v : ℕ) (vs : List ℕ) → 255 < v → all_bytes (v ∷ vs) ≡ false
unfolding all_bytes
bad_last v vs h = rw (lt-ltb 255 v h) refl

none_before : (v : ℕ) (vs : List ℕ) → 255 < v → bytes_before (v ∷ vs) ≡ []
unfolding bytes_before
none_before v vs h = rw (lt-ltb 255 v h) refl

good_first : (v : ℕ) (vs : List ℕ) → v ≤ 255 → all_bytes (v ∷ vs) ≡ all_bytes vs
unfolding all_bytes
good_first v vs h = rw (le-ltb 255 v h) refl

one_before : (v : ℕ) (vs : List ℕ) → v ≤ 255 → bytes_before (v ∷ vs) ≡ v ∷ bytes_before vs
unfolding bytes_before
one_before v vs h = rw (le-ltb 255 v h) refl

-- n bytes stand in the buffer, and what is left makes the same answer.
pub record Reading (word into₀ into : List ℕ) (n : ℕ) : Type 0 where
  pub good : all_bytes (drop n (pairs word)) ≡ all_bytes (pairs word)
  pub buffer : sets into n (bytes_before (drop n (pairs word))) ≡ sets into₀ 0 (bytes_before (pairs word))

-- What reading promises.
abbrev pub Promise : List ℕ → List ℕ → List ℕ → Option ℕ → Type 0
Promise word into₀ into r = (r ≡ hex_of word) × (into ≡ hex_stored into₀ word) × (read_count r ≤ length into₀)

module _ {word into₀ into : List ℕ} {n : ℕ} (g : Reading word into₀ into n) where
  module _ {v : ℕ} (h : n < length (pairs word)) (e : get_or (pairs word) n 0 ≡ v) where
    opened : drop n (pairs word) ≡ v ∷ drop (suc n) (pairs word)
    opened = drop-cons (pairs word) n 0 h ∙ ap (λ w. w ∷ drop (suc n) (pairs word)) e

    -- Where the next value is no byte, the word is none.
    pub stops : 255 < v → Promise word into₀ into None
    stops l =
        let x : all_bytes (pairs word) ≡ false = sym g.good ∙ ap all_bytes opened ∙ bad_last v (drop (suc n) (pairs word)) l in
        let y : bytes_before (drop n (pairs word)) ≡ [] = ap bytes_before opened ∙ none_before v (drop (suc n) (pairs word)) l in
        (rw x refl, (rw y at g.buffer), omega arith)

    pub goes_on : v ≤ 255 → Reading word into₀ (set into n v) (n + 1)
    goes_on l =
        rw add-one
        (record {
          good = sym (good_first v (drop (suc n) (pairs word)) l) ∙ ap all_bytes (sym opened) ∙ g.good;
          buffer = ap (sets into n) (sym (one_before v (drop (suc n) (pairs word)) l) ∙ ap bytes_before (sym opened)) ∙ g.buffer;
        })

  pub ends : n ≡ length (pairs word) → n ≤ length into₀ → Promise word into₀ into (Some n)
  unfolding all_bytes bytes_before
  ends z room =
      let e : drop n (pairs word) ≡ [] = rw z (drop-length (pairs word)) in
      let x : all_bytes (pairs word) ≡ true = sym g.good ∙ ap all_bytes e in
      (rw (x, z) refl, (rw e at g.buffer), room)
