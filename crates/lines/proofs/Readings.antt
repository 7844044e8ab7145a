-- What a reading that succeeds leaves in the buffer: the numbers of the words, the bytes of the word. Assumes nothing.
use Prim.Native.Nat.{ℕ, suc, ◌+◌, ◌≤◌}
use mathlib.Core.Path.{◌≡◌, refl, ap, ◌∙◌}
use mathlib.Core.Bool.{Bool, true, false, cond}
use mathlib.Core.List.{List, [], ◌∷◌}
use native.Mathlib.Omega.{arith}
use lib.Dec.{eqb, ltb}
use lib.ListN.{length, get_or, take, drop}
use lib.Seq.{sets, sets-eq, take_at}
use Rattle.std.proofs.Common.{Option, Some, None}
use Rattle.text.specs.Numbers.{number_of, if_number}
use Rattle.text.specs.Bytes.{pairs, all_bytes, bytes_before, hex_of, hex_stored, bytes_of, bytes_stored, bytes_in}
use Rattle.lines.specs.Words.{all_numbers, numbers_in, list_read}

-- A buffer begins with what was written at its beginning.
stored : (into vs : List ℕ) (k : ℕ) → length vs ≡ k → k ≤ length into → take k (sets into 0 vs) ≡ vs
stored into vs k e h =
    let l : 0 + length vs ≤ length into = omega arith in
    ap (take k) (sets-eq vs into 0 l) ∙ take_at vs (drop (0 + length vs) into) k e

-- ---- numbers

module _ (ws : List (List ℕ)) where
  all_read : (k : ℕ) (t : Bool) → cond t (Some (length ws)) None ≡ Some k → (t ≡ true) × (length ws ≡ k)
  all_read k true e = (refl, cc)
  all_read k false e = (cc, cc)

  pub read_all : (k : ℕ) → list_read ws ≡ Some k → all_numbers ws ≡ true
  read_all k e = (all_read k (all_numbers ws) e).0

  pub read_none : list_read ws ≡ None → all_numbers ws ≡ false
  read_none = go (all_numbers ws)
    where
      go : (t : Bool) → cond t (Some (length ws)) None ≡ None → t ≡ false
      go true e = cc
      go false e = refl

as_many : (ws : List (List ℕ)) → all_numbers ws ≡ true → length (numbers_in ws) ≡ length ws
unfolding all_numbers numbers_in
as_many [] e = refl
as_many (w ∷ ws) e = go (number_of w) (as_many ws) e
  where
    go :
        (r : Option ℕ) → (all_numbers ws ≡ true → length (numbers_in ws) ≡ length ws)
        → if_number r (λ n. all_numbers ws) false ≡ true
        → length (if_number r (λ n. n ∷ numbers_in ws) []) ≡ suc (length ws)
    go (Some n) f e = ap suc (f e)
    go None f e = cc

pub read_list :
    (ws : List (List ℕ)) (into : List ℕ) (k : ℕ) → list_read ws ≡ Some k → k ≤ length into
    → take k (sets into 0 (numbers_in ws)) ≡ numbers_in ws
read_list ws into k e h =
    let p = all_read ws k (all_numbers ws) e in
    stored into (numbers_in ws) k (as_many ws p.0 ∙ p.1) h

-- ---- bytes

all_before : (vs : List ℕ) → all_bytes vs ≡ true → bytes_before vs ≡ vs
unfolding all_bytes bytes_before
all_before [] e = refl
all_before (v ∷ vs) e = go (ltb 255 v) (all_before vs) e
  where
    go :
        (t : Bool) → (all_bytes vs ≡ true → bytes_before vs ≡ vs) → cond t false (all_bytes vs) ≡ true
        → cond t [] (v ∷ bytes_before vs) ≡ v ∷ vs
    go true f e = cc
    go false f e = ap (λ r. v ∷ r) (f e)

module _ (word into : List ℕ) (k : ℕ) where
  read_hex_in : hex_of word ≡ Some k → k ≤ length into → take k (hex_stored into word) ≡ pairs word
  read_hex_in e h = go (all_bytes (pairs word)) refl e
    where
      go :
          (t : Bool) → all_bytes (pairs word) ≡ t → cond t (Some (length (pairs word))) None ≡ Some k
          → take k (hex_stored into word) ≡ pairs word
      go true g e =
          let f : bytes_before (pairs word) ≡ pairs word = all_before (pairs word) g in
          let l : length (pairs word) ≡ k = cc in
          ap (λ vs. take k (sets into 0 vs)) f ∙ stored into (pairs word) k l h
      go false g e = cc

  pub read_bytes_in : bytes_of word ≡ Some k → k ≤ length into → take k (bytes_stored into word) ≡ bytes_in word
  read_bytes_in e h = go (eqb (length word) 0) (eqb (length word) 1) (eqb (get_or word 0 0) 45) e
    where
      go :
          (none one dash : Bool)
          → cond none None (cond one (cond dash (Some 0) None) (hex_of word)) ≡ Some k
          → take k (cond none into (cond one into (hex_stored into word))) ≡ cond one [] (pairs word)
      go true one dash e = cc
      go false true true e =
          let z : k ≡ 0 = cc in
          ap (λ n. take n into) z
      go false true false e = cc
      go false false dash e = read_hex_in e h
