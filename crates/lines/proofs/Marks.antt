-- Bytes up to a mark, and the parts that marks separate. Assumes nothing.
use Prim.Native.Nat.{ℕ, suc, ◌+◌, ◌-◌, ◌≤◌}
use mathlib.Core.Path.{◌≡◌, refl, sym, ap, ◌∙◌}
use mathlib.Core.Bool.{Bool, true, false, cond, not}
use mathlib.Core.List.{List, [], ◌∷◌}
use native.Mathlib.Omega.{arith}
use borrow.Author.Tests.{lt-ltb, ltb-true, ltb-false}
use lib.Dec.{eqb, ltb, leb-suc-suc}
use lib.ListN.{length, take, drop, length-drop, length-take}
use lib.Seq.{take_all}
use Rattle.std.proofs.Common.{Option, Some, None, MatchOption}
use Rattle.std.specs.List.{slice_split, onto_first as library_onto_first, position, position_or_len, count_by}
use Rattle.std.proofs.lemmas.List.Splits.{length-slice_split}
use Rattle.lines.specs.Words.{before, split, onto_first, words_of}

module _ (mark : ℕ) where
  -- What comes after a first part: nothing where no mark ends it.
  abbrev after : List ℕ → List ℕ → List (List ℕ)
  after part bs = cond (ltb (length part) (length bs)) (split mark (drop (suc (length part)) bs)) []

  pub split_first : (bs : List ℕ) → split mark bs ≡ before mark bs ∷ after (before mark bs) bs
  unfolding before split
  split_first [] = refl
  split_first (b ∷ bs) = go (eqb b mark) (split_first bs)
    where
      go :
          (t : Bool) → split mark bs ≡ before mark bs ∷ after (before mark bs) bs
          → cond t ([] ∷ split mark bs) (onto_first b (split mark bs))
          ≡ cond t [] (b ∷ before mark bs) ∷ after (cond t [] (b ∷ before mark bs)) (b ∷ bs)
      go true e = rw (lt-ltb 0 (suc (length bs)) (omega arith)) refl
      go false e = rw (leb-suc-suc (suc (length (before mark bs))) (length bs)) (ap (onto_first b) e)

  pub before_taken : (bs : List ℕ) → take (length (before mark bs)) bs ≡ before mark bs
  unfolding before
  before_taken [] = refl
  before_taken (b ∷ bs) = go (eqb b mark) (before_taken bs)
    where
      go :
          (t : Bool) → take (length (before mark bs)) bs ≡ before mark bs
          → take (length (cond t [] (b ∷ before mark bs))) (b ∷ bs) ≡ cond t [] (b ∷ before mark bs)
      go true e = refl
      go false e = ap (λ r. b ∷ r) e

  -- ---- the library's words for them

  before_is : (bs : List ℕ) → position_or_len (λ b. eqb b mark) bs ≡ length (before mark bs)
  unfolding before
  before_is [] = refl
  before_is (b ∷ bs) = go (eqb b mark) (before_is bs)
    where
      go :
          (t : Bool) → position_or_len (λ b. eqb b mark) bs ≡ length (before mark bs)
          → cond (not t) (1 + position_or_len (λ b. eqb b mark) bs) 0 ≡ length (cond t [] (b ∷ before mark bs))
      go true e = refl
      go false e = omega (arith, e)

  onto_is : (b : ℕ) (ps : List (List ℕ)) → library_onto_first b ps ≡ onto_first b ps
  onto_is b [] = refl
  onto_is b (p ∷ ps) = refl

  pub split_is : (bs : List ℕ) → slice_split (λ b. eqb b mark) bs ≡ split mark bs
  unfolding split
  split_is [] = refl
  split_is (b ∷ bs) = go (eqb b mark) (split_is bs)
    where
      go :
          (t : Bool) → slice_split (λ b. eqb b mark) bs ≡ split mark bs
          → cond t ([] ∷ slice_split (λ b. eqb b mark) bs) (library_onto_first b (slice_split (λ b. eqb b mark) bs))
          ≡ cond t ([] ∷ split mark bs) (onto_first b (split mark bs))
      go true e = ap (λ ps. [] ∷ ps) e
      go false e = ap (library_onto_first b) e ∙ onto_is b (split mark bs)

-- What finding promises.
abbrev pub Found : List ℕ → ℕ → ℕ → ℕ → Type 0
Found bytes from mark r = (r ≡ from + length (before mark (drop from bytes))) × (r ≤ length bytes)

-- What `position` answers on the bytes from index `from` on.
pub finds :
    (bytes : List ℕ) (from mark : ℕ) {r : Option ℕ} → from ≤ length bytes
    → (let part = take (length bytes - from) (drop from bytes) in r ≡ position (λ b. eqb b mark) part)
    → MatchOption r (Found bytes from mark (length bytes)) (λ k. Found bytes from mark (from + k))
finds bytes from mark {r} h e =
    let t : take (length bytes - from) (drop from bytes) ≡ drop from bytes =
    take_all (length bytes - from) (drop from bytes) (omega (arith, length-drop from bytes)) in
    go (ltb (length (before mark (drop from bytes))) (length (drop from bytes))) refl (rw (← before_is mark (drop from bytes)) (rw t at e))
  where
    room : length (before mark (drop from bytes)) ≤ length (drop from bytes)
    room = omega (arith, ap length (before_taken mark (drop from bytes)), length-take (length (before mark (drop from bytes))) (drop from bytes))

    go :
        (t : Bool) → ltb (length (before mark (drop from bytes))) (length (drop from bytes)) ≡ t
        → r ≡ cond t (Some (length (before mark (drop from bytes)))) None
        → MatchOption r (Found bytes from mark (length bytes)) (λ k. Found bytes from mark (from + k))
    go true l q = rw q (refl, omega (arith, ltb-true _ _ l, length-drop from bytes))
    go false l q = rw q (omega (arith, ltb-false _ _ l, length-drop from bytes, room), omega arith)

-- How many words a line has.
pub counted : (line : List ℕ) {n i : ℕ} → n ≡ count_by (λ b. eqb b 32) (take i line) + 1 → length line ≤ i → n ≡ length (words_of line)
counted line {n} {i} e h =
    let t : take i line ≡ line = take_all i line h in
    (rw t at e) ∙ sym (length-slice_split (λ b. eqb b 32) line) ∙ ap length (split_is 32 line)
