-- A line's words by their place. Assumes nothing.
use Prim.Native.Nat.{ℕ, ◌+◌, ◌≤◌, ◌<◌}
use mathlib.Core.Path.{◌≡◌, refl, ap, ◌∙◌}
use mathlib.Core.Bool.{Bool, true, false, cond}
use mathlib.Core.List.{List, [], ◌∷◌}
use native.Mathlib.Omega.{arith}
use borrow.Author.Tests.{ltb-true, ltb-false}
use lib.Dec.{eqb, ltb}
use lib.ListN.{length, get_or, drop}
use Rattle.std.proofs.Common.{Option, Some, None, Bor}
use Rattle.std.specs.List.{slice_get, slice_split, sum_by}
use Rattle.std.specs.Option.{option_map, unwrap_or}
use Rattle.std.proofs.lemmas.List.{get_or_past}
use Rattle.std.proofs.lemmas.Option.{unwrap_or-slice_get}
use Rattle.std.proofs.lemmas.List.Sums.{sum_by-cons, sum_by_more_le, sum_by-take-drop}
use Rattle.lines.specs.Words.{split, onto_first, words_of, word_at}
use Rattle.lines.proofs.Marks.{split_first, split_is}

-- Word k, as looking it up answers it.
pub looked_up :
    (line : List ℕ) (k : ℕ) (found : Option (Bor (List ℕ))) (other : Bor (List ℕ))
    → option_map (λ w. w.now) found ≡ slice_get (slice_split (λ b. eqb b 32) line) k → other.now ≡ []
    → (unwrap_or found other).now ≡ word_at line k
looked_up line k found other e n =
    read found ∙ ap (λ w. unwrap_or w other.now) e ∙ ap (λ w. unwrap_or (slice_get (slice_split (λ b. eqb b 32) line) k) w) n
    ∙ unwrap_or-slice_get (slice_split (λ b. eqb b 32) line) k [] ∙ ap (λ ws. get_or ws k []) (split_is 32 line)
  where
    read : (o : Option (Bor (List ℕ))) → (unwrap_or o other).now ≡ unwrap_or (option_map (λ w. w.now) o) other.now
    read (Some w) = refl
    read None = refl

-- ---- how long words are

-- A word and the space behind it.
abbrev pub weight : List ℕ → ℕ
weight w = length w + 1

heavier : (b : ℕ) (ws : List (List ℕ)) → 0 < length ws → sum_by weight (onto_first b ws) ≡ sum_by weight ws + 1
heavier b [] h = absurd (omega arith)
heavier b (w ∷ ws) h = omega (arith, sum_by-cons weight (b ∷ w) ws, sum_by-cons weight w ws)

-- All of them are as long as the line, and one space more.
pub weighs : (mark : ℕ) (bs : List ℕ) → sum_by weight (split mark bs) ≡ length bs + 1
unfolding split
weighs mark [] = refl
weighs mark (b ∷ bs) = go (eqb b mark) (weighs mark bs)
  where
    some : 0 < length (split mark bs)
    some = rw (split_first mark bs) (omega arith)

    go :
        (t : Bool) → sum_by weight (split mark bs) ≡ length bs + 1
        → sum_by weight (cond t ([] ∷ split mark bs) (onto_first b (split mark bs))) ≡ length (b ∷ bs) + 1
    go true e = omega (arith, e, sum_by-cons weight [] (split mark bs))
    go false e = omega (arith, e, heavier b (split mark bs) some)

pub within : (line : List ℕ) (k : ℕ) → length (word_at line k) ≤ length line
within line k = go (ltb k (length (words_of line))) refl
  where
    go : (t : Bool) → ltb k (length (words_of line)) ≡ t → length (word_at line k) ≤ length line
    go true e = omega (arith, sum_by_more_le weight (words_of line) k [] (ltb-true _ _ e), weighs 32 line)
    go false e = omega (arith, ap length (get_or_past (words_of line) k [] (ltb-false _ _ e)))

-- So are those from word k on together, and not longer.
pub light : (line : List ℕ) (k : ℕ) → sum_by weight (drop k (words_of line)) ≤ length line + 1
light line k = omega (arith, weighs 32 line, sum_by-take-drop weight (words_of line) k)
