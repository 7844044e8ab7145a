-- The words of a table up to the last that is not zero. Assumes nothing.
use Prim.Native.Nat.{ℕ, suc, ◌-◌, ◌<◌}
use mathlib.Core.Path.{◌≡◌, refl, sym, ap, ◌∙◌}
use mathlib.Core.Bool.{Bool, true, false, cond, ◌&&◌}
use mathlib.Core.List.{List, [], ◌∷◌, ◌++◌}
use native.Mathlib.Omega.{arith}
use borrow.Author.Tests.{ne_eqb}
use lib.Dec.{eqb}
use lib.ListN.{length, take, get_or}
use lib.Seq.{take-suc, take_all}
use Rattle.std.proofs.lemmas.Grind.{common_steps}
use Rattle.table.specs.Table.{all_zero}
use Rattle.replies.specs.Texts.{without_zeros}

-- ---- without the zeros at the end

false_right : (b : Bool) → b && false ≡ false
false_right true = refl
false_right false = refl

true_right : (b : Bool) → b && true ≡ b
true_right true = refl
true_right false = refl

all_zero_last : (xs : List ℕ) (x : ℕ) → all_zero (xs ++ (x ∷ [])) ≡ all_zero xs && eqb x 0
unfolding all_zero
all_zero_last [] x = true_right (eqb x 0)
all_zero_last (y ∷ ys) x = ap (λ b. eqb y 0 && b) (all_zero_last ys x) ∙ assoc (eqb y 0) (all_zero ys) (eqb x 0)
  where
    assoc : (a b c : Bool) → a && (b && c) ≡ (a && b) && c
    assoc true b c = refl
    assoc false b c = refl

zero_goes : (xs : List ℕ) → without_zeros (xs ++ (0 ∷ [])) ≡ without_zeros xs
unfolding without_zeros all_zero
zero_goes [] = refl
zero_goes (x ∷ xs) =
    (λ i. cond (eqb x 0 && (all_zero_last xs 0 ∙ true_right (all_zero xs)) i) [] (x ∷ zero_goes xs i))

other_stays : (xs : List ℕ) (x : ℕ) → (x ≡ 0 → ⊥) → without_zeros (xs ++ (x ∷ [])) ≡ xs ++ (x ∷ [])
unfolding without_zeros all_zero
other_stays [] x h = rw (ne_eqb x 0 h) refl
other_stays (y ∷ ys) x h =
    let z : all_zero (ys ++ (x ∷ [])) ≡ false = all_zero_last ys x ∙ ap (λ b. all_zero ys && b) (ne_eqb x 0 h) ∙ false_right (all_zero ys) in
    (λ i. cond (eqb y 0 && z i) [] (y ∷ other_stays ys x h i)) ∙ ap (λ b. cond b [] (y ∷ (ys ++ (x ∷ [])))) (false_right (eqb y 0))

last_of : (words : List ℕ) → 0 < length words → take (length words - 1) words ++ (get_or words (length words - 1) 0 ∷ []) ≡ words
last_of words h =
    let z : suc (length words - 1) ≡ length words = omega arith in
    sym (take-suc words (length words - 1) 0 (omega arith)) ∙ ap (λ n. take n words) z ∙ take_all (length words) words (omega arith)

-- A zero at the end goes,
pub trims_on :
    (words : List ℕ) → 0 < length words → get_or words (length words - 1) 0 ≡ 0
    → without_zeros (take (length words - 1) words) ≡ without_zeros words
trims_on words h e =
    sym (zero_goes (take (length words - 1) words)) ∙ ap (λ x. without_zeros (take (length words - 1) words ++ (x ∷ []))) (sym e)
    ∙ ap without_zeros (last_of words h)

-- and no other word.
pub trimmed : (words : List ℕ) → 0 < length words → (get_or words (length words - 1) 0 ≡ 0 → ⊥) → without_zeros words ≡ words
trimmed words h e =
    ap without_zeros (sym (last_of words h)) ∙ other_stays (take (length words - 1) words) (get_or words (length words - 1) 0) e ∙ last_of words h

pub no_words : (words : List ℕ) → length words ≡ 0 → without_zeros words ≡ words
unfolding without_zeros
no_words [] h = refl
no_words (x ∷ words) h = absurd (omega arith)

pub ruleset trimming = (trims_on, trimmed, no_words, common_steps)
