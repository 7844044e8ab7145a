-- A snapshot written to an output of zeros, and its text. Assumes nothing.
use Rattle.std.proofs.Common.{◌≡◌, refl, ap, subst, ◌∙◌, ℕ, zero, suc, ◌≤◌, min, List, ◌∷◌, take, replicate, Result, arith}
use Rattle.types.specs.declared.Refusal.{Refusal}
use Rattle.types.specs.Rows.{effect}
use Rattle.text.specs.declared.Text.{Text}
use Rattle.text.specs.Wrote.{Wrote}
use Rattle.snapshot.specs.Calls.{write_effect}
use Rattle.answers.specs.Texts.{written_text}
use Rattle.replies.specs.Texts.{effect_text}

first_zeros : (n m : ℕ) → n ≤ m → take {A = ℕ} n (replicate m 0) ≡ replicate n 0
first_zeros zero m h = refl
first_zeros (suc n) zero h = absurd (omega arith)
first_zeros (suc n) (suc m) h = ap (λ l. 0 ∷ l) (first_zeros n m (omega arith))

-- The output is the first n of the most zeros, where so many are asked for.
pub writes_snapshot :
    (reg led : List ℕ) (most asked : ℕ) {n : ℕ} {zeros after : List ℕ} {answer : Result ℕ Refusal} {before now : Text}
    → zeros ≡ replicate most 0 → n ≡ min asked most → effect answer after ≡ write_effect reg led (take n zeros)
    → Wrote before now (written_text after answer)
    → Wrote before now (effect_text (write_effect reg led (replicate (min asked most) 0)))
writes_snapshot reg led most asked {n} {before = before} {now = now} z m e w =
    let few : n ≤ most = omega arith in
    let lent = ap (take n) z ∙ first_zeros n most few ∙ ap (λ k. replicate k 0) m in
    subst (λ x. Wrote before now (effect_text x)) (e ∙ ap (write_effect reg led) lent) w
