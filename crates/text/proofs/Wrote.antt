-- Text written piece by piece. Assumes nothing.
use Rattle.std.proofs.Common.{◌≡◌, ◌∙◌, refl, sym, ℕ, suc, ◌+◌, List, [], ◌∷◌, ◌++◌, length, set, arith, length-append}
use Rattle.std.proofs.Math.Seq.{sets}
use Rattle.std.proofs.lemmas.List.Edits.{sets-eq}
use Rattle.std.proofs.lemmas.Grind.{common_steps}
use Rattle.text.specs.declared.Text.{Text}
use Rattle.text.specs.Wrote.{Wrote}

pub sets_append : (l : List ℕ) (i : ℕ) (a b : List ℕ) → sets l i (a ++ b) ≡ sets (sets l i a) (i + length a) b
sets_append l i [] b =
    let z : i + 0 ≡ i = omega arith in
    rw z refl
sets_append l i (x ∷ a) b =
    let z : suc i + length a ≡ i + suc (length a) = omega arith in
    rw (← z) (sets_append (set l i x) (suc i) a b)

pub wrote_nothing : (t : Text) → Wrote t t []
wrote_nothing t = record { same = refl; end = omega arith; written = refl; room = refl }

pub wrote_then : {a b c : Text} {x y : List ℕ} → Wrote a b x → Wrote b c y → Wrote a c (x ++ y)
wrote_then {a} {x = x} {y = y} p q =
    record {
      same = q.same ∙ p.same;
      end = omega (arith, p.end, q.end, length-append x y);
      written = q.written ∙ (λ i. sets (p.written i) (p.end i) y) ∙ sym (sets_append a.buffer.now a.end x y);
      room = q.room ∙ p.room;
    }

-- How a text that was written in two pieces is one that was written at once.
pub ruleset writing = (sets_append, length-append)

-- A piece that was copied is one that was set.
pub ruleset copying = (sets-eq, common_steps)
