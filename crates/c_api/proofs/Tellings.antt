-- A call's answer, told in words. Assumes nothing.
use Prim.Native.Nat.{ℕ, ◌≤◌, ◌<◌}
use mathlib.Core.Path.{◌≡◌, refl, ◌∙◌, ap}
use mathlib.Core.List.{List}
use native.Mathlib.Omega.{arith}
use Rattle.types.specs.declared.Refusal.{Refusal}
use Rattle.types.specs.Numbers.{refusal_place}
use Rattle.types.specs.Rows.{Effect, effect}
use Rattle.rules.specs.Judging.{most_bytes, refusal_in}
use Rattle.registers.specs.Registers.{Registers}
use Rattle.effects.specs.Calls.{Keeping, judge_answer, keep_effect}
use Rattle.effects.proofs.Places.{place_within, judge_placed, keep_placed}
use Rattle.snapshot.specs.Calls.{write_effect, reading, Reading}
use Rattle.snapshot.proofs.Laws.{snapshot_laws}
use Rattle.told.specs.Answers.{told_tables, place_word, telling, done_told, reading_told}
use Rattle.told.specs.Helpers.{place_in, bytes_in}
use Rattle.std.specs.Prelude.{Err, None, Ok, Option, Result, Some}
use Rattle.types.specs.declared.Answer.{Answer}

-- The answer a is what the step s answers: so what is told of a is told of s.
pub tells : {A X : Type 0} (tell : A → X) {a : A} {s : Effect A} {ws : List ℕ} {x : X} → effect a ws ≡ s → x ≡ tell a → effect x ws ≡ telling tell s
tells tell {ws = ws} e t = ap (λ y. effect y ws) t ∙ ap (telling tell) e

-- A place that is told is below the most bytes, if every place of a refusal is.
place_below : (j : Result Answer Refusal) → ((r : Refusal) → refusal_in j ≡ Some r → (p : ℕ) → refusal_place r ≡ Some p → p < most_bytes) → place_in j < most_bytes
place_below (Ok a) h = omega arith
place_below (Err r) h = go (refusal_place r) refl
  where
    go : (x : Option ℕ) → refusal_place r ≡ x → place_word x < most_bytes
    go None e = omega arith
    go (Some p) e = h r refl p e

-- So are those of Judge and Keep.
pub judge_below : (reg : Registers) (role neighbour : ℕ) (attribute : List ℕ) → place_in (judge_answer reg role neighbour attribute) < most_bytes
judge_below reg role neighbour attribute =
    place_below (judge_answer reg role neighbour attribute)
    (λ r e p h. (place_within attribute r p (judge_placed role neighbour attribute reg r e p h)).1)

pub keep_below : (reg : Registers) (led : List ℕ) (k : Keeping) → place_in (keep_effect reg led k).answer < most_bytes
keep_below reg led k =
    place_below (keep_effect reg led k).answer (λ r e p h. (place_within k.attribute r p (keep_placed reg led k r e p h)).1)

-- ---- Write and Read

-- As `tells`, of a call that changes two tables.
pub tells_reading : {a : (Result Unit Refusal)} {e : Reading} {reg led : List ℕ} {x : ℕ} → reading a reg led ≡ e → x ≡ done_told a
    → told_tables x reg led ≡ reading_told e
tells_reading {reg = reg} {led = led} e t = ap (λ y. told_tables y reg led) t ∙ ap reading_told e

module _ (reg led output : List ℕ) (n : ℕ) (h : (write_effect reg led output).answer ≡ Ok n) where
  -- The length that Write answers is no more than that of full tables.
  few_bytes : n ≤ 100388
  few_bytes = let w = snapshot_laws.write.accepted_formed reg led output n h in omega (arith, w.1, snapshot_laws.write.most reg led w.0)

  -- It is not 0.
  pub some_bytes : 36 ≤ n
  some_bytes = let w = snapshot_laws.write.accepted_formed reg led output n h in omega (arith, w.1, snapshot_laws.write.least reg led w.0)

-- A word holds it.
pub write_below : (reg led output : List ℕ) → bytes_in (write_effect reg led output).answer < 4294967296
write_below reg led output = go (write_effect reg led output).answer refl
  where
    go : (a : Result ℕ Refusal) → (write_effect reg led output).answer ≡ a → bytes_in a < 4294967296
    go (Ok n) e = let h = few_bytes reg led output n e in omega (arith, h)
    go (Err r) e = omega arith
