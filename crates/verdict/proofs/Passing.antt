-- The pass that finds the four indices of a downstream verdict: its turns and its end. Assumes nothing.
use Prim.Native.Nat.{ℕ, ◌+◌, ◌-◌, ◌≤◌, ◌<◌}
use mathlib.Core.Path.{◌≡◌, refl, ◌∙◌}
use mathlib.Core.List.{List}
use native.Mathlib.Omega.{arith}
use lib.ListN.{length}
use Rattle.types.specs.declared.Hop.{Hop}
use Rattle.rules.specs.Hops.{HopFunction, is_not_plus, as_at, up, down, highest, descend}
use Rattle.verdict.specs.declared.Ramps.{Ramps}
use Rattle.verdict.specs.Ramps.{ramps_of, after_up, after_down}
use Rattle.verdict.proofs.Turns.{First, first_starts, first_on, first_done, Climb, climb_starts, climb_on, climb_done, highest_on, descend_on}
use Rattle.verdict.proofs.Rising.{upward}

-- The indices of the part of the path from AS(1) to AS(i), and the hop onward from AS(i).
pub record Passing (hop : HopFunction) (path : List ℕ) (r : Ramps) (i : ℕ) (x : Hop) : Type 0 where
  pub low : 1 ≤ i
  pub first : First (λ u. is_not_plus (up hop path u)) (length path) r.u i
  pub last : r.v ≡ highest (λ v. is_not_plus (down hop path v)) 1 (i - 1)
  pub climbed : Climb hop path (length path) r.k i
  pub descended : r.l ≡ descend hop path (i - 1)
  pub onward : i < length path → x ≡ hop (as_at path i) (as_at path (i + 1))

-- The pass starts at AS(1).
pub passes :
    (hop : HopFunction) (path : List ℕ) {x : Hop} {a : ℕ} → 1 ≤ length path
    → (2 ≤ length path → a ≡ as_at path 2) → x ≡ hop (as_at path 1) a
    → Passing hop path (record { u = length path + 1; v = 0; k = 1; l = 1 }) 1 x
unfolding highest descend
passes hop path h m e =
    record {
      low = omega arith;
      first = first_starts _ _ h;
      last = refl;
      climbed = climb_starts hop path _ h;
      descended = refl;
      onward = λ k. rw (← m (omega arith)) e;
    }

module _ {hop : HopFunction} {path : List ℕ} {r : Ramps} {i : ℕ} {x : Hop} (g : Passing hop path r i x) where
  -- The two hops between AS(i) and AS(i + 1), and the next one onward.
  pub passes_on :
      {y z : Hop} {a : ℕ} {s t : Ramps} → i < length path
      → s ≡ after_up r (length path) i x → y ≡ hop (as_at path (i + 1)) (as_at path i) → t ≡ after_down s i y
      → (i + 2 ≤ length path → a ≡ as_at path (i + 2)) → z ≡ hop (as_at path (i + 1)) a
      → Passing hop path t (i + 1) z
  passes_on h p f q m e =
      rw (q, p, f, g.onward h, ← upward hop path i)
      (record {
        low = omega arith;
        first = first_on g.first h;
        last = rw (highest_on (λ v. is_not_plus (down hop path v)) i g.low, g.last);
        climbed = climb_on hop path g.climbed h;
        descended = rw (descend_on hop path i g.low, g.descended);
        onward = λ k.
            let w : i + 1 + 1 ≡ i + 2 = omega arith in
            rw (w, ← m (omega arith)) e;
      })

  -- At the end of the path they are the whole path's.
  pub passed : length path ≤ i → r ≡ ramps_of hop path
  passed h =
      let z : i ≡ length path = omega (arith, g.first.within) in
      let p : r.u ≡ (ramps_of hop path).u = first_done g.first h in
      let q : r.v ≡ (ramps_of hop path).v = g.last ∙ rw z refl in
      let s : r.k ≡ (ramps_of hop path).k = climb_done hop path g.climbed h in
      let t : r.l ≡ (ramps_of hop path).l = g.descended ∙ rw z refl in
      λ j. record { u = p j; v = q j; k = s j; l = t j }
