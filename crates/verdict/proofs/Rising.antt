-- The loop of the upstream verdict: its turns and its ends. Assumes nothing.
use Prim.Native.Nat.{ℕ, ◌+◌, ◌-◌, ◌≤◌, ◌<◌}
use mathlib.Core.Path.{◌≡◌, sym, ◌∙◌, ap}
use mathlib.Core.List.{List}
use mathlib.Core.Bool.{false}
use native.Mathlib.Omega.{arith}
use borrow.Author.Tests.{le-leb, lt-leb}
use lib.ListN.{length}
use Rattle.std.specs.Prelude.{Option, Some, None}
use Rattle.std.specs.Option.{unwrap_or, option_or}
use Rattle.types.specs.declared.Origin.{Origin}
use Rattle.types.specs.declared.Origins.TheVariants.{One}
use Rattle.types.specs.declared.Hop.{Hop}
use Rattle.types.specs.declared.Hop.TheVariants.{NoAttestation, NotProviderPlus}
use Rattle.types.specs.declared.Cause.TheVariants.{ByHops}
use Rattle.types.specs.declared.Verdict.TheVariants.{Valid, Invalid, Unknown}
use Rattle.rules.specs.Hops.{HopFunction, is_not_plus, is_unattested, as_at, up}
use Rattle.rules.specs.Verdicts.{lowest_unattested, upstream}
use Rattle.verdict.proofs.Turns.{First, first_starts, first_met, first_missed, first_kept, first_found, first_done}

-- The upward hop to AS(i + 1), as the code reads it.
pub upward : (hop : HopFunction) (path : List ℕ) (i : ℕ) → up hop path (i + 1) ≡ hop (as_at path i) (as_at path (i + 1))
upward hop path i =
    let z : i + 1 - 1 ≡ i = omega arith in
    rw z

-- No hop up to AS(i) is Not Provider+, and a is the first that is No Attestation.
pub record Rising (hop : HopFunction) (path : List ℕ) (a : Option ℕ) (i : ℕ) : Type 0 where
  pub low : 1 ≤ i
  pub refused : First (λ u. is_not_plus (up hop path u)) (length path) (length path + 1) i
  pub unattested : First (λ u. is_unattested (up hop path u)) (length path) (unwrap_or a (length path + 1)) i
  pub within : unwrap_or a 0 ≤ length path

-- The loop starts at AS(1).
pub rises : (hop : HopFunction) (path : List ℕ) → 1 ≤ length path → Rising hop path None 1
rises hop path h = record { low = omega arith; refused = first_starts _ _ h; unattested = first_starts _ _ h; within = omega arith }

module _ {hop : HopFunction} {path : List ℕ} {a : Option ℕ} {i : ℕ} (g : Rising hop path a i) where
  module _ (h : i < length path) {x : Hop} (e : x ≡ hop (as_at path i) (as_at path (i + 1))) where
    -- The hop that was read.
    read : up hop path (i + 1) ≡ x
    read = upward hop path i ∙ sym e

    -- One that is Not Provider+ ends the loop, and its register is named.
    pub rises_refused : {o : Origin} → x ≡ NotProviderPlus o → Invalid (ByHops (i + 1) 0 (One o)) ≡ upstream hop path
    unfolding upstream
    rises_refused z =
        let q = read ∙ z in
        rw (first_met g.refused h (omega arith) (ap is_not_plus q), le-leb (i + 1) (length path) (omega arith), q)

    -- Another is passed,
    pub rises_on : is_not_plus x ≡ false → is_unattested x ≡ false → Rising hop path a (i + 1)
    rises_on z t =
        record {
          low = omega arith;
          refused = first_missed g.refused h (ap is_not_plus read ∙ z);
          unattested = first_missed g.unattested h (ap is_unattested read ∙ t);
          within = g.within;
        }

    -- and the first that is No Attestation is noted.
    pub rises_noted : x ≡ NoAttestation → Rising hop path (option_or a (Some (i + 1))) (i + 1)
    rises_noted z = go a g.unattested g.within
      where
        q : up hop path (i + 1) ≡ NoAttestation
        q = read ∙ z

        go : (b : Option ℕ) → First (λ u. is_unattested (up hop path u)) (length path) (unwrap_or b (length path + 1)) i → unwrap_or b 0 ≤ length path
            → Rising hop path (option_or b (Some (i + 1))) (i + 1)
        go None f w =
            record {
              low = omega arith;
              refused = first_missed g.refused h (ap is_not_plus q);
              unattested = first_found f h (omega arith) (ap is_unattested q);
              within = omega arith;
            }
        go (Some u) f w =
            record { low = omega arith; refused = first_missed g.refused h (ap is_not_plus q); unattested = first_kept f h w; within = w }

module _ {hop : HopFunction} {path : List ℕ} {a : Option ℕ} {i : ℕ} (g : Rising hop path a i) (h : length path ≤ i) where
  -- With every hop read, the first that is No Attestation makes the path Unknown.
  pub risen_unknown : {u : ℕ} → a ≡ Some u → Unknown u 0 ≡ upstream hop path
  unfolding upstream
  risen_unknown {u} z =
      let w : u ≤ length path = rw z at g.within in
      let f : u ≡ lowest_unattested hop path = rw z at (first_done g.unattested h) in
      rw (← first_done g.refused h, ← f, lt-leb (length path + 1) (length path) (omega arith), le-leb u (length path) w)

  -- Without one it is Valid.
  pub risen_valid : a ≡ None → Valid ≡ upstream hop path
  unfolding upstream
  risen_valid z =
      let f : length path + 1 ≡ lowest_unattested hop path = rw z at (first_done g.unattested h) in
      rw (← first_done g.refused h, ← f, lt-leb (length path + 1) (length path) (omega arith))
