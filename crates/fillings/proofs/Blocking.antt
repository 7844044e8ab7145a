-- A path is admitted, and has its outcome, by the hops that block it. Assumes nothing.
use Prim.Native.Nat.{ℕ, zero, suc, ◌+◌, ◌-◌, ◌≤◌, ◌<◌, max}
use mathlib.Core.Path.{◌≡◌, refl}
use mathlib.Core.List.{List}
use mathlib.Core.Bool.{Bool, true, false, not, cond, true≢false}
use native.Mathlib.Omega.{arith}
use borrow.Author.Tests.{leb-true, leb-false, le-leb, lt-leb}
use lib.Dec.{leb}
use lib.ListN.{length}
use lib.IntN.{pos}
use lib.Signed.{le_z}
use Rattle.types.specs.declared.Hop.{Hop}
use Rattle.types.specs.declared.Hop.TheVariants.{NoAttestation, ProviderPlus, NotProviderPlus}
use Rattle.types.specs.declared.Answer.TheVariants.{Plain, WithGap}
use Rattle.types.specs.Numbers.{verdict_of}
use Rattle.types.specs.Roles.{is_upstream}
use Rattle.rules.specs.Hops.{HopFunction, is_plus, is_not_plus, is_unattested, as_at, up, lowest, highest}
use Rattle.rules.specs.Verdicts.{ramp_up, ramp_down, lowest_unattested, gap_of, upstream, downstream, judged}
use Rattle.rules.specs.Draft.{each}
use Rattle.rules.proofs.Searching.{lowest_is, highest_is, lowest_same, lowest_sooner, highest_later}
use Rattle.rules.proofs.Ramps.{ramp_up_lowest, ramp_down_highest}
use Rattle.rules.proofs.Gaps.{near, far}
use Rattle.fillings.specs.Fillings.{valid, invalid, unknown, outcome_of, outcome, admitted}

-- ---- a path is blocked by hops

-- A set of hops.
abbrev pub Hops : Type 0
Hops = ℕ → ℕ → Bool

-- The lowest upward hop of the path in it, and the highest downward one.
abbrev pub stop_up : List ℕ → Hops → ℕ
stop_up path s = lowest (λ u. s (as_at path (u - 1)) (as_at path u)) 2 (length path - 1)

abbrev pub stop_down : List ℕ → Hops → ℕ
stop_down path s = highest (λ v. s (as_at path (v + 1)) (as_at path v)) 1 (length path - 1)

-- Upstream any of them blocks the path, downstream an upward one that does not lie above a downward one.
abbrev pub blocked : List ℕ → Bool → Hops → Bool
blocked path upstream s = leb (stop_up path s) (cond upstream (length path) (stop_down path s))

-- Every hop between neighbours of the path that is in the first set is in the second.
abbrev pub More : List ℕ → Hops → Hops → Type 0
More path s t =
    (i : ℕ) → 1 ≤ i → i < length path
    → (s (as_at path i) (as_at path (i + 1)) ≡ true → t (as_at path i) (as_at path (i + 1)) ≡ true)
    × (s (as_at path (i + 1)) (as_at path i) ≡ true → t (as_at path (i + 1)) (as_at path i) ≡ true)

pub anywhere : (path : List ℕ) (s t : Hops) → ((x y : ℕ) → s x y ≡ true → t x y ≡ true) → More path s t
anywhere path s t more i a b = (more (as_at path i) (as_at path (i + 1)), more (as_at path (i + 1)) (as_at path i))

-- More hops block more.
pub blocked_more : (path : List ℕ) (b : Bool) (s t : Hops) → More path s t → blocked path b s ≡ true → blocked path b t ≡ true
blocked_more path b s t more e = le-leb _ _ (go b (leb-true _ _ e))
  where
    upward : (u : ℕ) → 2 ≤ u → u < 2 + (length path - 1) → s (as_at path (u - 1)) (as_at path u) ≡ true → t (as_at path (u - 1)) (as_at path u) ≡ true
    upward u a h =
        let z : u - 1 + 1 ≡ u = omega arith in
        rw z at (more (u - 1) (omega arith) (omega arith)).0

    sooner : stop_up path t ≤ stop_up path s
    sooner = lowest_sooner upward (lowest_is _ 2 (length path - 1)) (lowest_is _ 2 (length path - 1))

    later : stop_down path s ≤ stop_down path t
    later =
        highest_later (omega arith) (λ v a h. (more v a (omega arith)).1) (highest_is _ 1 (length path - 1) (omega arith))
        (highest_is _ 1 (length path - 1) (omega arith))

    go : (b : Bool) → stop_up path s ≤ cond b (length path) (stop_down path s) → stop_up path t ≤ cond b (length path) (stop_down path t)
    go true h = omega (arith, sooner)
    go false h = omega (arith, sooner, later)

-- ---- admission

-- Each index of i..m passes where the lowest that fails lies above m.
each_is : (test : ℕ → Bool) (i n m : ℕ) → i + n ≡ max i (suc m) → each test i n ≡ not (leb (lowest (λ j. not (test j)) i n) m)
unfolding each lowest
each_is test i zero m z = rw (lt-leb i m (omega arith))
each_is test i (suc n) m z = go (each_is test (i + 1) n m (omega arith)) (test i) refl
  where
    go : each test (i + 1) n ≡ not (leb (lowest (λ j. not (test j)) (i + 1) n) m)
        → (b : Bool) → test i ≡ b → each test i (suc n) ≡ not (leb (lowest (λ j. not (test j)) i (suc n)) m)
    go ih true e = rw e ih
    go ih false e = rw (e, le-leb i m (omega arith))

-- The hops that end a ramp, and those that are refused.
abbrev pub ends : HopFunction → Hops
ends hop x y = not (is_plus (hop x y))

abbrev pub refused : HopFunction → Hops
refused hop x y = is_not_plus (hop x y)

not_refused : (h : Hop) → is_not_plus h ≡ false → is_unattested h ≡ not (is_plus h)
not_refused NoAttestation e = refl
not_refused (ProviderPlus o s) e = refl
not_refused (NotProviderPlus o) e = absurd (true≢false e)

module _ (hop : HopFunction) (path : List ℕ) where
  gap_is : (t : Bool) → blocked path false (ends hop) ≡ t → le_z (gap_of hop path) (pos 1) ≡ not t
  gap_is true e = far (ramp_down hop path) (ramp_up hop path) (omega (arith, leb-true, ramp_up_lowest hop path, ramp_down_highest hop path))
  gap_is false e = near (ramp_down hop path) (ramp_up hop path) (omega (arith, leb-false, ramp_up_lowest hop path, ramp_down_highest hop path))

  -- A path is admitted unless hops that end a ramp block it.
  pub admitted_is : (role : ℕ) → admitted hop path role ≡ not (blocked path (is_upstream role) (ends hop))
  admitted_is role = go (is_upstream role)
    where
      go : (b : Bool) → cond b (each (λ u. is_plus (up hop path u)) 2 (length path - 1)) (le_z (gap_of hop path) (pos 1)) ≡ not (blocked path b (ends hop))
      go true = each_is _ 2 (length path - 1) (length path) (omega arith)
      go false = gap_is _ refl

  -- It is Invalid where refused hops block it, and else Unknown where hops that end a ramp do.
  pub outcome_is : (role : ℕ)
      → outcome hop path role ≡ cond (blocked path (is_upstream role) (refused hop)) invalid (cond (blocked path (is_upstream role) (ends hop)) unknown valid)
  unfolding judged upstream downstream
  outcome_is role = go (is_upstream role)
    where
      -- Where no hop is refused, the lowest without attestation ends the ramp.
      first : blocked path true (refused hop) ≡ false → lowest_unattested hop path ≡ stop_up path (ends hop)
      first e =
          let h : length path < stop_up path (refused hop) = leb-false _ _ e in
          lowest_same _ _ 2 (length path - 1)
          (λ j a b. not_refused (up hop path j) ((lowest_is (λ u. is_not_plus (up hop path u)) 2 (length path - 1)).first j a (omega arith)))

      above : (s t : Bool) → blocked path true (refused hop) ≡ s → blocked path true (ends hop) ≡ t
          → outcome_of (upstream hop path) ≡ cond s invalid (cond t unknown valid)
      above true t e f = rw e
      above false true e f = rw (e, first e, f)
      above false false e f = rw (e, first e, f)

      below : (s t : Bool) → blocked path false (refused hop) ≡ s → blocked path false (ends hop) ≡ t
          → outcome_of (downstream hop path) ≡ cond s invalid (cond t unknown valid)
      below true t e f = rw e
      below false true e f = rw (e, gap_is _ f)
      below false false e f = rw (e, gap_is _ f)

      go : (b : Bool) → outcome_of (verdict_of (cond b (Plain (upstream hop path)) (WithGap (downstream hop path) (gap_of hop path))))
          ≡ cond (blocked path b (refused hop)) invalid (cond (blocked path b (ends hop)) unknown valid)
      go true = above _ _ refl refl
      go false = below _ _ refl refl
