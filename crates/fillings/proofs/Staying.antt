-- Which changes of the hops leave Valid or Invalid on every path. Assumes nothing.
use Prim.Native.Nat.{ℕ, zero, suc, ◌+◌, ◌-◌, ◌≤◌, ◌<◌}
use mathlib.Core.Path.{◌≡◌, refl, sym, ◌∙◌, ap}
use mathlib.Core.List.{List, [], ◌∷◌}
use mathlib.Core.Logic.{◌↔◌}
use mathlib.Core.Bool.{Bool, true, false, not, cond}
use native.Mathlib.Omega.{arith}
use borrow.Author.Tests.{not-false}
use lib.ListN.{length, get_or}
use Rattle.types.specs.declared.Hop.{Hop}
use Rattle.types.specs.declared.Hop.TheVariants.{NoAttestation, ProviderPlus, NotProviderPlus}
use Rattle.types.specs.Roles.{is_upstream}
use Rattle.types.proofs.Clashes.{clash}
use Rattle.rules.specs.Hops.{HopFunction, is_plus, is_not_plus, is_unattested, as_at, lowest}
use Rattle.fillings.specs.Fillings.{valid, invalid, unknown, outcome, MergedPath, Stays, StillPasses}
use Rattle.fillings.proofs.Blocking.{Hops, blocked, More, anywhere, blocked_more, ends, refused, outcome_is}
use Rattle.fillings.proofs.Fillings.{denied}

-- ---- an outcome by what blocks the path

refused_ends : (h : Hop) → is_not_plus h ≡ true → not (is_plus h) ≡ true
refused_ends NoAttestation e = refl
refused_ends (ProviderPlus o s) e = e
refused_ends (NotProviderPlus o) e = refl

module _ (hop : HopFunction) (path : List ℕ) (role : ℕ) where
  abbrev by_refused : Bool
  by_refused = blocked path (is_upstream role) (refused hop)

  abbrev by_ends : Bool
  by_ends = blocked path (is_upstream role) (ends hop)

  valid_by : (outcome hop path role ≡ valid) ↔ (by_ends ≡ false)
  valid_by = (λ e. to by_refused by_ends (sym (outcome_is hop path role) ∙ e), λ e. outcome_is hop path role ∙ from e)
    where
      to : (s t : Bool) → cond s invalid (cond t unknown valid) ≡ valid → t ≡ false
      to true t e = clash (cc)
      to false true e = clash (cc)
      to false false e = refl

      from : by_ends ≡ false → cond by_refused invalid (cond by_ends unknown valid) ≡ valid
      from e =
          let more = blocked_more path (is_upstream role) (refused hop) (ends hop) (anywhere path _ _ (λ x y. refused_ends (hop x y))) in
          rw (e, denied by_refused by_ends more e)

  invalid_by : (outcome hop path role ≡ invalid) ↔ (by_refused ≡ true)
  invalid_by = (λ e. to by_refused by_ends (sym (outcome_is hop path role) ∙ e), λ e. outcome_is hop path role ∙ rw e)
    where
      to : (s t : Bool) → cond s invalid (cond t unknown valid) ≡ invalid → s ≡ true
      to true t e = refl
      to false true e = clash (cc)
      to false false e = clash (cc)

-- ---- a path of two numbers

-- Upstream it has one hop.
one_hop : (s : Hops) (x y : ℕ) → blocked (y ∷ x ∷ []) true s ≡ s x y
unfolding lowest
one_hop s x y = go (s x y) refl
  where
    go : (b : Bool) → s x y ≡ b → blocked (y ∷ x ∷ []) true s ≡ s x y
    go true e = rw e
    go false e = rw e

two_merged : (x y : ℕ) → 1 ≤ x → 1 ≤ y → (x ≡ y → ⊥) → MergedPath (y ∷ x ∷ [])
two_merged x y a b apart = record { no-zero = some_number; no-runs = differ }
  where
    some_number : (i : ℕ) → i < 2 → get_or (y ∷ x ∷ []) i 0 ≡ 0 → ⊥
    some_number zero h e = omega arith
    some_number (suc zero) h e = omega arith
    some_number (suc (suc i)) h e = omega arith

    differ : (i : ℕ) → i + 1 < 2 → get_or (y ∷ x ∷ []) i 0 ≡ get_or (y ∷ x ∷ []) (i + 1) 0 → ⊥
    differ zero h e = apart (sym e)
    differ (suc i) h e = omega arith

-- ---- what stays

-- Neighbours on a merged path are not 0, and differ.
module _ (path : List ℕ) (m : MergedPath path) where
  pub numbered : (i : ℕ) → 1 ≤ i → i ≤ length path → 1 ≤ as_at path i
  numbered i a b = let n = m.no-zero (length path - i) (omega arith) in above (as_at path i) n
    where
      above : (x : ℕ) → (x ≡ 0 → ⊥) → 1 ≤ x
      above x n = omega arith

  apart : (i : ℕ) → 1 ≤ i → i < length path → as_at path i ≡ as_at path (i + 1) → ⊥
  apart i a b e =
      let z : length path - (i + 1) + 1 ≡ length path - i = omega arith in
      m.no-runs (length path - (i + 1)) (omega arith) (rw z (sym e))

  -- So every hop between them is one that can be on such a path.
  along : (s t : Hops) → ((x y : ℕ) → 1 ≤ x → 1 ≤ y → (x ≡ y → ⊥) → s x y ≡ true → t x y ≡ true) → More path s t
  along s t more i a b =
      let h : 1 ≤ as_at path i = numbered i a (omega arith) in
      let k : 1 ≤ as_at path (i + 1) = numbered (i + 1) (omega arith) (omega arith) in
      (more _ _ h k (apart i a b), more _ _ k h (λ e. apart i a b (sym e)))

contra : (s t : Bool) → (s ≡ true → t ≡ true) → not t ≡ true → not s ≡ true
contra true true f e = e
contra true false f e = f refl
contra false t f e = refl

module _ (hop hop' : HopFunction) where
  pub valid_stays : Stays valid hop hop' ↔ StillPasses is_plus hop hop'
  valid_stays = (to, from)
    where
      to : Stays valid hop hop' → StillPasses is_plus hop hop'
      to stays x y a b n e =
          not-false _
          (sym (one_hop (ends hop') x y)
          ∙ (valid_by hop' _ 1).0 (stays (y ∷ x ∷ []) (two_merged x y a b n) 1 ((valid_by hop _ 1).1 (one_hop (ends hop) x y ∙ ap not e))))

      from : StillPasses is_plus hop hop' → Stays valid hop hop'
      from more path m role e =
          (valid_by hop' path role).1
          (denied _ _ (blocked_more path (is_upstream role) (ends hop') (ends hop) (along path m _ _ (λ x y a b n. contra _ _ (more x y a b n))))
          ((valid_by hop path role).0 e))

  pub invalid_stays : Stays invalid hop hop' ↔ StillPasses is_not_plus hop hop'
  invalid_stays = (to, from)
    where
      to : Stays invalid hop hop' → StillPasses is_not_plus hop hop'
      to stays x y a b n e =
          sym (one_hop (refused hop') x y)
          ∙ (invalid_by hop' _ 1).0 (stays (y ∷ x ∷ []) (two_merged x y a b n) 1 ((invalid_by hop _ 1).1 (one_hop (refused hop) x y ∙ e)))

      from : StillPasses is_not_plus hop hop' → Stays invalid hop hop'
      from more path m role e =
          (invalid_by hop' path role).1
          (blocked_more path (is_upstream role) (refused hop) (refused hop') (along path m _ _ more) ((invalid_by hop path role).0 e))

-- ---- hops that are new

-- A hop that passes a test which No Attestation fails is attested.
passing_attested : (test : Hop → Bool) → test NoAttestation ≡ false → (h : Hop) → test h ≡ true → is_unattested h ≡ false
passing_attested test n NoAttestation e = sym e ∙ n
passing_attested test n (ProviderPlus o s) e = refl
passing_attested test n (NotProviderPlus o) e = refl

pub new_hops : (hop hop' : HopFunction) → ((x y : ℕ) → is_unattested (hop x y) ≡ false → hop' x y ≡ hop x y)
    → Stays valid hop hop' × Stays invalid hop hop'
new_hops hop hop' same = (
  (valid_stays hop hop').1 (λ x y a b n e. ap is_plus (same x y (passing_attested is_plus refl (hop x y) e)) ∙ e),
  (invalid_stays hop hop').1 (λ x y a b n e. ap is_not_plus (same x y (passing_attested is_not_plus refl (hop x y) e)) ∙ e),
)
