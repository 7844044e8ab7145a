-- The outcome of a path is decided by two fillings, everybody and nobody, and every other lies between them. Assumes nothing.
use Prim.Native.Nat.{ℕ, ◌+◌}
use mathlib.Core.Path.{◌≡◌, refl, sym, ◌∙◌, ap}
use mathlib.Core.List.{List}
use mathlib.Core.Logic.{◌↔◌}
use mathlib.Core.Bool.{Bool, true, false, not, cond, true≢false}
use Rattle.types.specs.declared.Origin.TheVariants.{Public}
use Rattle.types.specs.declared.Hop.{Hop}
use Rattle.types.specs.declared.Hop.TheVariants.{NoAttestation, ProviderPlus, NotProviderPlus}
use Rattle.types.specs.Roles.{is_upstream}
use Rattle.rules.specs.Hops.{HopFunction, is_plus, is_not_plus, is_unattested, as_at}
use Rattle.fillings.specs.Fillings.{Outcome, valid, invalid, unknown, outcome, Filling, nobody, everybody, filled, admitted, Means, SameSets}
use Rattle.fillings.proofs.Blocking.{blocked, More, anywhere, blocked_more, ends, refused, admitted_is, outcome_is}

-- ---- a hop under a filling

abbrev pub filled_hop : Hop → Bool → Hop
filled_hop h b = cond (is_unattested h) (cond b (ProviderPlus Public 0) (NotProviderPlus Public)) h

-- Under everybody a hop ends a ramp where it is refused, and under nobody where it did.
under_everybody : (h : Hop) → not (is_plus (filled_hop h true)) ≡ is_not_plus h
under_everybody NoAttestation = refl
under_everybody (ProviderPlus o s) = refl
under_everybody (NotProviderPlus o) = refl

under_nobody : (h : Hop) → not (is_plus (filled_hop h false)) ≡ not (is_plus h)
under_nobody NoAttestation = refl
under_nobody (ProviderPlus o s) = refl
under_nobody (NotProviderPlus o) = refl

-- Under any it ends a ramp exactly where it is then refused.
pub under_any : (h : Hop) (b : Bool) → is_not_plus (filled_hop h b) ≡ not (is_plus (filled_hop h b))
under_any NoAttestation true = refl
under_any NoAttestation false = refl
under_any (ProviderPlus o s) b = refl
under_any (NotProviderPlus o) b = refl

-- It ends one under any filling if it is refused, and only if it ends one as it is.
refused_ends : (h : Hop) (b : Bool) → is_not_plus h ≡ true → not (is_plus (filled_hop h b)) ≡ true
refused_ends NoAttestation b e = absurd (true≢false (sym e))
refused_ends (ProviderPlus o s) b e = e
refused_ends (NotProviderPlus o) b e = refl

still_ends : (h : Hop) (b : Bool) → not (is_plus (filled_hop h b)) ≡ true → not (is_plus h) ≡ true
still_ends NoAttestation b e = refl
still_ends (ProviderPlus o s) b e = e
still_ends (NotProviderPlus o) b e = refl

-- ---- the outcomes

pub denied : (s t : Bool) → (s ≡ true → t ≡ true) → t ≡ false → s ≡ false
denied true t f e = sym (f refl) ∙ e
denied false t f e = refl

module _ (hop : HopFunction) (path : List ℕ) (role : ℕ) where
  for_everybody : admitted (filled hop everybody) path role ≡ not (blocked path (is_upstream role) (refused hop))
  for_everybody =
      admitted_is (filled hop everybody) path role ∙ λ i. not (blocked path (is_upstream role) (λ x y. under_everybody (hop x y) i))

  for_nobody : admitted (filled hop nobody) path role ≡ not (blocked path (is_upstream role) (ends hop))
  for_nobody = admitted_is (filled hop nobody) path role ∙ λ i. not (blocked path (is_upstream role) (λ x y. under_nobody (hop x y) i))

  pub two_fillings :
      outcome hop path role
      ≡ cond (admitted (filled hop everybody) path role) (cond (admitted (filled hop nobody) path role) valid unknown) invalid
  two_fillings =
      rw (outcome_is hop path role, for_everybody, for_nobody)
      (go (blocked path (is_upstream role) (refused hop)) (blocked path (is_upstream role) (ends hop)))
    where
      go : (s t : Bool) → cond s invalid (cond t unknown valid) ≡ cond (not s) (cond (not t) valid unknown) invalid
      go true t = refl
      go false true = refl
      go false false = refl

  module _ (f : Filling) where
    -- No filling admits a path that everybody does not, and each one admits what nobody does.
    most : blocked path (is_upstream role) (refused hop) ≡ true → admitted (filled hop f) path role ≡ false
    most e =
        admitted_is (filled hop f) path role
        ∙ ap not (blocked_more path (is_upstream role) (refused hop) (ends (filled hop f)) (anywhere path _ _ (λ x y. refused_ends (hop x y) (f x y))) e)

    least : blocked path (is_upstream role) (ends hop) ≡ false → admitted (filled hop f) path role ≡ true
    least e =
        admitted_is (filled hop f) path role
        ∙ ap not (denied _ _ (blocked_more path (is_upstream role) (ends (filled hop f)) (ends hop) (anywhere path _ _ (λ x y. still_ends (hop x y) (f x y)))) e)

    pub published : outcome (filled hop f) path role ≡ cond (admitted (filled hop f) path role) valid invalid
    published =
        rw (outcome_is (filled hop f) path role, admitted_is (filled hop f) path role, same) (go (blocked path (is_upstream role) (ends (filled hop f))))
      where
        same : blocked path (is_upstream role) (refused (filled hop f)) ≡ blocked path (is_upstream role) (ends (filled hop f))
        same = λ i. blocked path (is_upstream role) (λ x y. under_any (hop x y) (f x y) i)

        go : (t : Bool) → cond t invalid (cond t unknown valid) ≡ cond (not t) valid invalid
        go true = refl
        go false = refl

  -- What the outcome says holds.
  holds : Means (outcome hop path role) hop path role
  holds = rw (outcome_is hop path role) (go _ _ refl refl)
    where
      go : (s t : Bool) → blocked path (is_upstream role) (refused hop) ≡ s → blocked path (is_upstream role) (ends hop) ≡ t
          → Means (cond s invalid (cond t unknown valid)) hop path role
      go true t e g = λ f. most f e
      go false true e g = ((everybody, for_everybody ∙ ap not e), (nobody, for_nobody ∙ ap not g))
      go false false e g = λ f. least f g

  -- No two outcomes say the same.
  only : (o p : Outcome) → Means o hop path role → Means p hop path role → o ≡ p
  only valid valid m n = refl
  only valid invalid m n = absurd (true≢false (sym (m nobody) ∙ n nobody))
  only valid unknown m n = absurd (true≢false (sym (m n.1.0) ∙ n.1.1))
  only invalid valid m n = absurd (true≢false (sym (n nobody) ∙ m nobody))
  only invalid invalid m n = refl
  only invalid unknown m n = absurd (true≢false (sym n.0.1 ∙ m n.0.0))
  only unknown valid m n = absurd (true≢false (sym (n m.1.0) ∙ m.1.1))
  only unknown invalid m n = absurd (true≢false (sym m.0.1 ∙ n m.0.0))
  only unknown unknown m n = refl

  pub meaning : (o : Outcome) → (outcome hop path role ≡ o) ↔ Means o hop path role
  meaning o = (λ e. rw e at holds, λ m. only _ o holds m)

-- ---- what a filling is read by

read_more : (hop : HopFunction) (f g : Filling) (path : List ℕ) → SameSets f g path → More path (ends (filled hop f)) (ends (filled hop g))
read_more hop f g path same i a b = (
  λ e. sym (ap (λ t. not (is_plus (filled_hop (hop (as_at path i) (as_at path (i + 1))) t))) (same.upward i a b)) ∙ e,
  λ e. sym (ap (λ t. not (is_plus (filled_hop (hop (as_at path (i + 1)) (as_at path i)) t))) (same.downward i a b)) ∙ e,
)

flip_sets : {f g : Filling} {path : List ℕ} → SameSets f g path → SameSets g f path
flip_sets s = record { upward = λ i a b. sym (s.upward i a b); downward = λ i a b. sym (s.downward i a b) }

pub either_way : (s t : Bool) → (s ≡ true → t ≡ true) → (t ≡ true → s ≡ true) → s ≡ t
either_way true t f g = sym (f refl)
either_way false t f g = sym (denied t false g refl)

pub read_between : (hop : HopFunction) (f g : Filling) (path : List ℕ) → SameSets f g path → (role : ℕ)
    → admitted (filled hop f) path role ≡ admitted (filled hop g) path role
read_between hop f g path same role =
    admitted_is (filled hop f) path role
    ∙ ap not (either_way _ _
    (blocked_more path (is_upstream role) (ends (filled hop f)) (ends (filled hop g)) (read_more hop f g path same))
    (blocked_more path (is_upstream role) (ends (filled hop g)) (ends (filled hop f)) (read_more hop g f path (flip_sets same))))
    ∙ sym (admitted_is (filled hop g) path role)
