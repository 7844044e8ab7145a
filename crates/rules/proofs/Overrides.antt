-- The laws of overrides, and of the registers that an Invalid names. Assumes nothing.
use Prim.Native.Nat.{ℕ, zero, suc, ◌+◌, ◌-◌, ◌≤◌}
use mathlib.Core.Path.{◌≡◌, refl, sym, ◌∙◌, ap}
use mathlib.Core.List.{List, [], ◌∷◌, ◌++◌}
use mathlib.Core.Bool.{Bool, true, false, cond, true≢false, ◌||◌, ◌&&◌}
use native.Mathlib.Omega.{arith}
use borrow.Author.Tests.{leb-true, eqb-true, ne_eqb}
use lib.Dec.{eqb, leb}
use lib.ListN.{length}
use lib.Signed.{le_z}
use lib.IntN.{pos}
use Rattle.types.specs.declared.Origin.{Origin}
use Rattle.types.specs.declared.Origin.TheVariants.{Public, Overrides}
use Rattle.types.specs.declared.Origins.{Origins}
use Rattle.types.specs.declared.Origins.TheVariants.{One, Two}
use Rattle.types.specs.declared.Hop.{Hop}
use Rattle.types.specs.declared.Hop.TheVariants.{NoAttestation, ProviderPlus, NotProviderPlus}
use Rattle.types.specs.declared.Cause.TheVariants.{ByHops}
use Rattle.types.specs.declared.Verdict.TheVariants.{Valid, Invalid, Unknown}
use Rattle.types.proofs.Clashes.{clash}
use Rattle.rules.specs.Hops.{HopFunction, is_plus, is_not_plus, is_unattested, origin_of, as_at, up, down, lowest, highest, climb, descend}
use Rattle.rules.specs.Records.{Record, is_in, attested, united, list_of, lowest_source, hop_of, hop_over}
use Rattle.rules.specs.Verdicts.{lowest_not_plus, lowest_unattested, highest_not_plus, ramp_up, ramp_down, gap_of, up_cause, down_cause, upstream, downstream, judged}
use Rattle.rules.specs.Judging.{judged_route}
use Rattle.rules.specs.Laws.{Lowest, Highest}
use Rattle.rules.specs.Overrides.{without_customer, hop_before, OverrideLaws, NamedUp, NamedBoth, OriginLaws}
use Rattle.rules.proofs.Searching.{lowest_is, highest_is}
use Rattle.rules.proofs.Locality.{same_judged, same_route}

-- ---- the records of another customer

module _ (x z : ℕ) (other : z ≡ x → ⊥) where
  -- Leaving out x's records changes nothing that is said of z.
  others : (rs : List Record) → (attested (without_customer x rs) z ≡ attested rs z) × (united (without_customer x rs) z ≡ united rs z)
      × ((source : ℕ) → list_of (without_customer x rs) source z ≡ list_of rs source z)
  unfolding without_customer attested united list_of
  others [] = (refl, refl, λ source. refl)
  others (r ∷ rs) = go (eqb r.customer x) refl (others rs)
    where
      Same : List Record → Type 0
      Same l = (attested l z ≡ attested (r ∷ rs) z) × (united l z ≡ united (r ∷ rs) z) × ((source : ℕ) → list_of l source z ≡ list_of (r ∷ rs) source z)

      go : (b : Bool) → eqb r.customer x ≡ b
          → (attested (without_customer x rs) z ≡ attested rs z) × (united (without_customer x rs) z ≡ united rs z)
          × ((source : ℕ) → list_of (without_customer x rs) source z ≡ list_of rs source z)
          → Same (cond b (without_customer x rs) (r ∷ without_customer x rs))
      go true e ih =
          let n : eqb r.customer z ≡ false = ne_eqb r.customer z (λ q. other (sym q ∙ eqb-true _ _ e)) in
          (rw n ih.0, rw n ih.1, λ source. rw n (ih.2 source))
      go false e ih = (
        ap (λ b. eqb r.customer z || b) ih.0,
        ap (λ l. cond (eqb r.customer z) (r.providers ++ l) l) ih.1,
        λ source. ap (λ l. cond (eqb r.customer z && eqb r.source source) r.providers l) (ih.2 source),
      )

  other_hop : (o : Origin) (rs : List Record) → hop_of o rs z ≡ hop_of o (without_customer x rs) z
  unfolding hop_of
  other_hop o rs =
      let e = others rs in
      sym (λ i y. cond (e.0 i) (cond (is_in y (e.1 i)) (ProviderPlus o (lowest (λ source. is_in y (e.2 source i)) 0 8)) (NotProviderPlus o)) NoAttestation)

-- ---- overrides

hidden_hops : (public overrides : List Record) (x : ℕ) → attested overrides x ≡ true → hop_over public overrides ≡ hop_over (without_customer x public) overrides
unfolding hop_over
hidden_hops public overrides x h = λ i z. by_override z i
  where
    by_test : (z : ℕ) (b : Bool) → attested overrides z ≡ b
        → hop_of (cond b Overrides Public) (cond b overrides public) z ≡ hop_of (cond b Overrides Public) (cond b overrides (without_customer x public)) z
    by_test z true e = refl
    by_test z false e = other_hop x z (λ q. true≢false (sym h ∙ ap (attested overrides) (sym q) ∙ e)) Public public

    by_override : (z : ℕ) → hop_over public overrides z ≡ hop_over (without_customer x public) overrides z
    by_override z = by_test z (attested overrides z) refl

none_hops : (public : List Record) → hop_over public [] ≡ hop_of Public public
unfolding hop_over attested
none_hops public = refl

bare_hops : (public overrides : List Record) (x : ℕ) → attested overrides x ≡ false → hop_over public overrides x ≡ hop_over public [] x
unfolding hop_over attested
bare_hops public overrides x e = rw e

bare_verdict : (public overrides : List Record) (path : List ℕ) → ((i : ℕ) → 1 ≤ i → i ≤ length path → attested overrides (as_at path i) ≡ false) → (role : ℕ)
    → judged (hop_over public overrides) path role ≡ judged (hop_over public []) path role
bare_verdict public overrides path bare =
    same_judged (record {
      upward = λ i a b. ap (λ f. f (as_at path (i + 1))) (bare_hops public overrides (as_at path i) (bare i a (omega arith)));
      downward = λ i a b. ap (λ f. f (as_at path i)) (bare_hops public overrides (as_at path (i + 1)) (bare (i + 1) (omega arith) (omega arith)));
    })

-- ---- no verdict reads a source

-- A hop without its source.
abbrev sourceless : Hop → Hop
sourceless NoAttestation = NoAttestation
sourceless (ProviderPlus o s) = ProviderPlus o 0
sourceless (NotProviderPlus o) = NotProviderPlus o

same_plus : (h : Hop) → is_plus (sourceless h) ≡ is_plus h
same_plus NoAttestation = refl
same_plus (ProviderPlus o s) = refl
same_plus (NotProviderPlus o) = refl

same_not : (h : Hop) → is_not_plus (sourceless h) ≡ is_not_plus h
same_not NoAttestation = refl
same_not (ProviderPlus o s) = refl
same_not (NotProviderPlus o) = refl

same_none : (h : Hop) → is_unattested (sourceless h) ≡ is_unattested h
same_none NoAttestation = refl
same_none (ProviderPlus o s) = refl
same_none (NotProviderPlus o) = refl

same-origin : (h : Hop) → origin_of (sourceless h) ≡ origin_of h
same-origin NoAttestation = refl
same-origin (ProviderPlus o s) = refl
same-origin (NotProviderPlus o) = refl

module _ (hop : HopFunction) (path : List ℕ) where
  abbrev bare : HopFunction
  bare x y = sourceless (hop x y)

  same_climb : (k n : ℕ) → climb bare path k n ≡ climb hop path k n
  unfolding climb
  same_climb k zero = refl
  same_climb k (suc n) = λ i. cond (same_plus (up hop path (k + 1)) i) (same_climb (k + 1) n i) k

  same_descend : (n : ℕ) → descend bare path n ≡ descend hop path n
  unfolding descend
  same_descend zero = refl
  same_descend (suc n) = λ i. cond (same_plus (down hop path (n + 1)) i) (same_descend n i) (n + 2)

  same_u : lowest_not_plus bare path ≡ lowest_not_plus hop path
  same_u = λ i. lowest (λ u. same_not (up hop path u) i) 2 (length path - 1)

  same_a : lowest_unattested bare path ≡ lowest_unattested hop path
  same_a = λ i. lowest (λ u. same_none (up hop path u) i) 2 (length path - 1)

  same_v : highest_not_plus bare path ≡ highest_not_plus hop path
  same_v = λ i. highest (λ v. same_not (down hop path v) i) 1 (length path - 1)

  -- No answer reads the source of a hop.
  pub source_unread : (role : ℕ) → judged bare path role ≡ judged hop path role
  unfolding judged upstream downstream
  source_unread role =
      rw (
        same_u,
        same_a,
        same_v,
        same_climb 1 (length path - 1),
        same_descend (length path - 1),
        same-origin (up hop path (lowest_not_plus hop path)),
        same-origin (down hop path (highest_not_plus hop path)),
      )

-- The hops of before are those of the public register without a source.
before_is : (rs : List Record) → hop_before rs ≡ (λ x y. sourceless (hop_of Public rs x y))
unfolding hop_of
before_is rs = λ i x y. go x y (attested rs x) (is_in y (united rs x)) i
  where
    go : (x y : ℕ) (a b : Bool) → cond a (cond b (ProviderPlus Public 0) (NotProviderPlus Public)) NoAttestation
        ≡ sourceless (cond a (cond b (ProviderPlus Public (lowest_source rs x y)) (NotProviderPlus Public)) NoAttestation)
    go x y true true = refl
    go x y true false = refl
    go x y false b = refl

as_before : (public : List Record) (role neighbour : ℕ) (attribute : List ℕ)
    → judged_route (hop_over public []) role neighbour attribute ≡ judged_route (hop_before public) role neighbour attribute
as_before public role neighbour attribute =
    same_route (hop_over public []) (hop_before public) role neighbour attribute
    (λ path c. ap (λ hop. judged hop path role) (none_hops public) ∙ sym (source_unread (hop_of Public public) path role)
    ∙ ap (λ hop. judged hop path role) (sym (before_is public)))

pub override_laws : OverrideLaws
override_laws =
    record {
      hidden_hops = hidden_hops;
      hidden_verdict = λ public overrides x h role neighbour attribute.
          ap (λ hop. judged_route hop role neighbour attribute) (hidden_hops public overrides x h);
      bare_hops = bare_hops;
      bare_verdict = bare_verdict;
      none_hops = none_hops;
      as_before = as_before;
    }

-- ---- the registers that are named

-- A hop that is Not Provider+ is so by its register.
not_plus : (h : Hop) → is_not_plus h ≡ true → h ≡ NotProviderPlus (origin_of h)
not_plus NoAttestation e = absurd (true≢false (sym e))
not_plus (ProviderPlus o s) e = absurd (true≢false (sym e))
not_plus (NotProviderPlus o) e = refl

module _ (hop : HopFunction) (path : List ℕ) (a b : ℕ) (named : Origins) where
  u_is : Lowest (λ u. is_not_plus (up hop path u)) 2 (length path - 1) (lowest_not_plus hop path)
  u_is = lowest_is _ 2 (length path - 1)

  v_is : Highest (λ v. is_not_plus (down hop path v)) 1 (length path - 1) (highest_not_plus hop path)
  v_is = highest_is _ 1 (length path - 1) (omega arith)

  up_named : upstream hop path ≡ Invalid (ByHops a b named) → NamedUp hop path a b named
  unfolding upstream
  up_named = go (leb (lowest_not_plus hop path) (length path)) refl (leb (lowest_unattested hop path) (length path))
    where
      go : (s : Bool) → leb (lowest_not_plus hop path) (length path) ≡ s → (t : Bool)
          → cond s (Invalid (up_cause hop path (lowest_not_plus hop path))) (cond t (Unknown (lowest_unattested hop path) 0) Valid) ≡ Invalid (ByHops a b named)
          → NamedUp hop path a b named
      go true e t h =
          let l : lowest_not_plus hop path ≤ length path = leb-true _ _ e in
          let p : lowest_not_plus hop path ≡ a = cc in
          let q : 0 ≡ b = cc in
          let r : One (origin_of (up hop path (lowest_not_plus hop path))) ≡ named = cc in
          let n : up hop path (lowest_not_plus hop path) ≡ NotProviderPlus (origin_of (up hop path (lowest_not_plus hop path)))
          = not_plus _ (u_is.passes (omega (arith, u_is.low))) in
          record { origin = origin_of (up hop path (lowest_not_plus hop path)); is = sym r; upward = ap (up hop path) (sym p) ∙ n; no_other = sym q }
      go false e true h = clash (cc)
      go false e false h = clash (cc)

  down_named : downstream hop path ≡ Invalid (ByHops a b named) → NamedBoth hop path a b named
  unfolding downstream
  down_named = go (leb (lowest_not_plus hop path) (highest_not_plus hop path)) refl (le_z (gap_of hop path) (pos 1))
    where
      go : (s : Bool) → leb (lowest_not_plus hop path) (highest_not_plus hop path) ≡ s → (t : Bool)
          → cond s (Invalid (down_cause hop path (lowest_not_plus hop path) (highest_not_plus hop path))) (cond t Valid (Unknown (ramp_up hop path) (ramp_down hop path)))
          ≡ Invalid (ByHops a b named)
          → NamedBoth hop path a b named
      go true e t h =
          let l : lowest_not_plus hop path ≤ highest_not_plus hop path = leb-true _ _ e in
          let p : lowest_not_plus hop path ≡ a = cc in
          let q : highest_not_plus hop path ≡ b = cc in
          let r : Two (origin_of (up hop path (lowest_not_plus hop path))) (origin_of (down hop path (highest_not_plus hop path))) ≡ named = cc in
          record {
            first = origin_of (up hop path (lowest_not_plus hop path));
            second = origin_of (down hop path (highest_not_plus hop path));
            is = sym r;
            upward = ap (up hop path) (sym p) ∙ not_plus _ (u_is.passes (omega (arith, u_is.low, v_is.high)));
            downward = ap (down hop path) (sym q) ∙ not_plus _ (v_is.passes (omega (arith, u_is.low)));
          }
      go false e true h = clash (cc)
      go false e false h = clash (cc)

pub origin_laws : OriginLaws
origin_laws = record { up_named = up_named; down_named = down_named }
