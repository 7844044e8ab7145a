-- A filling as records: with those that it comes to on a path, the path has the outcome that it has under the filling. Assumes nothing.
use Prim.Native.Nat.{ℕ, zero, suc, ◌+◌, ◌-◌, ◌≤◌, ◌<◌}
use mathlib.Core.Path.{◌≡◌, refl, sym, ap, ◌∙◌}
use mathlib.Core.Bool.{Bool, true, false, not, cond, ◌&&◌, ◌||◌, true≢false, or-true, or-false, and-true}
use mathlib.Core.List.{List, [], ◌∷◌, ◌++◌, map, append_assoc}
use native.Mathlib.Omega.{arith}
use borrow.Author.Tests.{eqb-true, eq-eqb, ne_eqb}
use lib.Dec.{eqb}
use lib.ListN.{length, get_or}
use Rattle.types.specs.declared.Hop.{Hop}
use Rattle.types.specs.declared.Hop.TheVariants.{NoAttestation, ProviderPlus, NotProviderPlus}
use Rattle.types.specs.Roles.{is_upstream}
use Rattle.rules.specs.Hops.{HopFunction, is_plus, is_unattested, as_at}
use Rattle.rules.specs.Records.{Record, is_in, attested, united, counting, hop_over}
use Rattle.providers.proofs.Seeking.{in_append}
use Rattle.register.proofs.Uniting.{none_united}
use Rattle.fillings.specs.Fillings.{valid, invalid, unknown, outcome, Filling, filled, admitted, those, new_records, MergedPath}
use Rattle.fillings.proofs.Blocking.{Hops, blocked, More, blocked_more, ends, refused, outcome_is}
use Rattle.fillings.proofs.Fillings.{filled_hop, under_any, either_way, published}
use Rattle.fillings.proofs.Staying.{numbered}
use Rattle.fillings.proofs.Records.{plus_is, not_plus_is, by_number}

-- ---- lists

in_those : (test : ℕ → Bool) (y : ℕ) (l : List ℕ) → is_in y (those test l) ≡ (test y && is_in y l)
unfolding is_in those
in_those test y [] = nothing (test y)
  where
    nothing : (b : Bool) → false ≡ (b && false)
    nothing true = refl
    nothing false = refl
in_those test y (x ∷ l) = go (test x) (eqb x y) refl refl (in_those test y l)
  where
    go : (b c : Bool) → test x ≡ b → eqb x y ≡ c → is_in y (those test l) ≡ (test y && is_in y l)
        → is_in y (cond b (x ∷ those test l) (those test l)) ≡ (test y && (c || is_in y l))
    go true true e f ih = rw (f, ap test (sym (eqb-true x y f)) ∙ e)
    go true false e f ih = rw f ih
    go false true e f ih =
        let z : test y ≡ false = ap test (sym (eqb-true x y f)) ∙ e in
        ih ∙ (λ i. z i && is_in y l) ∙ sym (λ i. z i && true)
    go false false e f ih = ih

in_at : (l : List ℕ) (i : ℕ) → i < length l → is_in (get_or l i 0) l ≡ true
unfolding is_in
in_at [] i h = absurd (omega arith)
in_at (x ∷ l) zero h = rw (eq-eqb x x refl)
in_at (x ∷ l) (suc i) h = rw (in_at l i (omega arith)) (or-true (eqb x (get_or l i 0)))

-- ---- records

attested_append : (a b : List Record) (x : ℕ) → attested (a ++ b) x ≡ (attested a x || attested b x)
unfolding attested
attested_append [] b x = refl
attested_append (r ∷ a) b x = ap (λ t. eqb r.customer x || t) (attested_append a b x) ∙ assoc (eqb r.customer x) (attested a x) (attested b x)
  where
    assoc : (s t u : Bool) → (s || (t || u)) ≡ ((s || t) || u)
    assoc true t u = refl
    assoc false t u = refl

united_append : (a b : List Record) (x : ℕ) → united (a ++ b) x ≡ united a x ++ united b x
unfolding united
united_append [] b x = refl
united_append (r ∷ a) b x = go (eqb r.customer x) (united_append a b x)
  where
    go : (c : Bool) → united (a ++ b) x ≡ united a x ++ united b x
        → cond c (r.providers ++ united (a ++ b) x) (united (a ++ b) x) ≡ cond c (r.providers ++ united a x) (united a x) ++ united b x
    go true ih = ap (λ l. r.providers ++ l) ih ∙ sym (append_assoc r.providers (united a x) (united b x))
    go false ih = ih

-- Records that are made one for each number of a list.
module _ (lists : ℕ → List ℕ) where
  abbrev made : ℕ → Record
  made x = record { customer = x; source = 0; providers = lists x }

  attested_made : (l : List ℕ) (x : ℕ) → attested (map made l) x ≡ is_in x l
  unfolding attested is_in
  attested_made [] x = refl
  attested_made (z ∷ l) x = ap (λ t. eqb z x || t) (attested_made l x)

  united_made : (l : List ℕ) (x y : ℕ) → is_in y (united (map made l) x) ≡ (is_in x l && is_in y (lists x))
  unfolding united is_in
  united_made [] x y = refl
  united_made (z ∷ l) x y = go (eqb z x) refl (united_made l x y)
    where
      both : (p t : Bool) → (p || (t && p)) ≡ p
      both true t = refl
      both false true = refl
      both false false = refl

      go : (c : Bool) → eqb z x ≡ c → is_in y (united (map made l) x) ≡ (is_in x l && is_in y (lists x))
          → is_in y (cond c (lists z ++ united (map made l) x) (united (map made l) x)) ≡ ((c || is_in x l) && is_in y (lists x))
      go true e ih =
          in_append y (lists z) (united (map made l) x)
          ∙ (λ i. is_in y (lists (eqb-true z x e i)) || ih i)
          ∙ both (is_in y (lists x)) (is_in x l)
      go false e ih = ih

-- ---- a hop under a filling

attested_stays : (h : Hop) (b : Bool) → is_unattested h ≡ false → is_plus (filled_hop h b) ≡ is_plus h
attested_stays NoAttestation b e = absurd (true≢false e)
attested_stays (ProviderPlus o s) b e = refl
attested_stays (NotProviderPlus o) b e = refl

unattested_filled : (h : Hop) (b : Bool) → is_unattested h ≡ true → is_plus (filled_hop h b) ≡ b
unattested_filled NoAttestation true e = refl
unattested_filled NoAttestation false e = refl
unattested_filled (ProviderPlus o s) b e = absurd (true≢false (sym e))
unattested_filled (NotProviderPlus o) b e = absurd (true≢false (sym e))

-- ---- the records of a filling

module _ (public overrides : List Record) (f : Filling) (path : List ℕ) where
  abbrev known : ℕ → Bool
  known x = attested public x || attested overrides x

  abbrev new : List Record
  new = new_records public overrides f path

  attested_new : (x : ℕ) → attested new x ≡ (not (known x) && is_in x path)
  attested_new x = attested_made (λ x. 0 ∷ those (f x) path) (those (λ x. not (known x)) path) x ∙ in_those (λ x. not (known x)) x path

  pub for_new : (x : ℕ) → known x ≡ true → attested new x ≡ false
  for_new x k = attested_new x ∙ ap (λ t. not t && is_in x path) k

  -- Between two numbers of the path, of which the second is not 0.
  module _ (x y : ℕ) (on : is_in x path ≡ true) (to : is_in y path ≡ true) (some : 1 ≤ y) where
    abbrev after : List Record
    after = counting (new ++ public) overrides x

    listed_new : known x ≡ false → is_in y (united new x) ≡ f x y
    unfolding is_in
    listed_new k =
        united_made (λ x. 0 ∷ those (f x) path) (those (λ x. not (known x)) path) x y
        ∙ (λ i. (in_those (λ x. not (known x)) x path ∙ (λ j. not (k j) && on j)) i && (zero_not i || (in_those (f x) y path ∙ ap (λ t. f x y && t) to) i))
        ∙ and-true (f x y)
      where
        zero_not : eqb 0 y ≡ false
        zero_not = ne_eqb 0 y (λ e. absurd (omega arith))

    -- What is told of x then: it has a record, and the providers that it has under the filling.
    told : (a b : Bool) → attested public x ≡ a → attested overrides x ≡ b
        → (attested after x ≡ true) × (is_in y (united after x) ≡ is_plus (filled (hop_over public overrides) f x y))
    unfolding is_in
    told a true e g =
        let known_is : known x ≡ true = (λ i. e i || g i) ∙ or-true a in
        let same : after ≡ overrides = ap (λ t. cond t overrides (new ++ public)) g in
        let before : counting public overrides x ≡ overrides = ap (λ t. cond t overrides public) g in (
          ap (λ rs. attested rs x) same ∙ g,
          ap (λ rs. is_in y (united rs x)) (same ∙ sym before)
              ∙ sym (plus_is public overrides x y) ∙ sym (attested_stays (hop_over public overrides x y) (f x y) (by_number public overrides x y ∙ ap not known_is)),
        )
    told true false e g =
        let known_is : known x ≡ true = λ i. e i || g i in
        let same : after ≡ new ++ public = ap (λ t. cond t overrides (new ++ public)) g in
        let before : counting public overrides x ≡ public = ap (λ t. cond t overrides public) g in (
          ap (λ rs. attested rs x) same ∙ attested_append new public x ∙ ap (λ t. attested new x || t) e ∙ or-true (attested new x),
          ap (λ rs. is_in y (united rs x)) same ∙ ap (is_in y) (united_append new public x)
              ∙ ap (λ l. is_in y (l ++ united public x)) (none_united x new (for_new x known_is))
              ∙ ap (λ rs. is_in y (united rs x)) (sym before)
              ∙ sym (plus_is public overrides x y) ∙ sym (attested_stays (hop_over public overrides x y) (f x y) (by_number public overrides x y ∙ ap not known_is)),
        )
    told false false e g =
        let known_not : known x ≡ false = λ i. e i || g i in
        let same : after ≡ new ++ public = ap (λ t. cond t overrides (new ++ public)) g in (
          ap (λ rs. attested rs x) same ∙ attested_append new public x
              ∙ ap (λ t. t || attested public x) (attested_new x ∙ (λ i. not (known_not i) && on i)),
          ap (λ rs. is_in y (united rs x)) same ∙ ap (is_in y) (united_append new public x)
              ∙ in_append y (united new x) (united public x)
              ∙ (λ i. listed_new known_not i || is_in y (none_united x public e i)) ∙ or-false (f x y)
              ∙ sym (unattested_filled (hop_over public overrides x y) (f x y) (by_number public overrides x y ∙ ap not known_not)),
        )

    abbrev hop_then : HopFunction
    hop_then = hop_over (new ++ public) overrides

    same_ends : ends hop_then x y ≡ ends (filled (hop_over public overrides) f) x y
    same_ends = ap not (plus_is (new ++ public) overrides x y ∙ (told (attested public x) (attested overrides x) refl refl).1)

    same_refused : refused hop_then x y ≡ ends (filled (hop_over public overrides) f) x y
    same_refused =
        not_plus_is (new ++ public) overrides x y
        ∙ (λ i. (told (attested public x) (attested overrides x) refl refl).0 i && not ((told (attested public x) (attested overrides x) refl refl).1 i))

  -- Neighbours on a merged path are such numbers.
  module _ (m : MergedPath path) where
    on_path : (i : ℕ) → 1 ≤ i → i ≤ length path → is_in (as_at path i) path ≡ true
    on_path i a b = in_at path (length path - i) (omega arith)

    -- Sets of hops that are the same between them block alike.
    same_blocked : (b : Bool) (s t : Hops) → ((x y : ℕ) → is_in x path ≡ true → is_in y path ≡ true → 1 ≤ y → s x y ≡ t x y) → blocked path b s ≡ blocked path b t
    same_blocked b s t same =
        either_way (blocked path b s) (blocked path b t) (blocked_more path b s t (more s t same))
        (blocked_more path b t s (more t s (λ x y h k o. sym (same x y h k o))))
      where
        more : (s t : Hops) → ((x y : ℕ) → is_in x path ≡ true → is_in y path ≡ true → 1 ≤ y → s x y ≡ t x y) → More path s t
        more s t same i a b =
            let h : is_in (as_at path i) path ≡ true = on_path i a (omega arith) in
            let k : is_in (as_at path (i + 1)) path ≡ true = on_path (i + 1) (omega arith) (omega arith) in (
              λ e. sym (same (as_at path i) (as_at path (i + 1)) h k (numbered path m (i + 1) (omega arith) (omega arith))) ∙ e,
              λ e. sym (same (as_at path (i + 1)) (as_at path i) k h (numbered path m i a (omega arith))) ∙ e,
            )

    pub realised : (role : ℕ) → outcome (hop_over (new ++ public) overrides) path role
        ≡ cond (admitted (filled (hop_over public overrides) f) path role) valid invalid
    realised role =
        outcome_is (hop_over (new ++ public) overrides) path role
        ∙ (λ i. cond (same_blocked (is_upstream role) (refused (hop_over (new ++ public) overrides)) (refused under) by_refused i) invalid
        (cond (same_blocked (is_upstream role) (ends (hop_over (new ++ public) overrides)) (ends under) same_ends i) unknown valid))
        ∙ sym (outcome_is under path role) ∙ published (hop_over public overrides) path role f
      where
        under : HopFunction
        under = filled (hop_over public overrides) f

        by_refused : (x y : ℕ) → is_in x path ≡ true → is_in y path ≡ true → 1 ≤ y → refused (hop_over (new ++ public) overrides) x y ≡ refused under x y
        by_refused x y h k o = same_refused x y h k o ∙ sym (under_any (hop_over public overrides x y) (f x y))
