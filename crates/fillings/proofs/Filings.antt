-- Which records that are put into a register leave Valid, or Invalid, on every path. Assumes nothing.
use Prim.Native.Nat.{ℕ, ◌≤◌}
use mathlib.Core.Path.{◌≡◌, refl, sym, ap, ◌∙◌, subst}
use mathlib.Core.Bool.{Bool, true, false, not, cond, ◌&&◌, ◌||◌, true≢false}
use mathlib.Core.List.{List}
use borrow.Author.Tests.{eqb-true}
use lib.Dec.{eqb}
use Rattle.types.specs.declared.Origin.{Origin}
use Rattle.types.specs.declared.Origin.TheVariants.{Public, Overrides}
use Rattle.rules.specs.Hops.{HopFunction}
use Rattle.rules.specs.Records.{Record, is_in, attested, united, list_of, counting, hop_over}
use Rattle.register.specs.Calls.{put_record}
use Rattle.register.proofs.Uniting.{none_united}
use Rattle.fillings.specs.Fillings.{valid, invalid, Stays}
use Rattle.fillings.specs.Calls.{AllIn}
use Rattle.fillings.proofs.Fillings.{denied}
use Rattle.fillings.proofs.Staying.{valid_stays, invalid_stays}
use Rattle.fillings.proofs.Records.{plus_is, not_plus_is}
use Rattle.fillings.proofs.Putting.{put_other, put_attests, put_lists, put_loses, put_gains}

-- ---- the lists that count

-- What two registers tell of x: whether it is attested, and its providers.
abbrev attests : List Record → List Record → ℕ → Bool
attests p d x = attested (counting p d x) x

abbrev providers : List Record → List Record → ℕ → List ℕ
providers p d x = united (counting p d x) x

module _ (p d p' d' : List Record) where
  pub valid_by_lists : ((x : ℕ) → AllIn (providers p d x) (providers p' d' x)) → Stays valid (hop_over p d) (hop_over p' d')
  valid_by_lists more = (valid_stays (hop_over p d) (hop_over p' d')).1 (λ x y a b n. rw (plus_is p d x y, plus_is p' d' x y) (more x y b))

  pub invalid_by_lists : ((x : ℕ) → attests p d x ≡ true → (attests p' d' x ≡ true) × AllIn (providers p' d' x) (providers p d x))
      → Stays invalid (hop_over p d) (hop_over p' d')
  invalid_by_lists fewer =
      (invalid_stays (hop_over p d) (hop_over p' d')).1
      (λ x y a b n. rw (not_plus_is p d x y, not_plus_is p' d' x y) (both (attests p d x) _ _ _ (λ h. ((fewer x h).0, (fewer x h).1 y b))))
    where
      both : (a i a' i' : Bool) → (a ≡ true → (a' ≡ true) × (i' ≡ true → i ≡ true)) → (a && not i) ≡ true → (a' && not i') ≡ true
      both true true a' i' f e = absurd (true≢false (sym e))
      both true false a' i' f e = rw ((f refl).0, denied i' false (f refl).1 refl)
      both false i a' i' f e = absurd (true≢false (sym e))

-- ---- a record put into one of two registers

module _ (r : Record) (p d : List Record) where
  abbrev pub records_in : Origin → List Record
  records_in Public = p
  records_in Overrides = d

  abbrev pub public_after : Origin → List Record
  public_after Public = put_record r p
  public_after Overrides = p

  abbrev pub overrides_after : Origin → List Record
  overrides_after Public = d
  overrides_after Overrides = put_record r d

  -- Of other customers the same is told.
  others : (o : Origin) (x : ℕ) → eqb r.customer x ≡ false
      → (attests (public_after o) (overrides_after o) x ≡ attests p d x) × (providers (public_after o) (overrides_after o) x ≡ providers p d x)
  others Public x n = go (attested d x)
    where
      go : (b : Bool) → (attested (cond b d (put_record r p)) x ≡ attested (cond b d p) x) × (united (cond b d (put_record r p)) x ≡ united (cond b d p) x)
      go true = (refl, refl)
      go false = put_other r x n p
  others Overrides x n = rw (put_other r x n d).0 (go (attested d x))
    where
      go : (b : Bool) → (attested (cond b (put_record r d) p) x ≡ attested (cond b d p) x) × (united (cond b (put_record r d) p) x ≡ united (cond b d p) x)
      go true = put_other r x n d
      go false = (refl, refl)

  -- For its own customer: the register does not count; it counts before and after; or it counts from now on.
  data Change (o : Origin) : Type 0 where
    hidden : counting (public_after o) (overrides_after o) r.customer ≡ counting p d r.customer → Change o
    own : counting p d r.customer ≡ records_in o → counting (public_after o) (overrides_after o) r.customer ≡ put_record r (records_in o) → Change o
    first : attested (records_in o) r.customer ≡ false
        → counting (public_after o) (overrides_after o) r.customer ≡ put_record r (records_in o) → Change o

  change : (o : Origin) → Change o
  change Public = go (attested d r.customer) refl
    where
      go : (b : Bool) → attested d r.customer ≡ b → Change Public
      go true e = hidden (rw e)
      go false e = own (rw e) (rw e)
  change Overrides = go (attested d r.customer) refl
    where
      go : (b : Bool) → attested d r.customer ≡ b → Change Overrides
      go true e = own (rw e) (rw (put_attests r d))
      go false e = first e (rw (put_attests r d))

  -- What is in the united lists of some records is in those of the same.
  united_same : (y : ℕ) {rs ss : List Record} → rs ≡ ss → is_in y (united ss r.customer) ≡ true → is_in y (united rs r.customer) ≡ true
  united_same y e h = ap (λ rs. is_in y (united rs r.customer)) e ∙ h

  -- An attested customer stays attested.
  still : (o : Origin) → attests p d r.customer ≡ true → attests (public_after o) (overrides_after o) r.customer ≡ true
  still o = go (change o)
    where
      go : Change o → attests p d r.customer ≡ true → attests (public_after o) (overrides_after o) r.customer ≡ true
      go (hidden e) h = ap (λ rs. attested rs r.customer) e ∙ h
      go (own e f) h = ap (λ rs. attested rs r.customer) f ∙ put_attests r (records_in o)
      go (first e f) h = ap (λ rs. attested rs r.customer) f ∙ put_attests r (records_in o)

  module _ (o : Origin) where
    abbrev pub hop_after : HopFunction
    hop_after = hop_over (public_after o) (overrides_after o)

    abbrev before : List ℕ
    before = providers p d r.customer

    abbrev after : List ℕ
    after = providers (public_after o) (overrides_after o) r.customer

    valid_if : AllIn before after → Stays valid (hop_over p d) hop_after
    valid_if more = valid_by_lists p d (public_after o) (overrides_after o) (λ x. go x (eqb r.customer x) refl)
      where
        go : (x : ℕ) (b : Bool) → eqb r.customer x ≡ b → AllIn (providers p d x) (providers (public_after o) (overrides_after o) x)
        go x true e = subst (λ x. AllIn (providers p d x) (providers (public_after o) (overrides_after o) x)) (eqb-true r.customer x e) more
        go x false e = λ y b. rw (others o x e).1 (λ h. h)

    invalid_if : (attests p d r.customer ≡ true → AllIn after before) → Stays invalid (hop_over p d) hop_after
    invalid_if fewer = invalid_by_lists p d (public_after o) (overrides_after o) (λ x. go x (eqb r.customer x) refl)
      where
        Fewer : ℕ → Type 0
        Fewer x =
            attests p d x ≡ true
            → (attests (public_after o) (overrides_after o) x ≡ true) × AllIn (providers (public_after o) (overrides_after o) x) (providers p d x)

        go : (x : ℕ) (b : Bool) → eqb r.customer x ≡ b → Fewer x
        go x true e = subst Fewer (eqb-true r.customer x e) (λ a. (still o a, fewer a))
        go x false e = λ a. ((others o x e).0 ∙ a, λ y b. rw (others o x e).1 (λ h. h))

    pub all_listed : AllIn before r.providers → Stays valid (hop_over p d) hop_after
    all_listed more = valid_if (go (change o))
      where
        go : Change o → AllIn before after
        go (hidden e) y b h = united_same y e h
        go (own e f) y b h = united_same y f (put_lists r y (records_in o) (more y b h))
        go (first e f) y b h = united_same y f (put_lists r y (records_in o) (more y b h))

    pub longer_list : attested (records_in o) r.customer ≡ true → AllIn (list_of (records_in o) r.source r.customer) r.providers
        → Stays valid (hop_over p d) hop_after
    longer_list a more = valid_if (go (change o))
      where
        -- In the source's own list, or in another that stays.
        either : (y : ℕ) → 1 ≤ y → (s t : Bool) → is_in y (list_of (records_in o) r.source r.customer) ≡ s
            → is_in y (united (put_record r (records_in o)) r.customer) ≡ t → (s || t) ≡ true → is_in y (united (put_record r (records_in o)) r.customer) ≡ true
        either y b true t e f h = put_lists r y (records_in o) (more y b e)
        either y b false t e f h = f ∙ h

        go : Change o → AllIn before after
        go (hidden e) y b h = united_same y e h
        go (own e f) y b h = united_same y f (either y b _ _ refl refl (put_loses r y (records_in o) (united_same y (sym e) h)))
        go (first e f) y b h = absurd (true≢false (sym a ∙ e))

    -- What is listed in the register then was there before, or is new.
    gained : (y : ℕ) → is_in y (united (put_record r (records_in o)) r.customer) ≡ true
        → (is_in y r.providers ≡ true → is_in y (united (records_in o) r.customer) ≡ true) → is_in y (united (records_in o) r.customer) ≡ true
    gained y h k = go (is_in y r.providers) refl (put_gains r y (records_in o) h)
      where
        go : (s : Bool) → is_in y r.providers ≡ s → (s || is_in y (united (records_in o) r.customer)) ≡ true
            → is_in y (united (records_in o) r.customer) ≡ true
        go true e g = k e
        go false e g = g

    -- Where the customer has no record there, nothing is.
    none_there : (y : ℕ) → attested (records_in o) r.customer ≡ false → is_in y (united (records_in o) r.customer) ≡ false
    unfolding is_in
    none_there y e = rw (none_united r.customer (records_in o) e)

    pub shorter_list : AllIn r.providers (united (records_in o) r.customer) → Stays invalid (hop_over p d) hop_after
    shorter_list fewer = invalid_if (λ a. go (change o))
      where
        go : Change o → AllIn after before
        go (hidden e) y b h = united_same y (sym e) h
        go (own e f) y b h = united_same y e (gained y (united_same y (sym f) h) (fewer y b))
        go (first e f) y b h = absurd (true≢false (sym (gained y (united_same y (sym f) h) (fewer y b)) ∙ none_there y e))

    pub none_new : AllIn r.providers before → Stays invalid (hop_over p d) hop_after
    none_new fewer = invalid_if (λ a. go (change o))
      where
        go : Change o → AllIn after before
        go (hidden e) y b h = united_same y (sym e) h
        go (own e f) y b h = united_same y e (gained y (united_same y (sym f) h) (λ k. united_same y (sym e) (fewer y b k)))
        go (first e f) y b h = by_new (is_in y r.providers) refl (put_gains r y (records_in o) (united_same y (sym f) h))
          where
            by_new : (s : Bool) → is_in y r.providers ≡ s → (s || is_in y (united (records_in o) r.customer)) ≡ true → is_in y before ≡ true
            by_new true k g = fewer y b k
            by_new false k g = absurd (true≢false (sym g ∙ none_there y e))

    -- Where neither register has a record of the customer, nothing was attested.
    pub new_record : attests p d r.customer ≡ false → Stays valid (hop_over p d) hop_after × Stays invalid (hop_over p d) hop_after
    unfolding is_in
    new_record none = (
      valid_if (λ y b h. absurd (true≢false (sym h ∙ ap (is_in y) (none_united r.customer (counting p d r.customer) none)))),
      invalid_if (λ a. absurd (true≢false (sym a ∙ none))),
    )
