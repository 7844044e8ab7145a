-- The hops over the registers' records are those over the union of the filed lists. Assumes nothing.
use Prim.Native.Nat.{ℕ, zero, suc, ◌+◌, ◌≤◌, ◌<◌}
use mathlib.Core.Path.{◌≡◌, refl, sym, ap, ◌∙◌}
use mathlib.Core.Bool.{Bool, true, false, cond, ◌&&◌, ◌||◌, and-true}
use mathlib.Core.List.{List, [], ◌∷◌, ◌++◌}
use native.Mathlib.Omega.{arith}
use borrow.Author.Tests.{leb-true, eqb-true, eqb-false, ne_eqb}
use lib.Dec.{eqb, ltb, leb}
use Rattle.types.specs.declared.Origin.{Origin}
use Rattle.types.specs.declared.Origin.TheVariants.{Public, Overrides}
use Rattle.types.specs.declared.Hop.TheVariants.{NoAttestation, ProviderPlus, NotProviderPlus}
use Rattle.keyed.specs.Keyed.{same_pair, before_pair, every, ascends_from, ascends, find}
use Rattle.keyed.proofs.Orders.{ordered_pairs, ordered_ℕ, same_flip, both_left, both_right}
use Rattle.keyed.proofs.Ranks.{from_ascends}
use Rattle.keyed.proofs.Finds.{none_from}
use Rattle.rules.specs.Draft as draft
use Rattle.rules.specs.Hops.{lowest}
use Rattle.rules.specs.Records.{Record, is_in, attested, united, list_of, lowest_source, counting, hop_of, hop_over}
use Rattle.rules.proofs.Searching.{lowest_same}
use Rattle.register.specs.Register.{last_source, key_of, record_ok, records_ok}
use Rattle.register.proofs.Holding.{each_ok, in-order}
use Rattle.providers.proofs.Seeking.{in_append}
use Rattle.history.specs.Calls.{find_record, providers_of}
use Rattle.history.specs.Filings.{FiledLists, is_filed, is_listed, hop_filed, hop_filed_over, list_if_any, list_filed_over}
use Rattle.std.specs.Prelude.{None, Option, Some}

-- ---- tests over a range

-- Tests that agree over a range.
some_same : (f g : ℕ → Bool) (i n : ℕ) → ((s : ℕ) → i ≤ s → f s ≡ g s) → draft.some f i n ≡ draft.some g i n
unfolding draft.some
some_same f g i zero h = refl
some_same f g i (suc n) h = rw (h i (omega arith), some_same f g (i + 1) n (λ s p. h s (omega arith)))

-- Tests that agree but at q, where the first fails.
some_but : (f g : ℕ → Bool) (q i n : ℕ) → i ≤ q → q < i + n → f q ≡ false → ((s : ℕ) → (s ≡ q → ⊥) → g s ≡ f s)
    → draft.some g i n ≡ (g q || draft.some f i n)
unfolding draft.some
some_but f g q i zero a b h k = absurd (omega arith)
some_but f g q i (suc n) a b h k = go (eqb i q) refl (some_but f g q (i + 1) n)
  where
    swap : (x y z : Bool) → (x || (y || z)) ≡ (y || (x || z))
    swap true true z = refl
    swap true false z = refl
    swap false y z = refl

    go : (t : Bool) → eqb i q ≡ t
        → (i + 1 ≤ q → q < i + 1 + n → f q ≡ false → ((s : ℕ) → (s ≡ q → ⊥) → g s ≡ f s) → draft.some g (i + 1) n ≡ (g q || draft.some f (i + 1) n))
        → (g i || draft.some g (i + 1) n) ≡ (g q || (f i || draft.some f (i + 1) n))
    go true e ih =
        let z : i ≡ q = eqb-true i q e in
        rw (z, h) (ap (λ t. g q || t) (some_same g f (q + 1) n (λ s p. k s (λ y. absurd (omega arith)))))
    go false e ih =
        let z : i ≡ q → ⊥ = eqb-false i q e in
        let le : i + 1 ≤ q = above i q a z in
        rw (k i z, ih le (omega arith) h k) (swap (f i) (g q) (draft.some f (i + 1) n))
      where
        above : (i q : ℕ) → i ≤ q → (i ≡ q → ⊥) → i + 1 ≤ q
        above i q a z = omega arith

-- ---- a test of the lists of all sources

module _ (test : Option (List ℕ) → Bool) (fails : test None ≡ false) (x : ℕ) where
  -- Some source's list for x passes.
  unfoldable some_list : List Record → Bool
  some_list rs = draft.some (λ s. test (providers_of (find_record (x, s) rs))) 0 8

  -- One record more.
  some_more : (r : Record) (rs : List Record) → record_ok r ≡ true → ascends_from key_of same_pair before_pair (key_of r) rs ≡ true
      → some_list (r ∷ rs) ≡ ((eqb r.customer x && test (Some r.providers)) || some_list rs)
  unfolding some_list find record_ok
  some_more r rs ok a = go (eqb r.customer x) refl
    where
      low : r.source ≤ last_source
      low = leb-true _ _ (both_left _ _ (both_right (leb 1 r.customer) _ ok))

      f : ℕ → Bool
      f s = test (providers_of (find_record (x, s) rs))

      g : ℕ → Bool
      g s = test (providers_of (cond (eqb x r.customer && eqb s r.source) (Some r) (find_record (x, s) rs)))

      go : (b : Bool) → eqb r.customer x ≡ b → draft.some g 0 8 ≡ ((b && test (Some r.providers)) || draft.some f 0 8)
      go false e = some_same g f 0 8 (λ s p. rw (same_flip eqb ltb ordered_ℕ x r.customer, e))
      go true e =
          let z : r.customer ≡ x = eqb-true _ _ e in
          let gone : f r.source ≡ false = rw (← z) (ap (λ o. test (providers_of o)) (none_from key_of same_pair before_pair ordered_pairs (key_of r) rs a) ∙ fails) in
          let here : g r.source ≡ test (Some r.providers) = rw (← z, ordered_ℕ.same_self r.customer, ordered_ℕ.same_self r.source) in
          some_but f g r.source 0 8 (omega arith) (omega (arith, low)) gone
          (λ s n. rw (← z, ordered_ℕ.same_self r.customer, ne_eqb s r.source n)) ∙ ap (λ b. b || draft.some f 0 8) here

module _ (x : ℕ) where
  -- Attested: some source has a list.
  attested_filed : (rs : List Record) → every record_ok rs ≡ true → ascends key_of same_pair before_pair rs ≡ true
      → attested rs x ≡ some_list is_filed refl x rs
  unfolding attested every ascends some_list find draft.some
  attested_filed [] e a = refl
  attested_filed (r ∷ rs) e a =
      ap (λ b. eqb r.customer x || b)
      (attested_filed rs (both_right (record_ok r) _ e) (from_ascends key_of same_pair before_pair ordered_pairs (key_of r) rs a))
      ∙ ap (λ b. b || some_list is_filed refl x rs) (sym (and-true (eqb r.customer x)))
      ∙ sym (some_more is_filed refl x r rs (both_left (record_ok r) _ e) a)

  -- In the united list: in that of some source.
  united_filed : (y : ℕ) (rs : List Record) → every record_ok rs ≡ true → ascends key_of same_pair before_pair rs ≡ true
      → is_in y (united rs x) ≡ some_list (is_listed y) refl x rs
  unfolding united is_in every ascends some_list find draft.some
  united_filed y [] e a = refl
  united_filed y (r ∷ rs) e a =
      go (eqb r.customer x)
      (united_filed y rs (both_right (record_ok r) _ e) (from_ascends key_of same_pair before_pair ordered_pairs (key_of r) rs a))
      ∙ sym (some_more (is_listed y) refl x r rs (both_left (record_ok r) _ e) a)
    where
      go : (b : Bool) → is_in y (united rs x) ≡ some_list (is_listed y) refl x rs
          → is_in y (cond b (r.providers ++ united rs x) (united rs x)) ≡ ((b && is_in y r.providers) || some_list (is_listed y) refl x rs)
      go true ih = in_append y r.providers (united rs x) ∙ ap (λ b. is_in y r.providers || b) ih
      go false ih = ih

  -- The list of a source.
  list_filed : (s : ℕ) (rs : List Record) → list_of rs s x ≡ list_if_any (providers_of (find_record (x, s) rs))
  unfolding list_of find
  list_filed s [] = refl
  list_filed s (r ∷ rs) = rw (same_flip same_pair before_pair ordered_pairs (x, s) (key_of r)) (go (same_pair (key_of r) (x, s)) (list_filed s rs))
    where
      go : (b : Bool) → list_of rs s x ≡ list_if_any (providers_of (find_record (x, s) rs))
          → cond b r.providers (list_of rs s x) ≡ list_if_any (providers_of (cond b (Some r) (find_record (x, s) rs)))
      go true ih = refl
      go false ih = ih

  -- The lowest source whose list holds y.
  source_filed : (y : ℕ) (rs : List Record) → lowest_source rs x y ≡ lowest (λ s. is_listed y (providers_of (find_record (x, s) rs))) 0 8
  unfolding is_in
  source_filed y rs = lowest_same _ _ 0 8 (λ s a b. ap (is_in y) (list_filed s rs) ∙ listed (providers_of (find_record (x, s) rs)))
    where
      listed : (o : Option (List ℕ)) → is_in y (list_if_any o) ≡ is_listed y o
      listed None = refl
      listed (Some list) = refl

-- The lists that records hold.
abbrev pub lists_held : List Record → FiledLists
lists_held rs source customer = providers_of (find_record (customer, source) rs)

-- The hops over the records of one register are those over the lists that they hold.
filed_hops : (o : Origin) (rs : List Record) → records_ok rs ≡ true → hop_of o rs ≡ hop_filed o (lists_held rs)
unfolding hop_of hop_filed some_list
filed_hops o rs ok =
    λ i x y. cond (attested_filed x rs (each_ok rs ok) (in-order rs ok) i)
    (cond (united_filed x y rs (each_ok rs ok) (in-order rs ok) i) (ProviderPlus o (source_filed x y rs i)) (NotProviderPlus o)) NoAttestation

module _ (public overrides : List Record) (f : records_ok public ≡ true) (g : records_ok overrides ≡ true) where
  -- So over both,
  pub filed_over : hop_over public overrides ≡ hop_filed_over (lists_held public) (lists_held overrides)
  unfolding hop_over hop_filed_over some_list
  filed_over = λ i x. by_customer x i
    where
      by_test : (x : ℕ) (b : Bool) → hop_of (cond b Overrides Public) (cond b overrides public) x
          ≡ cond b (hop_filed Overrides (lists_held overrides) x) (hop_filed Public (lists_held public) x)
      by_test x true = λ i. filed_hops Overrides overrides g i x
      by_test x false = λ i. filed_hops Public public f i x

      by_customer : (x : ℕ) → hop_over public overrides x ≡ hop_filed_over (lists_held public) (lists_held overrides) x
      by_customer x =
          by_test x (attested overrides x)
          ∙ (λ i. cond (attested_filed x overrides (each_ok overrides g) (in-order overrides g) i)
          (hop_filed Overrides (lists_held overrides) x) (hop_filed Public (lists_held public) x))

  -- and the list that counts.
  pub list_over : (source x : ℕ) → list_of (counting public overrides x) source x ≡ list_filed_over (lists_held public) (lists_held overrides) source x
  unfolding list_filed_over some_list
  list_over source x =
      by_test (attested overrides x)
      ∙ (λ i. list_if_any (cond (attested_filed x overrides (each_ok overrides g) (in-order overrides g) i)
      (lists_held overrides source x) (lists_held public source x)))
    where
      by_test : (b : Bool) → list_of (cond b overrides public) source x ≡ list_if_any (cond b (lists_held overrides source x) (lists_held public source x))
      by_test true = list_filed x source overrides
      by_test false = list_filed x source public
