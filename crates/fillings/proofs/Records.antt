-- What a hop over the records of two registers is by the lists that count. Assumes nothing.
use Prim.Native.Nat.{ℕ}
use mathlib.Core.Path.{◌≡◌, refl}
use mathlib.Core.List.{List}
use mathlib.Core.Bool.{Bool, true, false, not, cond, ◌&&◌, ◌||◌}
use Rattle.types.specs.declared.Origin.{Origin}
use Rattle.types.specs.declared.Hop.TheVariants.{NoAttestation, ProviderPlus, NotProviderPlus}
use Rattle.rules.specs.Hops.{is_plus, is_not_plus, is_unattested}
use Rattle.rules.specs.Records.{Record, is_in, attested, united, lowest_source, counting, hop_of, hop_over}
use Rattle.register.proofs.Uniting.{none_united}

module _ (o : Origin) (rs : List Record) (x y : ℕ) where
  plus_by : is_plus (hop_of o rs x y) ≡ is_in y (united rs x)
  unfolding hop_of is_in
  plus_by = go (attested rs x) (is_in y (united rs x)) refl refl
    where
      go : (b t : Bool) → attested rs x ≡ b → is_in y (united rs x) ≡ t
          → is_plus (cond b (cond t (ProviderPlus o (lowest_source rs x y)) (NotProviderPlus o)) NoAttestation) ≡ t
      go true true a e = refl
      go true false a e = refl
      go false t a e = rw (none_united x rs a) at e

  not_plus_by : is_not_plus (hop_of o rs x y) ≡ (attested rs x && not (is_in y (united rs x)))
  unfolding hop_of
  not_plus_by = go (attested rs x) (is_in y (united rs x))
    where
      go : (b t : Bool) → is_not_plus (cond b (cond t (ProviderPlus o (lowest_source rs x y)) (NotProviderPlus o)) NoAttestation) ≡ (b && not t)
      go true true = refl
      go true false = refl
      go false t = refl

  unattested_by : is_unattested (hop_of o rs x y) ≡ not (attested rs x)
  unfolding hop_of
  unattested_by = go (attested rs x) (is_in y (united rs x))
    where
      go : (b t : Bool) → is_unattested (cond b (cond t (ProviderPlus o (lowest_source rs x y)) (NotProviderPlus o)) NoAttestation) ≡ not b
      go true true = refl
      go true false = refl
      go false t = refl

module _ (public overrides : List Record) (x y : ℕ) where
  pub plus_is : is_plus (hop_over public overrides x y) ≡ is_in y (united (counting public overrides x) x)
  unfolding hop_over
  plus_is = plus_by _ (counting public overrides x) x y

  pub not_plus_is : is_not_plus (hop_over public overrides x y) ≡ (attested (counting public overrides x) x && not (is_in y (united (counting public overrides x) x)))
  unfolding hop_over
  not_plus_is = not_plus_by _ (counting public overrides x) x y

  pub by_number : is_unattested (hop_over public overrides x y) ≡ not (attested public x || attested overrides x)
  unfolding hop_over
  by_number = rw (unattested_by _ (counting public overrides x) x y) (go (attested overrides x) (attested public x) refl refl)
    where
      go : (s t : Bool) → attested overrides x ≡ s → attested public x ≡ t → not (attested (cond s overrides public) x) ≡ not (t || s)
      go true true e f = rw e
      go true false e f = rw e
      go false true e f = rw f
      go false false e f = rw f
