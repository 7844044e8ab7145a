-- The laws of hops and lists over one register, gathered. Assumes nothing.
use Prim.Native.Nat.{ℕ, ◌≤◌, ◌<◌}
use mathlib.Core.Path.{◌≡◌, refl, sym, ◌∙◌}
use mathlib.Core.Bool.{Bool, true, false, cond, true≢false}
use mathlib.Core.List.{List, [], ◌∷◌}
use native.Mathlib.Omega.{arith}
use borrow.Author.Tests.{ltb-true, ltb-false}
use lib.Dec.{ltb}
use Rattle.types.specs.declared.Origin.{Origin}
use Rattle.types.specs.declared.Hop.TheVariants.{NoAttestation, ProviderPlus, NotProviderPlus}
use Rattle.types.proofs.Clashes.{clash}
use Rattle.keyed.specs.Keyed.{same_pair, before_pair, find}
use Rattle.keyed.proofs.Orders.{ordered_pairs, same_flip}
use Rattle.rules.specs.Records.{Record, is_in, attested, united, list_of, lowest_source, hop_of}
use Rattle.rules.proofs.Searching.{lowest_is}
use Rattle.register.specs.Register.{records_of, record_at, key_of, register_ok}
use Rattle.register.specs.Calls.{find_record}
use Rattle.register.proofs.Holding.{records-ok, each_ok, ordered}
use Rattle.register.proofs.Uniting.{united_listed}
use Rattle.hops.specs.Laws.{list_in, NamesLowest, HopLaws}
use Rattle.hops.proofs.Sources.{list_lists, source_low}
use Rattle.hops.proofs.Listing.{span_within, span_is}
use Rattle.std.specs.Prelude.{Some}

list_found : (rs : List Record) (source x : ℕ) → list_of rs source x ≡ list_in (find_record (x, source) rs)
unfolding list_of find
list_found [] source x = refl
list_found (r ∷ rs) source x = rw (same_flip same_pair before_pair ordered_pairs (x, source) (key_of r)) (go (same_pair (key_of r) (x, source)) (list_found rs source x))
  where
    go : (b : Bool) → list_of rs source x ≡ list_in (find_record (x, source) rs)
        → cond b r.providers (list_of rs source x) ≡ list_in (cond b (Some r) (find_record (x, source) rs))
    go true ih = refl
    go false ih = ih

module _ (rs : List Record) (o p : Origin) (x y : ℕ) where
  -- What a Provider+ comes of.
  plus_from : (source : ℕ) → hop_of o rs x y ≡ ProviderPlus p source → (p ≡ o) × (source ≡ lowest_source rs x y) × (is_in y (united rs x) ≡ true)
  unfolding hop_of
  plus_from source = go (attested rs x) (is_in y (united rs x)) refl
    where
      go : (a b : Bool) → is_in y (united rs x) ≡ b → cond a (cond b (ProviderPlus o (lowest_source rs x y)) (NotProviderPlus o)) NoAttestation ≡ ProviderPlus p source
          → (p ≡ o) × (source ≡ lowest_source rs x y) × (is_in y (united rs x) ≡ true)
      go true true e h = (let z : o ≡ p = cc in sym z, let z : lowest_source rs x y ≡ source = cc in sym z, e)
      go true false e h = clash (cc)
      go false b e h = clash (cc)

  -- What a Not Provider+ comes of.
  other_from : hop_of o rs x y ≡ NotProviderPlus p → (p ≡ o) × (attested rs x ≡ true) × (is_in y (united rs x) ≡ false)
  unfolding hop_of
  other_from = go (attested rs x) refl (is_in y (united rs x)) refl
    where
      go : (a : Bool) → attested rs x ≡ a → (b : Bool) → is_in y (united rs x) ≡ b
          → cond a (cond b (ProviderPlus o (lowest_source rs x y)) (NotProviderPlus o)) NoAttestation ≡ NotProviderPlus p
          → (p ≡ o) × (attested rs x ≡ true) × (is_in y (united rs x) ≡ false)
      go true d true e h = clash (cc)
      go true d false e h = (let z : o ≡ p = cc in sym z, d, e)
      go false d b e h = clash (cc)

-- What No Attestation comes of.
none_from : (rs : List Record) (o : Origin) (x y : ℕ) → hop_of o rs x y ≡ NoAttestation → attested rs x ≡ false
unfolding hop_of
none_from rs o x y = go (attested rs x) refl (is_in y (united rs x))
  where
    go : (a : Bool) → attested rs x ≡ a → (b : Bool) → cond a (cond b (ProviderPlus o (lowest_source rs x y)) (NotProviderPlus o)) NoAttestation ≡ NoAttestation
        → attested rs x ≡ false
    go true d true h = clash (cc)
    go true d false h = clash (cc)
    go false d b h = d

provider_is : (ws : List ℕ) → register_ok ws ≡ true → (o p : Origin) (x y source : ℕ) → hop_of o (records_of ws) x y ≡ ProviderPlus p source
    → (p ≡ o) × NamesLowest (records_of ws) x y source
provider_is ws ok o p x y source h =
    let f = plus_from (records_of ws) o p x y source h in
    let l = united_listed (records_of ws) x y f.2 in
    let w = lowest_is (λ s. is_in y (list_of (records_of ws) s x)) 0 8 in
    let s = (record_at (records_of ws) l.at).source in
    let few : s < 8 = source_low (records_of ws) (each_ok (records_of ws) (records-ok ws ok)) l.at l.within in
    let at : is_in y (list_of (records_of ws) s x) ≡ true = list_lists (records_of ws) (ordered ws ok) x y l.at l.within l.owner l.inside in (
      f.0,
      rw f.1 (record {
        lists = w.passes (lower s few at);
        none_lower = λ t m. w.first t (omega arith) m;
      }),
    )
  where
    lower : (s : ℕ) → s < 8 → is_in y (list_of (records_of ws) s x) ≡ true → lowest_source (records_of ws) x y < 8
    lower s few at = below (ltb (lowest_source (records_of ws) x y) 8) refl
      where
        below : (b : Bool) → ltb (lowest_source (records_of ws) x y) 8 ≡ b → lowest_source (records_of ws) x y < 8
        below true e = ltb-true _ _ e
        below false e =
            let g : 8 ≤ lowest_source (records_of ws) x y = ltb-false _ _ e in
            absurd (true≢false (sym at ∙ (lowest_is (λ s. is_in y (list_of (records_of ws) s x)) 0 8).first s (omega arith) (omega arith)))

pub hop_laws : HopLaws
hop_laws =
    record {
      list_found = list_found;
      span_within = span_within;
      span_is = span_is;
      provider_is = provider_is;
      other_is = other_from;
      none_is = none_from;
    }
