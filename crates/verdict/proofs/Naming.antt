-- The registers of the hops that an Invalid names. Assumes nothing.
use Prim.Native.Nat.{ℕ, ◌+◌, ◌-◌, ◌≤◌}
use mathlib.Core.Path.{◌≡◌, refl, sym}
use mathlib.Core.List.{List}
use mathlib.Core.Bool.{Bool, true, false, cond, true≢false}
use native.Mathlib.Omega.{arith}
use lib.ListN.{length}
use Rattle.types.specs.declared.Origin.{Origin}
use Rattle.types.specs.declared.Origins.{Origins}
use Rattle.types.specs.declared.Origins.TheVariants.{Two}
use Rattle.types.specs.declared.Hop.TheVariants.{NoAttestation, ProviderPlus, NotProviderPlus}
use Rattle.types.specs.declared.Cause.TheVariants.{ByHops}
use Rattle.rules.specs.Hops.{HopFunction, is_not_plus, origin_of, as_at, up, down}
use Rattle.rules.specs.Records.{Record, is_in, attested, united, lowest_source, origin_for, counting, hop_of, hop_over}
use Rattle.rules.specs.Verdicts.{down_cause}
use Rattle.rules.proofs.Searching.{lowest_is, highest_is}
use Rattle.register.specs.Register.{records_of}
use Rattle.registers.specs.Registers.{Registers, hop_in}
use Rattle.verdict.specs.declared.Ramps.{Ramps}
use Rattle.verdict.specs.Helpers.{Refused}
use Rattle.verdict.specs.Ramps.{ramps_of, Ramped}

-- A hop that is Not Provider+ is by the register whose records were read,
pub by_register : (o : Origin) (rs : List Record) (x y : ℕ) → is_not_plus (hop_of o rs x y) ≡ true → o ≡ origin_of (hop_of o rs x y)
unfolding hop_of
by_register o rs x y = go (attested rs x) (is_in y (united rs x))
  where
    go : (a b : Bool) → is_not_plus (cond a (cond b (ProviderPlus o (lowest_source rs x y)) (NotProviderPlus o)) NoAttestation) ≡ true
        → o ≡ origin_of (cond a (cond b (ProviderPlus o (lowest_source rs x y)) (NotProviderPlus o)) NoAttestation)
    go true true h = absurd (true≢false (sym h))
    go true false h = refl
    go false b h = absurd (true≢false (sym h))

-- which is the one that counts for its customer.
pub by_customer : (p o : List Record) (x y : ℕ) → is_not_plus (hop_over p o x y) ≡ true → origin_for o x ≡ origin_of (hop_over p o x y)
unfolding hop_over
by_customer p o x = by_register (origin_for o x) (counting p o x) x

-- Where u is at most v, both hops are on the path.
on_path : {hop : HopFunction} {path : List ℕ} {r : Ramps} → r ≡ ramps_of hop path → r.u ≤ r.v → Refused hop path r.u r.v
on_path {hop} {path} e order =
    let h = rw e at order in
    let l = lowest_is (λ u. is_not_plus (up hop path u)) 2 (length path - 1) in
    let k = highest_is (λ v. is_not_plus (down hop path v)) 1 (length path - 1) (omega arith) in
    rw e
    (record {
      low = l.low;
      order = h;
      high = omega (arith, k.high, l.low, h);
      upward = l.passes (omega (arith, k.high, l.low, h));
      downward = k.passes (omega (arith, l.low, h));
    })

pub refused : {hop : HopFunction} {path : List ℕ} {r : Ramps} → Ramped hop path r → r.u ≤ r.v → Refused hop path r.u r.v
refused g order = on_path g.exact order

-- Over two registers an Invalid names those that count for the hops' customers.
module _ (reg : Registers) (path : List ℕ) {r : Ramps} (e : r ≡ ramps_of (hop_in reg) path) (h : r.u ≤ r.v) where
  pub named : {os : Origins}
      → os ≡ Two (origin_for (records_of reg.overrides) (as_at path (r.u - 1))) (origin_for (records_of reg.overrides) (as_at path (r.v + 1)))
      → ByHops r.u r.v os ≡ down_cause (hop_in reg) path r.u r.v
  named q =
      let p = on_path e h in
      rw (
        q,
        by_customer (records_of reg.public) (records_of reg.overrides) (as_at path (r.u - 1)) (as_at path r.u) p.upward,
        by_customer (records_of reg.public) (records_of reg.overrides) (as_at path (r.v + 1)) (as_at path r.v) p.downward,
      )
