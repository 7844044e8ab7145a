-- Which register counts: what a look-up in the overrides shows, and what the register that counts says. Assumes nothing.
use Prim.Native.Nat.{ℕ}
use mathlib.Core.Path.{◌≡◌, refl, sym, ◌∙◌, ap}
use mathlib.Core.Bool.{Bool, true, false, cond}
use mathlib.Core.List.{List, [], ◌∷◌}
use native.Mathlib.Omega.{arith}
use borrow.Author.Tests.{eqb-true}
use lib.Dec.{eqb}
use lib.ListN.{length}
use Rattle.types.specs.declared.Origin.{Origin}
use Rattle.types.specs.declared.Origin.TheVariants.{Public, Overrides}
use Rattle.types.specs.declared.Hop.{Hop}
use Rattle.keyed.proofs.Orders.{both_left, both_right, both_intro}
use Rattle.rules.specs.Records.{Record, attested, origin_for, counting, hop_of, hop_over}
use Rattle.register.specs.Register.{register_words, records_of, position_of, register_ok}
use Rattle.hops.specs.declared.Span.{Span}
use Rattle.hops.specs.Spans.{span_of}
use Rattle.registers.specs.declared.Found.{Found}
use Rattle.registers.specs.declared.Registers as declared
use Rattle.registers.specs.Registers.{Registers, hop_in, both_long, both_ok, chosen, found_of, found_in, part, part_in}
use Rattle.registers.specs.Words.{words_of}

-- ---- rows 1 and 2 of both

-- Both have the length of a register.
pub chosen_long : (reg : Registers) → both_long reg ≡ true → (o : Origin) → length (chosen o reg) ≡ register_words
unfolding both_long
chosen_long reg b Public = eqb-true _ _ (both_left _ _ b)
chosen_long reg b Overrides = eqb-true _ _ (both_right (eqb (length reg.public) register_words) _ b)

module _ (reg : Registers) (b : both_ok reg ≡ true) where
  pub public_ok : register_ok reg.public ≡ true
  unfolding both_ok
  public_ok = both_left _ _ b

  pub overrides_ok : register_ok reg.overrides ≡ true
  unfolding both_ok
  overrides_ok = both_right (register_ok reg.public) _ b

  -- Both are well formed, whichever counts.
  pub chosen_ok : (o : Origin) → register_ok (chosen o reg) ≡ true
  chosen_ok Public = public_ok
  chosen_ok Overrides = overrides_ok

-- The two registers that the code holds are well formed.
pub both_formed : (r : declared.Registers) → both_ok (words_of r) ≡ true
unfolding both_ok
both_formed r = both_intro _ _ r.public.register.well_formed r.overrides.register.well_formed

-- ---- the register that counts

module _ (p o : List Record) (x : ℕ) where
  -- The overrides have a record of x.
  pub found_overrides : {i : ℕ} → attested o x ≡ true → i ≡ position_of x 0 o
      → ◌≡◌ {A = Found} (record { origin = Overrides; position = i }) (found_of p o x)
  found_overrides e q = rw (e, q)

  -- They have none.
  pub found_public : {i : ℕ} → attested o x ≡ false → i ≡ position_of x 0 p
      → ◌≡◌ {A = Found} (record { origin = Public; position = i }) (found_of p o x)
  found_public e q = rw (e, q)

-- Where there is no record, x has none.
pub none_attested : (rs : List Record) → length rs ≡ 0 → (x : ℕ) → attested rs x ≡ false
unfolding attested
none_attested [] e x = refl
none_attested (r ∷ rs) e x = absurd (omega arith)

-- Where the overrides have none, the hops are the public register's.
pub hops_alone : (reg : Registers) → length (records_of reg.overrides) ≡ 0 → hop_in reg ≡ hop_of Public (records_of reg.public)
unfolding hop_over
hops_alone reg z =
    λ i x. let e = none_attested (records_of reg.overrides) z x i in hop_of (cond e Overrides Public) (cond e (records_of reg.overrides) (records_of reg.public)) x

module _ (reg : Registers) (x : ℕ) where
  abbrev counts : List Record
  counts = counting (records_of reg.public) (records_of reg.overrides) x

  abbrev origin : Origin
  origin = origin_for (records_of reg.overrides) x

  -- The records that count are those of the register that counts.
  pub chosen_counts : records_of (chosen origin reg) ≡ counts
  chosen_counts = go (attested (records_of reg.overrides) x)
    where
      go : (b : Bool) → records_of (chosen (cond b Overrides Public) reg) ≡ cond b (records_of reg.overrides) (records_of reg.public)
      go true = refl
      go false = refl

  module _ {f : Found} (e : f ≡ found_in reg x) {ws : List ℕ} (w : ws ≡ chosen f.origin reg) where
    -- The words that were chosen hold them.
    counted : records_of ws ≡ counts
    counted = ap records_of (w ∙ ap (λ f. chosen f.origin reg) e) ∙ chosen_counts

    pub words_ok : both_ok reg ≡ true → register_ok ws ≡ true
    words_ok b = ap register_ok w ∙ chosen_ok reg b f.origin

    pub words_position : f.position ≡ position_of x 0 (records_of ws)
    words_position = ap (λ f. f.position) e ∙ ap (position_of x 0) (sym counted)

    pub words_hop : (y : ℕ) {h : Hop} → h ≡ hop_of f.origin (records_of ws) x y → h ≡ hop_in reg x y
    unfolding hop_over
    words_hop y d = d ∙ (λ i. hop_of (e i).origin (counted i) x y)

  -- The part of the words that were chosen.
  pub words_part : (source : ℕ) {o : Origin} {ws : List ℕ} {s : Span} → o ≡ origin → ws ≡ chosen o reg → s ≡ span_of (records_of ws) source x
      → part o s ≡ part_in reg source x
  words_part source e w d =
      let c : records_of _ ≡ counts = ap records_of (w ∙ ap (λ o. chosen o reg) e) ∙ chosen_counts in
      λ i. part (e i) ((d ∙ ap (λ rs. span_of rs source x) c) i)
