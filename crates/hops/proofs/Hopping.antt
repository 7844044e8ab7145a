-- The scan of a customer's records: what each turn and each way out shows. Assumes nothing.
use Prim.Native.Nat.{ℕ, ◌+◌, ◌≤◌, ◌<◌}
use mathlib.Core.Path.{◌≡◌, refl, sym, ◌∙◌, ap}
use mathlib.Core.Bool.{Bool, true, false, cond, ◌||◌, ◌&&◌, or-true, or-false}
use mathlib.Core.List.{List}
use native.Mathlib.Omega.{arith}
use borrow.Author.Tests.{ltb-true, ltb-false, eqb-true, eqb-false}
use lib.Dec.{ltb, eqb}
use lib.ListN.{length, drop}
use Rattle.types.specs.declared.Origin.{Origin}
use Rattle.std.specs.Prelude.{Option, Some, None, is_some, MatchOption}
use Rattle.std.specs.Option.{option_or}
use Rattle.std.specs.Bool.{then_some}
use Rattle.types.specs.declared.Hop.{Hop}
use Rattle.types.specs.declared.Hop.TheVariants.{NoAttestation, ProviderPlus, NotProviderPlus}
use Rattle.keyed.specs.Keyed.{same_pair, before_pair, ascends, every}
use Rattle.keyed.proofs.Orders.{BeforePair, first, second, before_says, before_self}
use Rattle.halves.proofs.Positions.{under}
use Rattle.rules.specs.Records.{Record, is_in, attested, united, lowest_source, hop_of}
use Rattle.register.specs.Register.{record_at, key_of, position_of, record_ok}
use Rattle.register.proofs.Looking.{begins}
use Rattle.hops.proofs.Sources.{lowest_listed}
use Rattle.register.proofs.Uniting.{told, skips, past_all, attests, unites, none_united, hop_is}

-- A pair that does not stand before another has no lesser customer.
not_less : (c s d t : ℕ) → before_pair (c, s) (d, t) ≡ false → d ≤ c
not_less c s d t = go (ltb c d) refl
  where
    go : (b : Bool) → ltb c d ≡ b → (b || (eqb c d && ltb s t)) ≡ false → d ≤ c
    go true p h = absurd (let z : ◌≡◌ {A = ℕ} 0 1 = cc in omega arith)
    go false p h = ltb-false c d p

-- A pair that stands before a customer's source 0 has a lesser customer.
less : (c s x : ℕ) → BeforePair (c, s) (x, 0) → c < x
less c s x (first h) = h
less c s x (second e h) = absurd (omega arith)

module _ (rs : List Record) (a : ascends key_of same_pair before_pair rs ≡ true) where
  -- The records below x's position have lesser customers.
  pub customers_below : (x i : ℕ) → i < position_of x 0 rs → (record_at rs i).customer < x
  customers_below x i h = less _ (record_at rs i).source x (before_says (key_of (record_at rs i)) (x, 0) ((begins rs a x 0).below i h))

  -- The records from x's position on do not.
  pub customers_above : (x i : ℕ) → position_of x 0 rs ≤ i → i < length rs → x ≤ (record_at rs i).customer
  customers_above x i h l = not_less _ (record_at rs i).source x 0 ((begins rs a x 0).behind i h l)

  -- Customers do not descend.
  pub customers_ascend : (i j : ℕ) → i ≤ j → j < length rs → (record_at rs i).customer ≤ (record_at rs j).customer
  customers_ascend i j h l =
      let c = (record_at rs i).customer in
      let s = (record_at rs i).source in
      let u : position_of c s rs ≤ i = under (begins rs a c s) i (before_self (c, s)) in
      not_less _ (record_at rs j).source c s ((begins rs a c s).behind j (omega arith) l)

-- The records before i are passed: x is attested if one of them is x's, or those from i on attest it.
pub record Passing (rs : List Record) (x : ℕ) (has : Bool) (i : ℕ) : Type 0 where
  pub seen : (has || attested (drop i rs) x) ≡ attested rs x

-- The first source that lists y in the records before i: whether x's lists hold y is said by it and the records from i on, and it is the lowest.
pub record Naming (rs : List Record) (x y : ℕ) (first : Option ℕ) (i : ℕ) : Type 0 where
  pub says : (is_some first || is_in y (united (drop i rs) x)) ≡ is_in y (united rs x)
  pub named : (source : ℕ) → first ≡ Some source → source ≡ lowest_source rs x y
  pub unnamed : first ≡ None → (j : ℕ) → j < i → (record_at rs j).customer ≡ x → is_in y (record_at rs j).providers ≡ false

module _ (rs : List Record) (a : ascends key_of same_pair before_pair rs ≡ true) (x : ℕ) {position : ℕ} (p : position ≡ position_of x 0 rs) where
  -- The records before position tell nothing of x.
  pub from_position : told x (drop position rs) ≡ told x rs
  from_position =
      sym (skips x rs 0 position (omega arith) (omega (arith, (begins rs a x 0).within))
      (λ j l m q. omega (arith, customers_below rs a x j (omega arith))))

  -- Before the first turn none is passed.
  pub starts : Passing rs x false position
  starts = record { seen = ap (λ t. t.0) from_position }

  -- Nor any source named.
  pub names_none : (y : ℕ) → Naming rs x y None position
  names_none y =
      record {
        says = ap (λ t. is_in y t.1) from_position;
        named = λ source e. absurd (cc);
        unnamed = λ e j l c. absurd (omega (arith, customers_below rs a x j (omega arith), c));
      }

  -- From position on the records' customers are x or above: where one is not x, none behind it is.
  pub others_left : (i : ℕ) → position ≤ i → i < length rs → ((record_at rs i).customer ≡ x → ⊥) → attested (drop i rs) x ≡ false
  others_left i l h t =
      ap (λ s. s.0) (skips x rs i (length rs) (omega arith) (omega arith) none) ∙ past_all x rs (length rs) (omega arith)
    where
      none : (j : ℕ) → i ≤ j → j < length rs → (record_at rs j).customer ≡ x → ⊥
      none j m n e =
          t (omega (arith, customers_above rs a x i (omega (arith, p, l)) h, customers_ascend rs a i j m n, e))

  -- Past the last record x is not attested.
  pub attests_none : length rs ≤ position → false ≡ attested rs x
  attests_none h = sym (past_all x rs position h) ∙ starts.seen

  -- Otherwise the customer of the record at the position decides.
  pub attests_by : position < length rs → eqb (record_at rs position).customer x ≡ attested rs x
  attests_by h = go (eqb (record_at rs position).customer x) refl
    where
      go : (t : Bool) → eqb (record_at rs position).customer x ≡ t → t ≡ attested rs x
      go true z = sym (attests x rs position h (eqb-true _ _ z)) ∙ starts.seen
      go false z = sym (others_left position (omega arith) h (eqb-false _ _ z)) ∙ starts.seen

module _ {rs : List Record} (a : ascends key_of same_pair before_pair rs ≡ true) (ok : every record_ok rs ≡ true)
    {x i : ℕ} (h : i < length rs) (e : (record_at rs i).customer ≡ x) where
  -- Record i is x's.
  pub passes : {has : Bool} → Passing rs x has i → Passing rs x true (i + 1)
  passes {has} b = record { seen = sym (or-true has) ∙ ap (λ t. has || t) (sym (attests x rs i h e)) ∙ b.seen }

  -- The source that is named after it.
  pub names : {y source : ℕ} {lists : Bool} (old next : Option ℕ) → Naming rs x y old i
      → lists ≡ is_in y (record_at rs i).providers → source ≡ (record_at rs i).source
      → next ≡ option_or old (then_some lists source) → Naming rs x y next (i + 1)
  names {y} {source} {lists} (Some s) next m t q r =
      record {
        says = rw r m.says;
        named = λ u k. let z : u ≡ s = cc in z ∙ m.named s refl;
        unnamed = λ k. absurd (cc);
      }
  names {y} {source} {lists} None next m t q r = go lists refl
    where
      up_to : lists ≡ false → (j : ℕ) → j < i + 1 → (below : Bool) → ltb j i ≡ below → (record_at rs j).customer ≡ x
          → is_in y (record_at rs j).providers ≡ false
      up_to l j k true z c = m.unnamed refl j (ltb-true j i z) c
      up_to l j k false z c =
          let w : j ≡ i = omega (arith, ltb-false j i z) in
          ap (λ i. is_in y (record_at rs i).providers) w ∙ sym t ∙ l

      go : (b : Bool) → lists ≡ b → Naming rs x y next (i + 1)
      go true l =
          let z : next ≡ Some source = rw l at r in
          record {
            says = rw z (rw (← t, l) at (sym (unites x rs i h e y) ∙ m.says));
            named = λ u k. let v : u ≡ source = cc in v ∙ q ∙ lowest_listed rs a ok x y i h e (sym t ∙ l) (m.unnamed refl);
            unnamed = λ k. absurd (cc);
          }
      go false l =
          let z : next ≡ None = rw l at r in
          record {
            says = rw z (rw (← t, l) at (sym (unites x rs i h e y) ∙ m.says));
            named = λ u k. absurd (cc);
            unnamed = λ k j o. up_to l j o (ltb j i) refl;
          }

-- With none left, the source makes the hop.
module _ (o : Origin) (rs : List Record) {x y i : ℕ} (e : attested (drop i rs) x ≡ false) where
  pub arrives : {has : Bool} (found : Option ℕ) → Passing rs x has i → Naming rs x y found i → {hop : Hop}
      → MatchOption found (hop ≡ cond has (NotProviderPlus o) NoAttestation) (λ source. hop ≡ ProviderPlus o source) → hop ≡ hop_of o rs x y
  unfolding is_in
  arrives {has} (Some s) b m {hop} f =
      let z : true ≡ is_in y (united rs x) = m.says in
      f ∙ ap (ProviderPlus o) (m.named s refl) ∙ rw (← z) at (hop_is x o rs y)
  arrives {has} None b m {hop} f =
      let z : is_in y (united rs x) ≡ false = sym m.says ∙ ap (is_in y) (none_united x (drop i rs) e) in
      let q : has ≡ attested rs x = sym (or-false has) ∙ ap (λ t. has || t) (sym e) ∙ b.seen in
      f ∙ rw q (rw z at (hop_is x o rs y))
