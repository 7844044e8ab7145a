-- The scan of a customer's records, by the words of the register. Assumes nothing.
use Prim.Native.Nat.{ℕ, ◌+◌, ◌-◌, ◌*◌, ◌≤◌, ◌<◌}
use mathlib.Core.Path.{◌≡◌, refl, sym, ◌∙◌, ap}
use mathlib.Core.Bool.{Bool, true, false, not, cond, true≢false, ◌||◌, ◌&&◌, or-true, or-false, or_assoc}
use mathlib.Core.List.{List}
use native.Mathlib.Omega.{arith}
use borrow.Author.Tests.{ltb-true, ltb-false, lt-ltb, le-ltb}
use lib.Dec.{ltb, eqb}
use lib.ListN.{length, get_or, take, drop}
use Rattle.types.specs.declared.Origin.{Origin}
use Rattle.types.specs.declared.Hop.TheVariants.{NoAttestation, ProviderPlus, NotProviderPlus}
use Rattle.table.specs.Table.{counters}
use Rattle.rules.specs.Records.{is_in, attested, united, lowest_source, hop_of}
use Rattle.register.specs.Register.{record_width, source_word, start_word, count_word, records_of, record_at, position_of, listed, register_ok}
use Rattle.register.proofs.Entries.{list_start, length_is, list_is, list_within, customer_is, source_is}
use Rattle.register.proofs.Holding.{sound, ordered, records-ok, each_ok}
use Rattle.register.proofs.Looking.{count_is, slot_in}
use Rattle.register.proofs.Uniting.{past_all, attests, unites, none_united, hop_is}
use Rattle.hops.proofs.Sources.{lowest_listed}
use Rattle.hops.proofs.Hopping.{customers_below, from_position}
use Rattle.hops.proofs.Hopping as records

-- The scan is at record i: x is attested if and only if a record was passed or those from i on attest it.
pub record Passing (ws : List ℕ) (position x n i : ℕ) : Type 0 where
  pub ok : register_ok ws ≡ true
  pub begins : position ≡ position_of x 0 (records_of ws)
  pub counted : n ≡ length (records_of ws)
  pub from : position ≤ i
  pub seen : (ltb position i || attested (drop i (records_of ws)) x) ≡ attested (records_of ws) x

-- The flag and the records from i on say whether x's lists hold y.
pub record Hearing (ws : List ℕ) (x y : ℕ) (has : Bool) (i : ℕ) : Type 0 where
  pub says : (has || is_in y (united (drop i (records_of ws)) x)) ≡ is_in y (united (records_of ws) x)

-- The source that is named: the lowest that lists y, once one of x's records before i does.
pub record Naming (ws : List ℕ) (x y : ℕ) (has : Bool) (source i : ℕ) : Type 0 where
  pub named : has ≡ true → source ≡ lowest_source (records_of ws) x y
  pub unnamed : has ≡ false → (j : ℕ) → j < i → (record_at (records_of ws) j).customer ≡ x → is_in y (record_at (records_of ws) j).providers ≡ false

module _ (ws : List ℕ) (x position : ℕ) (e : register_ok ws ≡ true) (p : position ≡ position_of x 0 (records_of ws)) where
  -- Before the first turn none is passed.
  pub starts : (n : ℕ) → n ≡ get_or ws 0 0 → Passing ws position x n position
  starts n q =
      record {
        ok = e;
        begins = p;
        counted = q ∙ count_is ws e;
        from = omega arith;
        seen = rw (le-ltb position position (omega arith)) (ap (λ t. t.0) (from_position (records_of ws) (ordered ws e) x p));
      }

  -- Nor is anything heard.
  pub listens : (y : ℕ) → Hearing ws x y false position
  listens y = record { says = ap (λ t. is_in y t.1) (from_position (records_of ws) (ordered ws e) x p) }

  -- Nor any source named.
  pub names_none : (y source : ℕ) → Naming ws x y false source position
  names_none y source =
      record {
        named = λ t. absurd (true≢false (sym t));
        unnamed = λ t j l c. absurd (omega (arith, customers_below (records_of ws) (ordered ws e) x j (omega arith), c));
      }

module _ {ws : List ℕ} {position x n i : ℕ} (b : Passing ws position x n i) where
  module _ (h : i < n) where
    -- Record i is there.
    inside : i < length (records_of ws)
    inside = omega arith

    -- Slot i is within the words.
    pub slot_of : counters + i * record_width + record_width ≤ length ws
    slot_of = slot_in ws b.ok i inside

    -- Its first word is the customer.
    customer_of : get_or ws (counters + i * record_width) 0 ≡ (record_at (records_of ws) i).customer
    customer_of = customer_is ws (sound ws b.ok) i inside

    -- It is x's.
    pub passes : get_or ws (counters + i * record_width) 0 ≡ x → Passing ws position x n (i + 1)
    passes e =
        record {
          ok = b.ok;
          begins = b.begins;
          counted = b.counted;
          from = omega arith;
          seen =
              rw (lt-ltb position (i + 1) (omega arith))
              (sym (or-true (ltb position i)) ∙ ap (λ t. ltb position i || t) (sym (attests x (records_of ws) i inside (sym customer_of ∙ e))) ∙ b.seen);
        }

    module _ {u v : ℕ} (eu : u ≡ get_or ws (counters + i * record_width + start_word) 0) (ev : v ≡ get_or ws (counters + i * record_width + count_word) 0) where
      -- Its list's start.
      start-of : u ≡ listed (take i (records_of ws))
      start-of = eu ∙ list_start ws (sound ws b.ok) i inside

      -- Its list's length.
      length_of : v ≡ length (record_at (records_of ws) i).providers
      length_of = ev ∙ length_is ws (sound ws b.ok) i inside

      -- Its list is within the words.
      pub list_in : counters + n * record_width + u + v ≤ length ws
      list_in = omega (arith, start-of, length_of, list_within ws (sound ws b.ok) i inside)

      -- The part of the words that it is.
      list_of : take (counters + n * record_width + u + v - (counters + n * record_width + u)) (drop (counters + n * record_width + u) ws) ≡ (record_at (records_of ws) i).providers
      list_of =
          let z : counters + n * record_width + u + v - (counters + n * record_width + u) ≡ v = omega arith in
          (λ q. take (z q) (drop (counters + n * record_width + u) ws))
          ∙ (λ q. take (length_of q) (drop (counters + b.counted q * record_width + start-of q) ws))
          ∙ list_is ws (sound ws b.ok) i inside

      -- The flag, with whether its list holds y.
      pub hears : {y : ℕ} {has has' : Bool} → get_or ws (counters + i * record_width) 0 ≡ x → Hearing ws x y has i
          → has' ≡ is_in y (take (counters + n * record_width + u + v - (counters + n * record_width + u)) (drop (counters + n * record_width + u) ws)) → Hearing ws x y (has || has') (i + 1)
      hears {y} {has} {has'} e s t =
          record {
            says =
                or_assoc has has' (is_in y (united (drop (i + 1) (records_of ws)) x))
                ∙ ap (λ k. has || k) (rw (t, list_of) (sym (unites x (records_of ws) i inside (sym customer_of ∙ e) y)))
                ∙ s.says;
          }

      -- The source that is named after record i.
      pub names : {y : ℕ} {has has' : Bool} {before source source' : ℕ} → get_or ws (counters + i * record_width) 0 ≡ x
          → source ≡ get_or ws (counters + i * record_width + source_word) 0 → Naming ws x y has before i
          → has' ≡ is_in y (take (counters + n * record_width + u + v - (counters + n * record_width + u)) (drop (counters + n * record_width + u) ws))
          → source' ≡ cond (not has && has') source before → Naming ws x y (has || has') source' (i + 1)
      names {y} {has} {has'} {before} {source} {source'} e q m t r = go has has' refl refl
        where
          mine : (record_at (records_of ws) i).customer ≡ x
          mine = sym customer_of ∙ e

          lists : has' ≡ is_in y (record_at (records_of ws) i).providers
          lists = t ∙ ap (is_in y) list_of

          -- Where none before it lists y and this one does, its source is the lowest.
          here : has ≡ false → has' ≡ true → source ≡ lowest_source (records_of ws) x y
          here h l =
              q ∙ source_is ws (sound ws b.ok) i inside
              ∙ lowest_listed (records_of ws) (ordered ws b.ok) (each_ok (records_of ws) (records-ok ws b.ok)) x y i inside mine (sym lists ∙ l) (m.unnamed h)

          up_to : has ≡ false → has' ≡ false → (j : ℕ) → j < i + 1 → (below : Bool) → ltb j i ≡ below → (record_at (records_of ws) j).customer ≡ x
              → is_in y (record_at (records_of ws) j).providers ≡ false
          up_to h l j k true z c = m.unnamed h j (ltb-true j i z) c
          up_to h l j k false z c =
              let w : j ≡ i = omega (arith, ltb-false j i z) in
              ap (λ i. is_in y (record_at (records_of ws) i).providers) w ∙ sym lists ∙ l

          go : (a d : Bool) → has ≡ a → has' ≡ d → Naming ws x y (has || has') source' (i + 1)
          go true d h l = record { named = λ k. r ∙ rw h (m.named h); unnamed = λ k. absurd (true≢false (rw h at k)) }
          go false true h l = record { named = λ k. r ∙ rw (h, l) (here h l); unnamed = λ k. absurd (true≢false (rw (h, l) at k)) }
          go false false h l =
              record { named = λ k. absurd (true≢false (sym (rw (h, l) at k))); unnamed = λ k j o. up_to h l j o (ltb j i) refl }

  -- From i on no record is x's: there is none.
  pub none_left : n ≤ i → attested (drop i (records_of ws)) x ≡ false
  none_left h = past_all x (records_of ws) i (omega arith)

  -- From i on no record is x's: the one at i is another's.
  pub others_left : i < n → (get_or ws (counters + i * record_width) 0 ≡ x → ⊥) → attested (drop i (records_of ws)) x ≡ false
  others_left h t = records.others_left (records_of ws) (ordered ws b.ok) x b.begins i b.from (inside h) (λ e. t (customer_of h ∙ e))

  -- With none left, the flags and the source make the hop.
  pub arrives : (o : Origin) {y : ℕ} {has : Bool} {source : ℕ} → attested (drop i (records_of ws)) x ≡ false → Hearing ws x y has i → Naming ws x y has source i
      → cond has (ProviderPlus o source) (cond (ltb position i) (NotProviderPlus o) NoAttestation) ≡ hop_of o (records_of ws) x y
  unfolding is_in
  arrives o {y} {has} {source} e s m =
      let p : has ≡ is_in y (united (records_of ws) x)
      = sym (or-false has) ∙ ap (λ l. has || is_in y l) (sym (none_united x (drop i (records_of ws)) e)) ∙ s.says in
      let q : ltb position i ≡ attested (records_of ws) x = sym (or-false (ltb position i)) ∙ ap (λ t. ltb position i || t) (sym e) ∙ b.seen in
      by_source has refl ∙ rw (p, q) (hop_is x o (records_of ws) y)
    where
      by_source : (a : Bool) → has ≡ a
          → cond a (ProviderPlus o source) (cond (ltb position i) (NotProviderPlus o) NoAttestation)
          ≡ cond a (ProviderPlus o (lowest_source (records_of ws) x y)) (cond (ltb position i) (NotProviderPlus o) NoAttestation)
      by_source true h = ap (ProviderPlus o) (m.named h)
      by_source false h = refl

-- ---- whether a register has any record of x

module _ (ws : List ℕ) (x position n : ℕ) (e : register_ok ws ≡ true) (p : position ≡ position_of x 0 (records_of ws)) (q : n ≡ get_or ws 0 0) where
  -- Past the last record it has none.
  pub attests_none : n ≤ position → false ≡ attested (records_of ws) x
  attests_none h = records.attests_none (records_of ws) (ordered ws e) x p (omega (arith, count_is ws e))

  module _ (h : position < n) where
    inside_there : position < length (records_of ws)
    inside_there = omega (arith, count_is ws e)

    -- The slot there is within the words.
    pub attests_slot : counters + position * record_width + record_width ≤ length ws
    attests_slot = slot_in ws e position inside_there

    -- Its customer decides.
    pub attests_by : eqb (get_or ws (counters + position * record_width) 0) x ≡ attested (records_of ws) x
    attests_by = rw (customer_is ws (sound ws e) position inside_there) (records.attests_by (records_of ws) (ordered ws e) x p inside_there)
