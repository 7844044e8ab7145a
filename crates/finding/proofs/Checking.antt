-- The check of a register's records: each turn of the loop over them and each way out, and the tests of the whole register. Assumes nothing.
use Prim.Native.Nat.{ℕ, ◌+◌, ◌-◌, ◌*◌, ◌≤◌, ◌<◌}
use mathlib.Core.Path.{◌≡◌, refl, sym, ◌∙◌, ap}
use mathlib.Core.Bool.{Bool, true, false, not, ◌&&◌, ◌||◌, and-true}
use mathlib.Core.List.{List, [], ◌∷◌}
use native.Mathlib.Omega.{arith}
use native.Mathlib.Numerals.{add-one}
use borrow.Author.Tests.{le-leb, lt-leb, leb-true, ltb-true, ltb-false, eqb-true}
use lib.Dec.{leb, ltb, eqb}
use lib.ListN.{length, get_or, take, drop, drop_of_length-le}
use lib.Seq.{drop-cons}
use Rattle.table.specs.Table.{counters, Sound, well_formed}
use Rattle.table.proofs.Sounds.{body_is}
use Rattle.table.proofs.Exact.{passes_sound}
use Rattle.keyed.specs.Keyed.{same_pair, before_pair, ascends, ascends_from, every}
use Rattle.keyed.proofs.Orders.{both_left, above_zero, before_test, first}
use Rattle.rules.specs.Records.{Record, is_in}
use Rattle.register.specs.Register.{record_head, record_tail, record_width, source_word, count_word, most_records, most_listed, most_providers, last_source, records_of, record_at, key_of, listed}
use Rattle.register.specs.Register.{rises, list_ok, record_ok, room_for, records_ok, register_ok}
use Rattle.providers.specs.Helpers.{descents_in, list_at}
use Rattle.register.proofs.Entries.{length_records, record_count, list_count, slot_within, customer_is, source_is, length_is, list_is, list_within}
use Rattle.register.proofs.Entries.{listed_next, listed_take}
use Rattle.providers.proofs.Descending.{fall, fall_small, join_first, join_next, counts_add}

-- Each record's own rules, and their order.
abbrev pub rules : List Record → Bool
rules rs = every record_ok rs && ascends key_of same_pair before_pair rs

-- The same of the records behind a customer and a source.
abbrev pub rules_from : ℕ → ℕ → List Record → Bool
rules_from customer source rs = every record_ok rs && ascends_from key_of same_pair before_pair (customer, source) rs

-- A record that keeps its rules stands behind (0, 0).
behind_none : (r : Record) → record_ok r ≡ true → before_pair (0, 0) (key_of r) ≡ true
unfolding record_ok
behind_none r e = before_test (0, 0) (key_of r) (first (leb-true 1 r.customer (both_left _ _ e)))

-- (0, 0) stands before all records that keep their rules.
rules_first : (rs : List Record) → rules_from 0 0 rs ≡ rules rs
unfolding every ascends ascends_from
rules_first [] = refl
rules_first (r ∷ rs) = go (record_ok r) refl
  where
    go : (b : Bool) → record_ok r ≡ b
        → ((b && every record_ok rs) && (before_pair (0, 0) (key_of r) && ascends_from key_of same_pair before_pair (key_of r) rs))
        ≡ ((b && every record_ok rs) && ascends_from key_of same_pair before_pair (key_of r) rs)
    go false e = refl
    go true e = rw (behind_none r e)

-- The code's test of a record by itself: it breaks a rule.
abbrev pub broken : ℕ → ℕ → ℕ → Bool
broken customer source count = eqb customer 0 || (ltb last_source source || (ltb count 1 || ltb most_providers count))

-- At most is not above.
at_most : (a b : ℕ) → leb a b ≡ not (ltb b a)
at_most a b = go (ltb b a) refl
  where
    go : (t : Bool) → ltb b a ≡ t → leb a b ≡ not t
    go true e = lt-leb a b (ltb-true b a e)
    go false e = le-leb a b (ltb-false b a e)

-- At least 1 is not 0.
at_least_one : (a : ℕ) → leb 1 a ≡ not (eqb a 0)
at_least_one a = go (eqb a 0) refl
  where
    go : (t : Bool) → eqb a 0 ≡ t → leb 1 a ≡ not t
    go true e = lt-leb 1 a (omega (arith, eqb-true a 0 e))
    go false e = above_zero a e

-- Four tests that fail, and a fifth.
all_fail : (a b c d e : Bool) → (not a && (not b && (not c && (not d && e)))) ≡ (not (a || (b || (c || d))) && e)
all_fail true b c d e = refl
all_fail false true c d e = refl
all_fail false false true d e = refl
all_fail false false false true e = refl
all_fail false false false false e = refl

-- The third of four tests that fail.
third_fails : (a b c d : Bool) → (a || (b || (c || d))) ≡ false → c ≡ false
third_fails true b c d e = cc
third_fails false true c d e = cc
third_fails false false true d e = e
third_fails false false false d e = refl

-- A list ascends, and does not hold its customer.
abbrev free : ℕ → List ℕ → Bool
free customer l = rises l && not (is_in customer l)

-- A record's rules: it passes the code's test, and its list ascends and does not hold its customer.
rules_are : (r : Record) → record_ok r ≡ (not (broken r.customer r.source (length r.providers)) && free r.customer r.providers)
unfolding record_ok list_ok
rules_are r =
    let n = length r.providers in
    rw (at_least_one r.customer, at_most r.source last_source, at_most 1 n, at_most n most_providers)
    (all_fail (eqb r.customer 0) (ltb last_source r.source) (ltb n 1) (ltb most_providers n) (free r.customer r.providers))

-- The tests of a record and of its position come first; its list, and what else is to be found, last.
regroup : (a b c d e x : Bool) → ((((a && b) && c) && (d && e)) && x) ≡ (a && (d && ((c && e) && (b && x))))
regroup false b c d e x = refl
regroup true true true true e x = refl
regroup true true true false e x = refl
regroup true true false true e x = refl
regroup true true false false e x = refl
regroup true false c false e x = refl
regroup true false false true e x = refl
regroup true false true true true x = refl
regroup true false true true false x = refl

-- One record more.
rules_step : (k l : ℕ) (r : Record) (rs : List Record) (x : Bool)
    → (rules_from k l (r ∷ rs) && x)
    ≡ (not (broken r.customer r.source (length r.providers))
    && (before_pair (k, l) (key_of r) && (rules_from r.customer r.source rs && (free r.customer r.providers && x))))
unfolding every ascends_from
rules_step k l r rs x =
    rw (rules_are r)
    (regroup (not (broken r.customer r.source (length r.providers))) (free r.customer r.providers) (every record_ok rs)
    (before_pair (k, l) (key_of r)) (ascends_from key_of same_pair before_pair (key_of r) rs) x)

-- What was said of a list stands for whether the list holds its customer: if the list does not ascend, it does not matter.
free_by : (customer : ℕ) (l : List ℕ) {own : Bool} → (rises l ≡ true → own ≡ is_in customer l) → free customer l ≡ (rises l && not own)
free_by customer l {own} f = go (rises l) refl
  where
    go : (b : Bool) → rises l ≡ b → (b && not (is_in customer l)) ≡ (b && not own)
    go true e = ap not (sym (f e))
    go false e = refl

-- A test that fails among others.
one_fails : (a b c : Bool) → (a && ((b && false) && c)) ≡ false
one_fails true true c = refl
one_fails true false c = refl
one_fails false b c = refl

-- The numbers in the lists that end at from.
abbrev pub passed : List ℕ → ℕ → ℕ → List ℕ
passed ws n from = take (from - (counters + n * record_width)) (drop (counters + n * record_width) ws)

-- The loop over the records: the rules of those that are left are what is left to find, and that numbers descended only between lists.
pub record Checked (ws : List ℕ) (n customer source between from i : ℕ) : Type 0 where
  pub sound : Sound record_head record_tail ws
  pub count : n ≡ length (records_of ws)
  pub within : i ≤ n
  pub start : from ≡ counters + n * record_width + listed (take i (records_of ws))
  pub few : between ≤ i
  pub over : between ≤ descents_in (passed ws n from)
  pub same : (rules_from customer source (drop i (records_of ws)) && eqb (descents_in (passed ws n from)) between) ≡ rules (records_of ws)

-- The loop starts at (0, 0), before the first record.
pub checks : {ws : List ℕ} {n : ℕ} → Sound record_head record_tail ws → n ≡ get_or ws 0 0 → Checked ws n 0 0 0 (counters + n * record_width) 0
unfolding listed descents_in
checks {ws} {n} s e =
    let z : counters + n * record_width - (counters + n * record_width) ≡ 0 = omega arith in
    record {
      sound = s;
      count = e ∙ record_count ws s;
      within = omega arith;
      start = omega arith;
      few = omega arith;
      over = omega arith;
      same = rw z (and-true _ ∙ rules_first (records_of ws));
    }

module _ {ws : List ℕ} {n customer source between from i : ℕ} (g : Checked ws n customer source between from i) where
  -- The lists passed hold no more numbers than word 1 says.
  pub lists_few : from - (counters + n * record_width) ≤ get_or ws 1 0
  lists_few = omega (arith, listed_take (records_of ws) i, list_count ws g.sound)

  -- They end within the words.
  pub lists_inside : from ≤ length ws
  lists_inside =
      let s = g.sound in
      omega (arith, s.fits, body_is record_head record_tail ws s, length_records ws s, lists_few)

  -- No record is left.
  pub all_checked : n ≤ i → eqb (descents_in (passed ws n from)) between ≡ rules (records_of ws)
  unfolding every ascends_from
  all_checked h =
      let z : length (records_of ws) ≤ i = omega (arith, g.count) in
      rw (drop_of_length-le (records_of ws) z) at g.same

  module _ (h : i < n) where
    -- Record i is one of the records.
    inside : i < length (records_of ws)
    inside = omega (arith, g.count)

    -- The slot lies within the words.
    pub slot_inside : counters + i * record_width + record_width ≤ length ws
    slot_inside = slot_within ws g.sound i inside

    -- Its customer, as read.
    abbrev cust : ℕ
    cust = get_or ws (counters + i * record_width) 0

    -- Its source, as read.
    abbrev src : ℕ
    src = get_or ws (counters + i * record_width + source_word) 0

    module _ {m : ℕ} (e : m ≡ get_or ws (counters + i * record_width + count_word) 0) where
      -- The count read is the list's length.
      count_is : m ≡ length (record_at (records_of ws) i).providers
      count_is = e ∙ length_is ws g.sound i inside

      -- The list lies within the words.
      pub list_inside : from + m ≤ length ws
      list_inside = omega (arith, g.start, g.count, count_is, list_within ws g.sound i inside)

      -- Its list, as the part of the words that it is.
      part_is : (record_at (records_of ws) i).providers ≡ list_at ws from m
      part_is = sym (rw (count_is, g.start, g.count) (list_is ws g.sound i inside))

      -- The tests of record i, on the words, and what is left to find behind it.
      opened :
          (not (broken cust src m)
          && (before_pair (customer, source) (cust, src)
          && (rules_from cust src (drop (i + 1) (records_of ws)) && (free cust (list_at ws from m) && eqb (descents_in (passed ws n from)) between))))
          ≡ rules (records_of ws)
      opened =
          rw (add-one i, customer_is ws g.sound i inside, source_is ws g.sound i inside, ← part_is, count_is)
          (sym (rules_step customer source (record_at (records_of ws) i) _ _)
          ∙ ap (λ rs. rules_from customer source rs && eqb (descents_in (passed ws n from)) between) (sym (drop-cons (records_of ws) i _ inside))
          ∙ g.same)

      -- The record breaks a rule of its own: the first way out.
      pub no_record : broken cust src m ≡ true → false ≡ rules (records_of ws)
      no_record k = rw k at opened

      module _ (k : broken cust src m ≡ false) where
        -- The list has a number.
        pub list_some : 1 ≤ m
        list_some = ltb-false m 1 (third_fails (eqb cust 0) (ltb last_source src) (ltb m 1) (ltb most_providers m) k)

        -- Its first number lies within the words.
        pub first_inside : from < length ws
        first_inside = omega (arith, list_some, list_inside)

        -- The record does not stand behind the one before it.
        pub no_order : before_pair (customer, source) (cust, src) ≡ false → false ≡ rules (records_of ws)
        no_order q = rw (k, q) at opened

        module _ (q : before_pair (customer, source) (cust, src) ≡ true) {own : Bool}
            (f : rises (list_at ws from m) ≡ true → own ≡ is_in cust (list_at ws from m)) where
          -- What is left to find, by what was said of the list and its customer.
          told : (rules_from cust src (drop (i + 1) (records_of ws)) && ((rises (list_at ws from m) && not own) && eqb (descents_in (passed ws n from)) between))
              ≡ rules (records_of ws)
          told = rw (k, q, free_by cust (list_at ws from m) f) at opened

          -- The list holds its customer, or does not ascend.
          pub no_own : own ≡ true → false ≡ rules (records_of ws)
          no_own t =
              sym (one_fails (rules_from cust src (drop (i + 1) (records_of ws))) (rises (list_at ws from m)) _) ∙ (rw t at told)

          module _ (t : own ≡ false) {now : ℕ} where
            -- One record more, whose list begins with d descents.
            checks_on : (d : ℕ) → d ≤ 1 → now ≡ between + d
                → descents_in (passed ws n (from + m)) ≡ descents_in (passed ws n from) + d + descents_in (list_at ws from m)
                → Checked ws n cust src now (from + m) (i + 1)
            checks_on d u p r =
                record {
                  sound = g.sound;
                  count = g.count;
                  within = omega arith;
                  start = rw (add-one i) (omega (arith, g.start, count_is, listed_next (records_of ws) i inside));
                  few = omega arith;
                  over = omega arith;
                  same =
                      rw (r, p, counts_add (descents_in (passed ws n from)) between d (list_at ws from m) g.over)
                      (rw (t, and-true (rises (list_at ws from m))) at told);
                }

            -- A record with no list before it.
            pub checks_first : from ≤ counters + n * record_width → now ≡ between → Checked ws n cust src now (from + m) (i + 1)
            checks_first p u =
                checks_on 0 (omega arith) (omega arith) (join_first ws (counters + n * record_width) from m (omega arith) p)

            -- A record with lists before it.
            pub checks_next : counters + n * record_width < from → now ≡ between + fall (get_or ws (from - 1) 0) (get_or ws from 0)
                → Checked ws n cust src now (from + m) (i + 1)
            checks_next p u =
                let x = get_or ws (from - 1) 0 in
                let y = get_or ws from 0 in
                checks_on (fall x y) (fall_small x y) u
                (join_next ws (counters + n * record_width) from m (omega arith) p list_some list_inside)

-- Where slots and lists lie.
pub ruleset bounds = (slot_inside, list_inside, first_inside, lists_inside)

-- ---- the whole register

-- Words that are no packed table.
pub not_formed : (ws : List ℕ) → well_formed record_head record_tail ws ≡ false → false ≡ register_ok ws
unfolding register_ok
not_formed ws e = rw e

module _ (ws : List ℕ) (e : well_formed record_head record_tail ws ≡ true) where
  -- The two limits, on the words.
  limits : register_ok ws ≡ ((leb (get_or ws 0 0) most_records && leb (get_or ws 1 0) most_listed) && rules (records_of ws))
  unfolding register_ok records_ok room_for
  limits = let s = passes_sound record_head record_tail ws e in rw (e, record_count ws s, list_count ws s)

  -- Too many records.
  pub records_over : most_records < get_or ws 0 0 → false ≡ register_ok ws
  records_over h = rw (limits, lt-leb (get_or ws 0 0) most_records h)

  module _ (h : get_or ws 0 0 ≤ most_records) where
    -- Too many numbers.
    pub lists_over : most_listed < get_or ws 1 0 → false ≡ register_ok ws
    lists_over k = rw (limits, le-leb (get_or ws 0 0) most_records h, lt-leb (get_or ws 1 0) most_listed k)

    -- Otherwise the records decide.
    pub records_decide : get_or ws 1 0 ≤ most_listed → rules (records_of ws) ≡ register_ok ws
    records_decide k = rw (limits, le-leb (get_or ws 0 0) most_records h, le-leb (get_or ws 1 0) most_listed k)
