-- Look-up by customer and source: the binary search, and whether the record is there. Assumes nothing.
use Prim.Native.Nat.{ℕ, ◌+◌, ◌-◌, ◌*◌, ◌≤◌, ◌<◌}
use mathlib.Core.Path.{◌≡◌, sym, ◌∙◌}
use mathlib.Core.Bool.{true, false, ◌&&◌}
use mathlib.Core.List.{List}
use native.Mathlib.Omega.{arith}
use borrow.Author.Tests.{eq-eqb, ne_eqb}
use lib.Dec.{eqb}
use lib.ListN.{length, get_or, take, drop}
use Rattle.table.specs.Table.{counters}
use Rattle.table.proofs.Sounds.{long}
use Rattle.keyed.specs.Keyed.{same_pair, before_pair, ascends}
use Rattle.keyed.proofs.Orders.{ordered_pairs, same_flip}
use Rattle.keyed.proofs.Ranks.{holds_not_end, holds_is}
use Rattle.halves.specs.declared.Range.{Range}
use Rattle.halves.specs.Halves.{before_in, Begins, searched_from}
use Rattle.halves.proofs.Positions.{alike, at_rank}
use Rattle.halves.proofs.Counts.{eleven}
use Rattle.halves.proofs.Searches as searches
use Rattle.rules.specs.Records.{Record}
use Rattle.register.specs.Register.{record_head, record_tail, record_width, source_word, start_word, count_word, most_records, records_of, record_at}
use Rattle.register.specs.Register.{key_of, position_of, listed, register_ok}
use Rattle.register.specs.Helpers.{most_steps}
use Rattle.register.specs.Calls.{holds_record}
use Rattle.register.proofs.Entries.{record_count, customer_is, source_is, slot_within, list_start, length_is, list_is, list_within}
use Rattle.register.proofs.Holding.{sound, records-ok, ordered, has_room, room_records}

-- ---- positions among records

-- A pair's position is where its records begin, or would.
pub begins : (rs : List Record) → ascends key_of same_pair before_pair rs ≡ true → (c s : ℕ)
    → Begins (λ i. before_pair (key_of (record_at rs i)) (c, s)) (length rs) (position_of c s rs)
unfolding position_of
begins rs a c s = at_rank key_of same_pair before_pair ordered_pairs (c, s) rs _ a

-- ---- a well-formed register

module _ (ws : List ℕ) (e : register_ok ws ≡ true) where
  -- The two counts are within the words.
  pub head_within : counters ≤ length ws
  head_within = long record_head record_tail ws (sound ws e)

  -- Word 0 counts the records.
  pub count_is : get_or ws 0 0 ≡ length (records_of ws)
  count_is = record_count ws (sound ws e)

  -- There are at most as many records as there may be.
  pub few : length (records_of ws) ≤ most_records
  few = room_records (records_of ws) (has_room (records_of ws) (records-ok ws e))

  -- No position is behind the last record's.
  pub position_within : (c s : ℕ) → position_of c s (records_of ws) ≤ length (records_of ws)
  position_within c s = (begins (records_of ws) (ordered ws e) c s).within

  -- Slot i is within the words.
  pub slot_in : (i : ℕ) → i < length (records_of ws) → counters + i * record_width + record_width ≤ length ws
  slot_in i h = slot_within ws (sound ws e) i h

  -- The key words of slot i.
  pub key_is : (i : ℕ) → i < length (records_of ws)
      → ◌≡◌ {A = ℕ × ℕ} (get_or ws (counters + i * record_width) 0, get_or ws (counters + i * record_width + source_word) 0) (key_of (record_at (records_of ws) i))
  key_is i h = λ q. (customer_is ws (sound ws e) i h q, source_is ws (sound ws e) i h q)

  module _ (i : ℕ) (h : i < length (records_of ws)) where
    -- The words of slot i.
    pub customer_in : get_or ws (counters + i * record_width) 0 ≡ (record_at (records_of ws) i).customer
    customer_in = customer_is ws (sound ws e) i h

    pub source_in : get_or ws (counters + i * record_width + source_word) 0 ≡ (record_at (records_of ws) i).source
    source_in = source_is ws (sound ws e) i h

    pub start_in : get_or ws (counters + i * record_width + start_word) 0 ≡ listed (take i (records_of ws))
    start_in = list_start ws (sound ws e) i h

    pub count_in : get_or ws (counters + i * record_width + count_word) 0 ≡ length (record_at (records_of ws) i).providers
    count_in = length_is ws (sound ws e) i h

    -- Its list ends within the words.
    pub list_in :
        counters + length (records_of ws) * record_width + listed (take i (records_of ws)) + length (record_at (records_of ws) i).providers
        ≤ length ws
    list_in = list_within ws (sound ws e) i h

    -- It is the part of the words that begins there.
    pub list_part : (from n : ℕ) → from ≡ counters + length (records_of ws) * record_width + listed (take i (records_of ws))
        → n ≡ length (record_at (records_of ws) i).providers → take (from + n - from) (drop from ws) ≡ (record_at (records_of ws) i).providers
    list_part from n ef en =
        let z : from + n - from ≡ length (record_at (records_of ws) i).providers = omega arith in
        rw (z, ef) (list_is ws (sound ws e) i h)

  -- The slot at a pair's position is within the words, unless the position is past the last record.
  pub there_in : (c s : ℕ) {position n : ℕ} → position ≡ position_of c s (records_of ws) → n ≡ get_or ws 0 0 → position < n
      → counters + position * record_width + record_width ≤ length ws
  there_in c s {position} p q h = slot_in position (omega (arith, count_is))

  module _ (c s : ℕ) {position : ℕ} (p : position ≡ position_of c s (records_of ws)) where
    -- Past the last record the register does not hold the pair's.
    pub past : length (records_of ws) ≤ position → false ≡ holds_record c s (records_of ws)
    unfolding position_of
    past h =
        sym (holds_not_end key_of same_pair before_pair ordered_pairs (c, s) (records_of ws) (ordered ws e)
        (omega (arith, position_within c s)))

    module _ (h : position < length (records_of ws)) where
      -- The record at the position decides whether the register holds the pair's.
      decides : holds_record c s (records_of ws) ≡ (eqb (record_at (records_of ws) position).customer c && eqb (record_at (records_of ws) position).source s)
      unfolding position_of
      decides =
          rw p (
          holds_is key_of same_pair before_pair ordered_pairs (c, s) (records_of ws) _ (ordered ws e) (omega arith)
          ∙ same_flip same_pair before_pair ordered_pairs (c, s) (key_of (record_at (records_of ws) (position_of c s (records_of ws)))))

      -- The customer is the pair's: the source decides.
      pub there : (record_at (records_of ws) position).customer ≡ c → eqb (record_at (records_of ws) position).source s ≡ holds_record c s (records_of ws)
      there t = rw (decides, eq-eqb (record_at (records_of ws) position).customer c t)

      -- It is not: the register does not hold the record.
      pub other : ((record_at (records_of ws) position).customer ≡ c → ⊥) → false ≡ holds_record c s (records_of ws)
      other t = rw (decides, ne_eqb (record_at (records_of ws) position).customer c t)

-- What the words of a well-formed register say of its records.
pub ruleset words = (head_within, count_is, few, slot_in, customer_in, source_in, start_in, count_in, list_in, list_part)

-- ---- the search

module _ (ws : List ℕ) (e : register_ok ws ≡ true) (c s : ℕ) where
  -- The same of the words.
  begins_in : Begins (before_in record_width ws (c, s)) (get_or ws 0 0) (position_of c s (records_of ws))
  begins_in = rw (← count_is ws e) at (alike (begins (records_of ws) (ordered ws e) c s) (λ i l q. before_pair (sym (key_is ws e i l) q) (c, s)))

  -- The position that a search from one not behind it answers, and how soon.
  pub finds : (from : ℕ) {r : Range} → from ≤ position_of c s (records_of ws) → r ≡ searched_from (before_in record_width ws (c, s)) (get_or ws 0 0) from
      → (r.low ≡ position_of c s (records_of ws)) × (r.steps ≤ most_steps)
  finds from h e' =
      let k = eleven (get_or ws 0 0 - from) (omega (arith, count_is ws e, few ws e)) in
      let t = searches.few (before_in record_width ws (c, s)) (get_or ws 0 0) from in
      rw e' ((searches.found (before_in record_width ws (c, s)) (get_or ws 0 0) from _ begins_in h).0, omega arith)
