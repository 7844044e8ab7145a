-- A register's words and its records: what each word says. Assumes nothing.
use Prim.Native.Nat.{ℕ, suc, ◌+◌, ◌*◌, ◌≤◌, ◌<◌}
use mathlib.Core.Path.{◌≡◌, refl, sym, ◌∙◌, ap}
use mathlib.Core.List.{List, [], ◌∷◌, map}
use native.Mathlib.Omega.{arith}
use lib.ListN.{length, get_or, take, drop, length-append, length-map}
use Rattle.table.specs.Table.{counters, Entry, bodies, decode, Wide, Sound}
use Rattle.table.proofs.Sounds.{nth}
use Rattle.table.proofs.Typed
use Rattle.table.proofs.Typed.{Typing, no_words}
use Rattle.rules.specs.Records.{Record}
use Rattle.register.specs.Register.{record_head, record_tail, record_width, source_word, start_word, count_word, register_words, most_records, most_listed, record_of, entry_of, records_of, register_of, record_at, listed}

-- ---- entries and records

-- Two head words are the customer and the source.
two_words : (l : List ℕ) → length l ≡ record_head → l ≡ get_or l 0 0 ∷ (get_or l 1 0 ∷ [])
two_words [] e = absurd (omega arith)
two_words (x ∷ []) e = absurd (omega arith)
two_words (x ∷ (y ∷ [])) e = refl
two_words (x ∷ (y ∷ (z ∷ l))) e = absurd (omega arith)

-- Records are entries of two head words and no tail.
pub typing : Typing record_head record_tail entry_of record_of
typing = record {
  wide = λ r. (refl, refl);
  back = λ r. refl;
  forth = λ e p q. λ i. record { head = sym (two_words e.head p) i; body = e.body; tail = sym (no_words e.tail q) i };
}

-- Entries two head words wide are those of the records read from them.
pub entries_are : (es : List Entry) → Wide record_head record_tail es → es ≡ map entry_of (map record_of es)
entries_are = Typed.entries_are typing

-- Records are read back from their entries.
pub records_are : (rs : List Record) → map record_of (map entry_of rs) ≡ rs
records_are = Typed.records_are typing

-- Entries of records are two head words wide.
pub entries_wide : (rs : List Record) → Wide record_head record_tail (map entry_of rs)
entries_wide = Typed.entries_wide typing

-- The bodies hold the numbers in the lists.
pub bodies_listed : (rs : List Record) → length (bodies (map entry_of rs)) ≡ listed rs
unfolding bodies listed
bodies_listed [] = refl
bodies_listed (r ∷ rs) = length-append r.providers (bodies (map entry_of rs)) ∙ ap (λ n. length r.providers + n) (bodies_listed rs)

-- The numbers in the lists before i, and in those before i + 1.
pub listed_next : (rs : List Record) (i : ℕ) → i < length rs → listed (take (suc i) rs) ≡ listed (take i rs) + length (record_at rs i).providers
listed_next rs i h =
    rw (← bodies_listed (take (suc i) rs), ← bodies_listed (take i rs)) (Typed.bodied_next entry_of rs (record_at [] 0) i h)

-- No more numbers in the first lists than in all.
pub listed_take : (rs : List Record) (i : ℕ) → listed (take i rs) ≤ listed rs
listed_take rs i = rw (← bodies_listed (take i rs), ← bodies_listed rs) (Typed.bodied_take entry_of rs i)

-- As many entries as records.
pub length_entries : (rs : List Record) → length (map entry_of rs) ≡ length rs
length_entries rs = length-map rs entry_of

-- Records within both limits fit into a register.
pub records_fit : (rs : List Record) → length rs ≤ most_records → listed rs ≤ most_listed
    → counters + length (map entry_of rs) * record_width + length (bodies (map entry_of rs)) ≤ register_words
records_fit rs h h' = omega (arith, length_entries rs, bodies_listed rs)

-- What is written is read back.
pub records_of_words : (rs : List Record) → length rs ≤ most_records → listed rs ≤ most_listed → records_of (register_of rs) ≡ rs
unfolding records_of register_of
records_of_words rs h h' = Typed.records_of_words typing register_words rs (omega (arith, bodies_listed rs))

module _ (ws : List ℕ) (s : Sound record_head record_tail ws) where
  -- The entries are those of the records.
  pub decoded : decode record_head record_tail ws ≡ map entry_of (records_of ws)
  unfolding records_of
  decoded = Typed.decoded typing ws s

  -- There are as many records as entries.
  pub length_records : length (records_of ws) ≡ length (decode record_head record_tail ws)
  unfolding records_of
  length_records = Typed.length_records typing ws s

  -- A register's words are those of its records.
  pub words_are : length ws ≡ register_words → ws ≡ register_of (records_of ws)
  unfolding register_of records_of
  words_are = Typed.words_are typing ws s register_words

  -- Word 0 counts the records.
  pub record_count : get_or ws 0 0 ≡ length (records_of ws)
  unfolding records_of
  record_count = Typed.count-word typing ws s

  -- Word 1 counts the numbers in their lists.
  pub list_count : get_or ws 1 0 ≡ listed (records_of ws)
  unfolding records_of
  list_count = Typed.bodies_word typing ws s ∙ bodies_listed (records_of ws)

  -- Record i is read from entry i.
  pub record_is : (i : ℕ) → record_at (records_of ws) i ≡ record_of (nth i (decode record_head record_tail ws))
  unfolding records_of
  record_is = Typed.record_is typing ws s

  module _ (i : ℕ) (h : i < length (records_of ws)) where
    -- Slot i lies within the words.
    pub slot_within : counters + i * record_width + record_width ≤ length ws
    unfolding records_of
    slot_within = Typed.slot_within typing ws s i h

    -- The first word of slot i is the customer.
    pub customer_is : get_or ws (counters + i * record_width) 0 ≡ (record_at (records_of ws) i).customer
    unfolding records_of
    customer_is = Typed.first_word typing ws s i h (omega arith)

    -- The second is the source.
    pub source_is : get_or ws (counters + i * record_width + source_word) 0 ≡ (record_at (records_of ws) i).source
    unfolding records_of
    source_is = Typed.head_word typing ws s i h source_word (omega arith)

    -- The fourth counts the numbers in the list.
    pub length_is : get_or ws (counters + i * record_width + count_word) 0 ≡ length (record_at (records_of ws) i).providers
    unfolding records_of
    length_is = ap (λ k. get_or ws k 0) (omega arith) ∙ Typed.length_word typing ws s i h

    -- The third counts those in the lists before it.
    pub list_start : get_or ws (counters + i * record_width + start_word) 0 ≡ listed (take i (records_of ws))
    unfolding records_of
    list_start = Typed.start-word typing ws s i h ∙ bodies_listed (take i (records_of ws))

    -- A record's list, as the part of the words that it is.
    pub list_is :
        take (length (record_at (records_of ws) i).providers) (drop (counters + length (records_of ws) * record_width + listed (take i (records_of ws))) ws)
        ≡ (record_at (records_of ws) i).providers
    unfolding records_of
    list_is = rw (← bodies_listed (take i (records_of ws))) (Typed.body_part typing ws s i h)

    -- It ends within the words.
    pub list_within : counters + length (records_of ws) * record_width + listed (take i (records_of ws)) + length (record_at (records_of ws) i).providers ≤ length ws
    unfolding records_of
    list_within = rw (← bodies_listed (take i (records_of ws))) (Typed.body_within typing ws s i h)
