-- Tables of records: what each word says of the records whose entries a table holds. Assumes nothing.
use mathlib.Core.Path.{◌≡◌, refl, sym, ap, ◌∙◌}
use mathlib.Core.Bool.{true}
use mathlib.Core.List.{List, [], ◌∷◌, ◌++◌, map, map-append}
use Prim.Native.Nat.{ℕ, zero, suc, ◌+◌, ◌*◌, ◌≤◌, ◌<◌}
use native.Mathlib.Omega.{arith}
use native.Mathlib.Nat.{add-zero}
use lib.ListN.{length, take, drop, get_or, length-append, length-map, get_or-map}
use Rattle.table.specs.Table.{counters, Entry, width, bodies, encode, decode, insert_at, remove_at, Wide, Sound, start_of, well_formed}
use Rattle.table.proofs.Sounds.{blank, nth, count_is, body_is, in_slot, wide_at, start_is, slot_count_is, head_is, part_is}
use Rattle.table.proofs.Exact.{decode_encode, length_encode, encode_passes}

-- Records are written as entries of h head words and t tail words, and read back.
pub record Typing {R : Type 0} (h t : ℕ) (to_entry : R → Entry) (of_entry : Entry → R) : Type 0 where
  pub wide : (r : R) → (length (to_entry r).head ≡ h) × (length (to_entry r).tail ≡ t)
  pub back : (r : R) → of_entry (to_entry r) ≡ r
  pub forth : (e : Entry) → length e.head ≡ h → length e.tail ≡ t → to_entry (of_entry e) ≡ e

-- The first ones, mapped before or after they are taken.
pub take_map : {A B : Type 0} (f : A → B) (i : ℕ) (l : List A) → take i (map f l) ≡ map f (take i l)
take_map f zero l = refl
take_map f (suc i) [] = refl
take_map f (suc i) (x ∷ l) = ap (λ k. f x ∷ k) (take_map f i l)

-- The others, mapped before or after the first ones are dropped.
drop_map : {A B : Type 0} (f : A → B) (i : ℕ) (l : List A) → drop i (map f l) ≡ map f (drop i l)
drop_map f zero l = refl
drop_map f (suc i) [] = refl
drop_map f (suc i) (x ∷ l) = drop_map f i l

-- No words.
pub no_words : (l : List ℕ) → length l ≡ 0 → l ≡ []
no_words [] e = refl
no_words (x ∷ l) e = absurd (omega arith)

-- ---- the bodies of records

module _ {R : Type 0} (to_entry : R → Entry) where
  -- How many words the bodies of records take together.
  abbrev pub bodied : List R → ℕ
  bodied rs = length (bodies (map to_entry rs))

  -- The bodies of the first i + 1 records: those of the first i, and that of record i.
  pub bodied_next : (rs : List R) (d : R) (i : ℕ) → i < length rs → bodied (take (suc i) rs) ≡ bodied (take i rs) + length (to_entry (get_or rs i d)).body
  unfolding bodies
  bodied_next [] d i l = absurd (omega arith)
  bodied_next (r ∷ rs) d zero l = omega (arith, length-append (to_entry r).body [])
  bodied_next (r ∷ rs) d (suc i) l =
      omega (
        arith,
        bodied_next rs d i (omega arith),
        length-append (to_entry r).body (bodies (map to_entry (take i rs))),
        length-append (to_entry r).body (bodies (map to_entry (take (suc i) rs))),
      )

  -- The first records' bodies are no more than all.
  pub bodied_take : (rs : List R) (i : ℕ) → bodied (take i rs) ≤ bodied rs
  unfolding bodies
  bodied_take [] zero = omega arith
  bodied_take [] (suc i) = omega arith
  bodied_take (r ∷ rs) zero = omega arith
  bodied_take (r ∷ rs) (suc i) =
      omega (
        arith,
        bodied_take rs i,
        length-append (to_entry r).body (bodies (map to_entry (take i rs))),
        length-append (to_entry r).body (bodies (map to_entry rs)),
      )

  -- A record put in at a position adds its own body.
  pub bodied_inserted : (i : ℕ) (r : R) (rs : List R) → bodied (take i rs ++ (r ∷ drop i rs)) ≡ bodied rs + length (to_entry r).body
  unfolding bodies
  bodied_inserted zero r rs = omega (arith, length-append (to_entry r).body (bodies (map to_entry rs)))
  bodied_inserted (suc i) r [] = omega (arith, length-append (to_entry r).body [])
  bodied_inserted (suc i) r (x ∷ rs) =
      omega (
        arith,
        bodied_inserted i r rs,
        length-append (to_entry x).body (bodies (map to_entry (take i rs ++ (r ∷ drop i rs)))),
        length-append (to_entry x).body (bodies (map to_entry rs)),
      )

  -- ---- a record put in or taken out at a position, as entries

  -- The entry of a record goes in among those of others.
  pub inserted_entries : (i : ℕ) (r : R) (rs : List R)
      → insert_at i (to_entry r) (map to_entry rs) ≡ map to_entry (take i rs ++ (r ∷ drop i rs))
  unfolding insert_at
  inserted_entries i r rs =
      (λ q. take_map to_entry i rs q ++ (to_entry r ∷ drop_map to_entry i rs q)) ∙ sym (map-append to_entry (take i rs) (r ∷ drop i rs))

  -- The entry of record i goes out.
  pub removed_entries : (i : ℕ) (rs : List R) → remove_at i (map to_entry rs) ≡ map to_entry (take i rs ++ drop (suc i) rs)
  unfolding remove_at
  removed_entries i rs =
      (λ q. take_map to_entry i rs q ++ drop_map to_entry (suc i) rs q) ∙ sym (map-append to_entry (take i rs) (drop (suc i) rs))

-- ---- entries and records

module _ {R : Type 0} {h t : ℕ} {to_entry : R → Entry} {of_entry : Entry → R} (T : Typing h t to_entry of_entry) where
  -- Entries of the right widths are those of the records read from them.
  pub entries_are : (es : List Entry) → Wide h t es → es ≡ map to_entry (map of_entry es)
  unfolding Wide
  entries_are [] w = refl
  entries_are (e ∷ es) w = λ q. sym (T.forth e w.0.0 w.0.1) q ∷ entries_are es w.1 q

  -- Records are read back from their entries.
  pub records_are : (rs : List R) → map of_entry (map to_entry rs) ≡ rs
  records_are [] = refl
  records_are (r ∷ rs) = λ q. T.back r q ∷ records_are rs q

  -- Entries of records have the right widths.
  pub entries_wide : (rs : List R) → Wide h t (map to_entry rs)
  unfolding Wide
  entries_wide [] = tt
  entries_wide (r ∷ rs) = (T.wide r, entries_wide rs)

  module _ (size : ℕ) (rs : List R) (fits : counters + length rs * width h t + bodied to_entry rs ≤ size) where
    -- Entries of records that fit, fit.
    entries_fit : counters + length (map to_entry rs) * width h t + length (bodies (map to_entry rs)) ≤ size
    entries_fit = rw (length-map rs to_entry) fits

    -- What is written is read back.
    pub records_of_words : map of_entry (decode h t (encode size (map to_entry rs))) ≡ rs
    records_of_words = ap (map of_entry) (decode_encode h t size (map to_entry rs) (entries_wide rs) entries_fit) ∙ records_are rs

    -- What is written has the size that it is to have.
    pub words_long : length (encode size (map to_entry rs)) ≡ size
    words_long = length_encode h t size (map to_entry rs) (entries_wide rs) entries_fit

    -- What is written is well-formed.
    pub words_formed : well_formed h t (encode size (map to_entry rs)) ≡ true
    words_formed = encode_passes h t size (map to_entry rs) (entries_wide rs) entries_fit

  -- ---- the words of a sound table

  module _ (ws : List ℕ) (s : Sound h t ws) where
    -- The entries are those of the records.
    pub decoded : decode h t ws ≡ map to_entry (map of_entry (decode h t ws))
    decoded = entries_are (decode h t ws) s.wide

    -- There are as many records as entries.
    pub length_records : length (map of_entry (decode h t ws)) ≡ length (decode h t ws)
    length_records = length-map (decode h t ws) of_entry

    -- The words are those of the records.
    pub words_are : (size : ℕ) → length ws ≡ size → ws ≡ encode size (map to_entry (map of_entry (decode h t ws)))
    words_are size e = s.same ∙ (λ q. encode (e q) (decoded q))

    -- Word 0 counts the records.
    pub count-word : get_or ws 0 0 ≡ length (map of_entry (decode h t ws))
    count-word = count_is h t ws s ∙ sym length_records

    -- Word 1 counts the words of their bodies.
    pub bodies_word : get_or ws 1 0 ≡ bodied to_entry (map of_entry (decode h t ws))
    bodies_word = body_is h t ws s ∙ ap (λ es. length (bodies es)) decoded

    -- Record i is read from entry i.
    pub record_is : (i : ℕ) → get_or (map of_entry (decode h t ws)) i (of_entry blank) ≡ of_entry (nth i (decode h t ws))
    record_is i = get_or-map of_entry (decode h t ws) i blank

    module _ (i : ℕ) (l : i < length (map of_entry (decode h t ws))) where
      -- Entry i is one of the entries.
      within : i < length (decode h t ws)
      within = omega (arith, length_records)

      -- Entry i is that of record i.
      entry_is : nth i (decode h t ws) ≡ to_entry (get_or (map of_entry (decode h t ws)) i (of_entry blank))
      entry_is =
          let w = (wide_at h t ws s i within).0 in
          sym (T.forth (nth i (decode h t ws)) w.0 w.1) ∙ ap to_entry (sym (record_is i))

      -- The start of body i: the bodies of the records before it.
      start-of : start_of i (decode h t ws) ≡ bodied to_entry (take i (map of_entry (decode h t ws)))
      unfolding start_of
      start-of =
          ap (λ es. length (bodies (take i es))) decoded ∙ ap (λ es. length (bodies es)) (take_map to_entry i (map of_entry (decode h t ws)))

      -- Slot i lies within the words.
      pub slot_within : counters + i * width h t + width h t ≤ length ws
      slot_within = in_slot h t ws s i within

      -- Word j of slot i is head word j of record i.
      pub head_word : (j : ℕ) → j < h
          → get_or ws (counters + i * width h t + j) 0 ≡ get_or (to_entry (get_or (map of_entry (decode h t ws)) i (of_entry blank))).head j 0
      head_word j k = head_is h t ws s i within j k ∙ ap (λ e. get_or e.head j 0) entry_is

      -- The first word of slot i is the first head word of record i.
      pub first_word : 0 < h → get_or ws (counters + i * width h t) 0 ≡ get_or (to_entry (get_or (map of_entry (decode h t ws)) i (of_entry blank))).head 0 0
      first_word k = ap (λ (m : ℕ). get_or ws m 0) (sym (add-zero (counters + i * width h t))) ∙ head_word 0 k

      -- Behind the head words of slot i: where its body starts.
      pub start-word : get_or ws (counters + i * width h t + h) 0 ≡ bodied to_entry (take i (map of_entry (decode h t ws)))
      start-word = start_is h t ws s i within ∙ start-of

      -- Behind the start: how many words its body has.
      pub length_word : get_or ws (counters + i * width h t + h + 1) 0 ≡ length (to_entry (get_or (map of_entry (decode h t ws)) i (of_entry blank))).body
      length_word = slot_count_is h t ws s i within ∙ ap (λ e. length e.body) entry_is

      -- The body of record i, as the part of the words that it is.
      pub body_part :
          take (length (to_entry (get_or (map of_entry (decode h t ws)) i (of_entry blank))).body)
          (drop (counters + length (map of_entry (decode h t ws)) * width h t + bodied to_entry (take i (map of_entry (decode h t ws)))) ws)
          ≡ (to_entry (get_or (map of_entry (decode h t ws)) i (of_entry blank))).body
      body_part =
          (λ q. take (length (sym entry_is q).body) (drop (counters + length_records q * width h t + sym start-of q) ws))
          ∙ part_is h t ws s i within
          ∙ ap (λ e. e.body) entry_is

      -- It ends within the words.
      pub body_within : counters + length (map of_entry (decode h t ws)) * width h t + bodied to_entry (take i (map of_entry (decode h t ws)))
          + length (to_entry (get_or (map of_entry (decode h t ws)) i (of_entry blank))).body ≤ length ws
      body_within =
          let rs : List R = map of_entry (decode h t ws) in
          let f : counters + length rs * width h t + bodied to_entry rs ≤ length ws =
          rw (length_records, ← bodies_word, body_is h t ws s) s.fits in
          omega (arith, f, bodied_next to_entry rs (of_entry blank) i l, bodied_take to_entry rs (suc i))
