-- The entries that are kept, and one turn of the loop of `pack_bodies`. Assumes nothing.
use mathlib.Core.Path.{◌≡◌, refl, sym, ap, ◌∙◌}
use mathlib.Core.Bool.{Bool, true, false, cond}
use mathlib.Core.List.{List, [], ◌∷◌, ◌++◌}
use Prim.Native.Nat.{ℕ, suc, ◌+◌, ◌-◌, ◌*◌, ◌≤◌, ◌<◌, ◌^◌}
use native.Mathlib.Omega.{arith}
use native.Mathlib.Numerals.{add-one}
use lib.Dec.{eqb}
use lib.ListN.{length, take, drop, get_or, length-append, drop_of_length-le}
use lib.Seq.{drop-cons, take-suc, get_or-take, drop-drop}
use borrow.Author.Tests.{eq-eqb, ne_eqb}
use Rattle.runs.specs.Words.{pasted}
use Rattle.runs.proofs.Laws.{length_pasted, paste_none, paste_paste, take_pasted, drop_pasted}
use Rattle.table.specs.Table.{counters, Entry, width, bodies, Wide, decode, start_of, staying_entries, gone_entries}
use Rattle.table.specs.Helpers.{Clearable}
use Rattle.table.proofs.Tables.{bodies_append}
use Rattle.table.proofs.Sounds.{nth, blank, count_is, start_under, less_mul, slot_count_is, head_is, part_is}

-- ---- the entries that are kept

module _ (column value : ℕ) where
  module _ (e : Entry) (es : List Entry) where
    -- An entry with the value goes out.
    pub kept_out : get_or e.head column 0 ≡ value → staying_entries column value (e ∷ es) ≡ staying_entries column value es
    unfolding staying_entries
    kept_out q = ap (λ (b : Bool). cond b (staying_entries column value es) (e ∷ staying_entries column value es)) (eq-eqb (get_or e.head column 0) value q)

    -- Another stays.
    pub kept_in : (get_or e.head column 0 ≡ value → ⊥) → staying_entries column value (e ∷ es) ≡ e ∷ staying_entries column value es
    unfolding staying_entries
    kept_in q = ap (λ (b : Bool). cond b (staying_entries column value es) (e ∷ staying_entries column value es)) (ne_eqb (get_or e.head column 0) value q)

  -- Heads and tails have the right lengths still.
  pub staying_wide : (h t : ℕ) (es : List Entry) → Wide h t es → Wide h t (staying_entries column value es)
  unfolding staying_entries Wide
  staying_wide h t [] w = tt
  staying_wide h t (e ∷ es) w = with_it (eqb (get_or e.head column 0) value) (staying_entries column value es) (staying_wide h t es w.1)
    where
      -- With the first entry or without it.
      with_it : (b : Bool) (ks : List Entry) → Wide h t ks → Wide h t (cond b ks (e ∷ ks))
      with_it true ks v = v
      with_it false ks v = (w.0, v)

  -- Those that go and those that stay are all.
  pub gone_staying : (es : List Entry) → gone_entries column value es + length (staying_entries column value es) ≡ length es
  unfolding gone_entries staying_entries
  gone_staying [] = refl
  gone_staying (e ∷ es) =
      with_it (eqb (get_or e.head column 0) value) (gone_entries column value es) (staying_entries column value es) (gone_staying es)
    where
      -- With the first entry or without it.
      with_it : (b : Bool) (n : ℕ) (ks : List Entry) → n + length ks ≡ length es → cond b (suc n) n + length (cond b ks (e ∷ ks)) ≡ suc (length es)
      with_it true n ks v = omega arith
      with_it false n ks v = omega arith

  -- So many went that those that stay and they are all.
  pub went : (es : List Entry) {n : ℕ} → n ≡ gone_entries column value es → n + length (staying_entries column value es) ≡ length es
  went es e = omega (arith, e, gone_staying es)

  -- There are not more entries.
  pub staying_length : (es : List Entry) → length (staying_entries column value es) ≤ length es
  unfolding staying_entries
  staying_length [] = omega arith
  staying_length (e ∷ es) = with_it (eqb (get_or e.head column 0) value) (staying_entries column value es) (staying_length es)
    where
      -- With the first entry or without it.
      with_it : (b : Bool) (ks : List Entry) → length ks ≤ length es → length (cond b ks (e ∷ ks)) ≤ suc (length es)
      with_it true ks v = omega arith
      with_it false ks v = omega arith

  -- There are not more body words.
  pub staying_bodies : (es : List Entry) → length (bodies (staying_entries column value es)) ≤ length (bodies es)
  unfolding staying_entries bodies
  staying_bodies [] = omega arith
  staying_bodies (e ∷ es) = with_it (eqb (get_or e.head column 0) value) (staying_entries column value es) (staying_bodies es)
    where
      -- With the first entry or without it.
      with_it : (b : Bool) (ks : List Entry) → length (bodies ks) ≤ length (bodies es) → length (bodies (cond b ks (e ∷ ks))) ≤ length (e.body ++ bodies es)
      with_it true ks v = omega (arith, length-append e.body (bodies es))
      with_it false ks v = omega (arith, length-append e.body (bodies es), length-append e.body (bodies ks))

-- ---- the bodies from entry i on

-- The next body starts where this one ends.
pub start_next : (i : ℕ) (es : List Entry) → i < length es → start_of (i + 1) es ≡ start_of i es + length (nth i es).body
unfolding start_of bodies
start_next i es l =
    let x : Entry = nth i es in
    ap (λ (k : ℕ). length (bodies (take k es))) (add-one i)
    ∙ ap (λ (d : List Entry). length (bodies d)) (take-suc es i blank l)
    ∙ ap length (bodies_append (take i es) (x ∷ []))
    ∙ length-append (bodies (take i es)) (x.body ++ [])
    ∙ omega (arith, length-append x.body [])

module _ (column value i : ℕ) (es : List Entry) (l : i < length es) where
  -- Those from i on are that at i and those behind it.
  abbrev from_here : drop i es ≡ nth i es ∷ drop (i + 1) es
  from_here = drop-cons es i blank l ∙ ap (λ (k : ℕ). nth i es ∷ drop k es) (sym (add-one i))

  -- Where the entry at i goes out, the bodies kept are those behind it.
  pub bodies_out : get_or (nth i es).head column 0 ≡ value
      → bodies (staying_entries column value (drop i es)) ≡ bodies (staying_entries column value (drop (i + 1) es))
  bodies_out q = ap (λ (d : List Entry). bodies (staying_entries column value d)) from_here ∙ ap bodies (kept_out column value (nth i es) (drop (i + 1) es) q)

  -- Where it stays, its body comes before those.
  pub bodies_in : (get_or (nth i es).head column 0 ≡ value → ⊥)
      → bodies (staying_entries column value (drop i es)) ≡ (nth i es).body ++ bodies (staying_entries column value (drop (i + 1) es))
  unfolding bodies
  bodies_in q = ap (λ (d : List Entry). bodies (staying_entries column value d)) from_here ∙ ap bodies (kept_in column value (nth i es) (drop (i + 1) es) q)

-- ---- the loop of `pack_bodies`

-- What holds of its locals: the entries from i on are left to do.
pub record Packed (ws : List ℕ) (h t column value n end : ℕ) (s : List ℕ) (from to i : ℕ) : Type 0 where
  pub may : Clearable h t ws column
  pub some : 0 < n
  pub many : n ≡ length (decode h t ws)
  pub slots_end : end ≡ counters + n * width h t
  pub long : length s ≡ length ws
  pub turn : i ≤ n
  pub above : end ≤ to
  pub below : to ≤ from
  pub start : from ≡ end + start_of i (decode h t ws)
  pub same_slots : take end s ≡ take end ws
  pub same_bodies : drop from s ≡ drop from ws
  pub left : pasted s to (bodies (staying_entries column value (drop i (decode h t ws)))) ≡ pasted ws end (bodies (staying_entries column value (decode h t ws)))
  pub sum : to + length (bodies (staying_entries column value (drop i (decode h t ws)))) ≡ end + length (bodies (staying_entries column value (decode h t ws)))

-- It holds at the start.
abbrev pub packed : (ws : List ℕ) (h t column value n : ℕ) → Clearable h t ws column × (0 < length (decode h t ws)) → n ≡ get_or ws 0 0
    → Packed ws h t column value n (counters + n * width h t) ws (counters + n * width h t) (counters + n * width h t) 0
unfolding start_of bodies
packed ws h t column value n may read =
    record {
      may = may.0;
      some = omega (arith, may.1, read, count_is h t ws may.0.sound);
      many = read ∙ count_is h t ws may.0.sound;
      slots_end = refl;
      long = refl;
      turn = omega arith;
      above = omega arith;
      below = omega arith;
      start = omega arith;
      same_slots = refl;
      same_bodies = refl;
      left = refl;
      sum = refl;
    }

module _ {ws : List ℕ} {h t column value n end : ℕ} {s : List ℕ} {from to i : ℕ} (P : Packed ws h t column value n end s from to i) where
  -- All entries.
  abbrev D : List Entry
  D = decode h t ws

  -- The bodies lie within the table.
  pub pack_room : (width h t ≤ n * width h t) × (end + length (bodies D) ≤ length ws) × (from ≤ end + length (bodies D)) × (length ws < 2 ^ 32)
  pack_room =
      let e : n * width h t ≡ length D * width h t = ap (λ (k : ℕ). k * width h t) P.many in (
        omega (arith, less_mul 0 n (width h t) P.some),
        omega (arith, P.slots_end, e, P.may.sound.fits),
        omega (arith, P.start, start_under h t ws P.may.sound i),
        P.may.small,
      )

  -- Where no entry is left, all is done.
  pub pack_done : n ≤ i
      → (s ≡ pasted ws (counters + length D * width h t) (bodies (staying_entries column value D))) × (to - end ≡ length (bodies (staying_entries column value D)))
  unfolding staying_entries bodies
  pack_done l =
      let past : length D ≤ i = omega (arith, P.many) in
      let none : drop i D ≡ [] = drop_of_length-le D past in
      let e : end ≡ counters + length D * width h t = P.slots_end ∙ ap (λ (k : ℕ). counters + k * width h t) P.many in
      let z : length (bodies (staying_entries column value (drop i D))) ≡ 0 = ap (λ (d : List Entry). length (bodies (staying_entries column value d))) none in (
        sym (paste_none s to) ∙ ap (λ (d : List Entry). pasted s to (bodies (staying_entries column value d))) (sym none)
            ∙ P.left ∙ ap (λ (k : ℕ). pasted ws k (bodies (staying_entries column value D))) e,
        omega (arith, P.sum, z),
      )

  module _ (l : i < n) where
    -- There is an entry at i.
    abbrev is_in : i < length D
    is_in = omega (arith, P.many)

    -- Its slot lies within the slots.
    pub pack_slot : counters + i * width h t + width h t ≤ end
    pack_slot = omega (arith, P.slots_end, less_mul i n (width h t) l)

    -- A word of the slots is as it was.
    same_word : (j : ℕ) → j < end → get_or s j 0 ≡ get_or ws j 0
    same_word j u = sym (get_or-take end s j 0 u) ∙ ap (λ (r : List ℕ). get_or r j 0) P.same_slots ∙ get_or-take end ws j 0 u

    -- The word read in the column is that of the entry's head.
    pub pack_column : get_or s (counters + i * width h t + column) 0 ≡ get_or (nth i D).head column 0
    pack_column =
        same_word (counters + i * width h t + column) (omega (arith, pack_slot, P.may.within))
        ∙ head_is h t ws P.may.sound i is_in column P.may.within

    module _ (count : ℕ) (read : count ≡ get_or s (counters + i * width h t + h + 1) 0) where
      -- The count read is the length of the entry's body.
      pack_count : length (nth i D).body ≡ count
      pack_count = sym (read ∙ same_word (counters + i * width h t + h + 1) (omega (arith, pack_slot)) ∙ slot_count_is h t ws P.may.sound i is_in)

      -- The next body starts where this one ends.
      pack_next : from + count ≡ end + start_of (i + 1) D
      pack_next = omega (arith, P.start, start_next i D is_in, pack_count)

      -- This body lies within the bodies.
      pub pack_fits : from + count ≤ end + length (bodies D)
      pack_fits = omega (arith, pack_next, start_under h t ws P.may.sound (i + 1))

      -- So it lies within the slice, and neither of the two positions leaves the address space.
      pub pack_reach : (to ≤ from) × (from + count ≤ length s) × (length s < 2 ^ 32)
      pack_reach = (P.below, omega (arith, pack_fits, pack_room, P.long), omega (arith, P.long, P.may.small))

      -- The words behind it are as they were.
      same_behind : drop (from + count) s ≡ drop (from + count) ws
      same_behind = sym (drop-drop count from s) ∙ ap (drop count) P.same_bodies ∙ drop-drop count from ws

      -- The words read are the entry's body.
      pack_body : take count (drop from s) ≡ (nth i D).body
      pack_body =
          let e : from ≡ counters + length D * width h t + start_of i D =
          omega (arith, P.start, P.slots_end, ap (λ (k : ℕ). k * width h t) P.many) in
          ap (take count) P.same_bodies ∙ (λ j. take (sym pack_count j) (drop (e j) ws)) ∙ part_is h t ws P.may.sound i is_in

      -- A turn in which the entry goes out.
      pub pack_out : get_or s (counters + i * width h t + column) 0 ≡ value → Packed ws h t column value n end s (from + count) to (i + 1)
      pack_out q =
          let e = bodies_out column value i D is_in (sym pack_column ∙ q) in
          record {
            may = P.may;
            some = P.some;
            many = P.many;
            slots_end = P.slots_end;
            long = P.long;
            turn = omega arith;
            above = P.above;
            below = omega (arith, P.below);
            start = pack_next;
            same_slots = P.same_slots;
            same_bodies = same_behind;
            left = ap (pasted s to) (sym e) ∙ P.left;
            sum = omega (arith, P.sum, ap length e);
          }

      -- A turn in which it stays.
      pub pack_in : (get_or s (counters + i * width h t + column) 0 ≡ value → ⊥) → (u : List ℕ) → u ≡ pasted s to (take count (drop from s))
          → Packed ws h t column value n end u (from + count) (to + count) (i + 1)
      pack_in q u made =
          let x : List ℕ = (nth i D).body in
          let rest : List ℕ = bodies (staying_entries column value (drop (i + 1) D)) in
          let e : bodies (staying_entries column value (drop i D)) ≡ x ++ rest = bodies_in column value i D is_in (λ r. q (pack_column ∙ r)) in
          let is : u ≡ pasted s to x = made ∙ ap (pasted s to) pack_body in
          let fits : to + length x ≤ length s = omega (arith, pack_count, pack_fits, pack_room, P.long, P.below) in
          let low : to ≤ length s = omega arith in
          record {
            may = P.may;
            some = P.some;
            many = P.many;
            slots_end = P.slots_end;
            long = ap length is ∙ length_pasted s x to fits ∙ P.long;
            turn = omega arith;
            above = omega (arith, P.above);
            below = omega (arith, P.below);
            start = pack_next;
            same_slots = ap (take end) is ∙ take_pasted s x to end P.above low ∙ P.same_slots;
            same_bodies = ap (drop (from + count)) is ∙ drop_pasted s x to (from + count) (omega (arith, pack_count, P.below)) low ∙ same_behind;
            left = ap (λ (l : List ℕ). pasted l (to + count) rest) is
                ∙ paste_paste s x rest to (to + count) (omega (arith, pack_count)) low
                ∙ ap (pasted s to) (sym e) ∙ P.left;
            sum = omega (arith, P.sum, ap length e, length-append x rest, pack_count);
          }
