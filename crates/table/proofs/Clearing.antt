-- One turn of the loop of `pack_slots`, and what the steps of `clear` make of a table. Assumes nothing.
use mathlib.Core.Path.{◌≡◌, refl, sym, ap, ◌∙◌}
use mathlib.Core.Bool.{Bool, true, false, cond}
use mathlib.Core.List.{List, [], ◌∷◌, ◌++◌, append_assoc}
use Prim.Native.Nat.{ℕ, suc, ◌+◌, ◌-◌, ◌*◌, ◌≤◌, ◌<◌, ◌^◌}
use native.Mathlib.Omega.{arith}
use native.Mathlib.Nat.{suc-mul, mul-le-mul_right, eq_of_mul-eq-mul_right}
use native.Mathlib.Numerals.{add-one}
use lib.Dec.{eqb}
use lib.ListN.{length, take, drop, set, get_or, replicate, length-append, length-drop, length-set}
use lib.ListN.{get_or-append, replicate-append-replicate, drop_of_length-le}
use lib.Seq.{get_or-drop, drop-drop, take-set-lt, length-take-le, take_at, drop_at}
use borrow.Author.Tests.{eq-eqb, ne_eqb}
use Rattle.runs.specs.Words.{pasted, zeroed}
use Rattle.runs.proofs.Laws.{length_pasted, paste_none, paste_paste, drop_pasted, set_pasted, take_to_pasted, drop_to_pasted}
use Rattle.table.specs.Table.{counters, span, Entry, width, slots, bodies, pad, encode, Wide, decode, staying_entries, gone_entries}
use Rattle.table.specs.Helpers.{counts, staying_slots, Clearable}
use Rattle.table.proofs.Tables.{slot_head, slot_count, slot_tail, slot_rest, length_slots, counts_slots}
use Rattle.table.proofs.Laws.{slot_set, count_index, counts_peel}
use Rattle.table.proofs.Sounds.{less_mul, count_is, body_is}
use Rattle.table.proofs.Exact.{slots_first}
use Rattle.table.proofs.Staying.{gone_staying, staying_wide, staying_length, staying_bodies}

-- ---- the slots that are kept

-- One slot more.
next_mul : (i w : ℕ) → (i + 1) * w ≡ i * w + w
next_mul i w = ap (λ (k : ℕ). k * w) (add-one i) ∙ suc-mul i w

-- A slot with start o.
abbrev anew : ℕ → ℕ → ℕ → List ℕ → List ℕ
anew h t o xs = take h xs ++ (o ∷ (get_or xs (h + 1) 0 ∷ take t (drop (h + span) xs)))

module _ (h t column value k o : ℕ) (xs : List ℕ) where
  -- A slot with the value goes out.
  slots_out : get_or xs column 0 ≡ value → staying_slots h t column value (suc k) o xs ≡ staying_slots h t column value k o (drop (width h t) xs)
  unfolding staying_slots
  slots_out q =
      let r : List ℕ = staying_slots h t column value k (o + get_or xs (h + 1) 0) (drop (width h t) xs) in
      ap
      (λ (b : Bool). cond b (staying_slots h t column value k o (drop (width h t) xs)) (take h xs ++ (o ∷ (get_or xs (h + 1) 0 ∷ (take t (drop (h + span) xs) ++ r)))))
      (eq-eqb (get_or xs column 0) value q)

  -- Another stays, with its start counted anew.
  slots_in : (get_or xs column 0 ≡ value → ⊥)
      → staying_slots h t column value (suc k) o xs ≡ anew h t o xs ++ staying_slots h t column value k (o + get_or xs (h + 1) 0) (drop (width h t) xs)
  unfolding staying_slots
  slots_in q =
      let r : List ℕ = staying_slots h t column value k (o + get_or xs (h + 1) 0) (drop (width h t) xs) in
      ap
      (λ (b : Bool). cond b (staying_slots h t column value k o (drop (width h t) xs)) (take h xs ++ (o ∷ (get_or xs (h + 1) 0 ∷ (take t (drop (h + span) xs) ++ r)))))
      (ne_eqb (get_or xs column 0) value q)
      ∙ sym (append_assoc (take h xs) (o ∷ (get_or xs (h + 1) 0 ∷ take t (drop (h + span) xs))) r)

-- A slot that is copied, with its start stored anew.
slot_anew : (h t o : ℕ) (xs : List ℕ) → width h t ≤ length xs → (set (take (width h t) xs) h o ≡ anew h t o xs) × (length (anew h t o xs) ≡ width h t)
slot_anew h t o xs l =
    let e : take (width h t) (set xs h o) ≡ anew h t o xs = slot_set xs h t o l in
    let n : width h t ≤ length (set xs h o) = simp length-set l in
    (sym (take-set-lt (width h t) xs h o (omega arith)) ∙ e, ap length (sym e) ∙ length-take-le (width h t) (set xs h o) n)

-- ---- the loop of `pack_slots`

-- All slots of the slice that are kept.
abbrev thin : List ℕ → ℕ → ℕ → ℕ → ℕ → List ℕ
thin ws h t column value = staying_slots h t column value (get_or ws 0 0) 0 (drop counters ws)

-- What holds of its locals: the slots from i on are left to do.
pub record Thinned (ws : List ℕ) (h t column value n : ℕ) (s : List ℕ) (m next i : ℕ) : Type 0 where
  pub room : counters + n * width h t ≤ length ws
  pub within : column < h
  pub long : length s ≡ length ws
  pub turn : i ≤ n
  pub few : m ≤ i
  pub counted : next + counts h t (n - i) (drop (counters + i * width h t) ws) < 2 ^ 32
  pub same : drop (counters + i * width h t) s ≡ drop (counters + i * width h t) ws
  pub left : pasted s (counters + m * width h t) (staying_slots h t column value (n - i) next (drop (counters + i * width h t) ws)) ≡ pasted ws counters (thin ws h t column value)
  pub sum : m * width h t + length (staying_slots h t column value (n - i) next (drop (counters + i * width h t) ws)) ≡ length (thin ws h t column value)

module _ {ws : List ℕ} {h t column value n : ℕ} {s : List ℕ} {m next i : ℕ} (P : Thinned ws h t column value n s m next i) where
  -- The width of a slot.
  abbrev w : ℕ
  w = width h t

  -- Where no slot is left, all is done.
  pub thin_done : n ≤ i → (s ≡ pasted ws counters (thin ws h t column value)) × (m * width h t ≡ length (thin ws h t column value))
  unfolding staying_slots
  thin_done l =
      let e : n - i ≡ 0 = omega arith in
      let none : staying_slots h t column value (n - i) next (drop (counters + i * w) ws) ≡ [] = ap (λ (k : ℕ). staying_slots h t column value k next (drop (counters + i * w) ws)) e in
      (sym (paste_none s (counters + m * w)) ∙ ap (pasted s (counters + m * w)) (sym none) ∙ P.left, omega (arith, P.sum, ap length none))

  module _ (l : i < n) where
    -- Slot i lies within the slice, and so does the position to which it goes.
    pub thin_slot : (counters + i * width h t + width h t ≤ length ws) × (m * width h t ≤ i * width h t)
    thin_slot = (omega (arith, P.room, less_mul i n w l), mul-le-mul_right w P.few)

    -- The words from slot i on.
    abbrev xs : List ℕ
    xs = drop (counters + i * w) ws

    -- The words behind slot i.
    behind : drop w xs ≡ drop (counters + (i + 1) * w) ws
    behind =
        let e : counters + i * w + w ≡ counters + (i + 1) * w = omega (arith, next_mul i w) in
        drop-drop w (counters + i * w) ws ∙ ap (λ (k : ℕ). drop k ws) e

    -- They are as they were.
    same_behind : drop (counters + (i + 1) * w) s ≡ drop (counters + (i + 1) * w) ws
    same_behind =
        let e : counters + i * w + w ≡ counters + (i + 1) * w = omega (arith, next_mul i w) in
        ap (λ (k : ℕ). drop k s) (sym e) ∙ sym (drop-drop w (counters + i * w) s) ∙ ap (drop w) P.same ∙ behind

    -- The word read in the column.
    thin_column : get_or s (counters + i * w + column) 0 ≡ get_or xs column 0
    thin_column = sym (get_or-drop (counters + i * w) s column 0) ∙ ap (λ (r : List ℕ). get_or r column 0) P.same

    -- The count read.
    thin_count : get_or s (counters + i * w + h + 1) 0 ≡ get_or xs (h + 1) 0
    thin_count = sym (count_index s (counters + i * w) h) ∙ ap (λ (r : List ℕ). get_or r (h + 1) 0) P.same

    -- The slots that are left are slot i and those behind it.
    one_less : n - i ≡ suc (n - (i + 1))
    one_less = omega arith

    -- So are the counts that are left.
    pub thin_counts : next + (get_or s (counters + i * width h t + h + 1) 0 + counts h t (n - (i + 1)) (drop (counters + (i + 1) * width h t) ws)) < 2 ^ 32
    thin_counts =
        let e : n - i - 1 ≡ n - (i + 1) = omega arith in
        let c : counts h t (n - i) xs ≡ get_or s (counters + i * w + h + 1) 0 + counts h t (n - (i + 1)) (drop (counters + (i + 1) * w) ws) =
        counts_peel h t (n - i) xs (omega arith) ∙ (λ j. sym thin_count j + counts h t (e j) (behind j)) in
        omega (arith, P.counted, c)

    -- A turn in which the slot goes out.
    pub thin_out : get_or s (counters + i * width h t + column) 0 ≡ value → Thinned ws h t column value n s m next (i + 1)
    thin_out q =
        let rest : List ℕ = staying_slots h t column value (n - (i + 1)) next (drop (counters + (i + 1) * w) ws) in
        let e : staying_slots h t column value (n - i) next xs ≡ rest =
        ap (λ (k : ℕ). staying_slots h t column value k next xs) one_less
        ∙ slots_out h t column value (n - (i + 1)) next xs (sym thin_column ∙ q) ∙ ap (staying_slots h t column value (n - (i + 1)) next) behind in
        record {
          room = P.room;
          within = P.within;
          long = P.long;
          turn = omega arith;
          few = omega (arith, P.few);
          counted = omega (arith, thin_counts);
          same = same_behind;
          left = ap (pasted s (counters + m * w)) (sym e) ∙ P.left;
          sum = omega (arith, P.sum, ap length e);
        }

    -- A turn in which it stays.
    pub thin_in : (get_or s (counters + i * width h t + column) 0 ≡ value → ⊥) → (v : List ℕ)
        → v ≡ pasted s (counters + m * width h t) (take (width h t) (drop (counters + i * width h t) s))
        → Thinned ws h t column value n (set v (counters + m * width h t + h) next) (m + 1) (next + get_or s (counters + i * width h t + h + 1) 0) (i + 1)
    thin_in q v made =
        let at : ℕ = counters + m * w in
        let c : ℕ = get_or s (counters + i * w + h + 1) 0 in
        let rest : List ℕ = staying_slots h t column value (n - (i + 1)) (next + c) (drop (counters + (i + 1) * w) ws) in
        let x : List ℕ = anew h t next xs in
        let lx : w ≤ length xs = simp length-drop (omega (arith, thin_slot)) in
        let e : staying_slots h t column value (n - i) next xs ≡ x ++ rest =
        ap (λ (k : ℕ). staying_slots h t column value k next xs) one_less
        ∙ slots_in h t column value (n - (i + 1)) next xs (λ r. q (thin_column ∙ r))
        ∙ (λ j. x ++ staying_slots h t column value (n - (i + 1)) (next + sym thin_count j) (behind j)) in
        let n_slot : length (take w xs) ≡ w = length-take-le w xs lx in
        let n_x : length x ≡ w = (slot_anew h t next xs lx).1 in
        let low : at ≤ length s = omega (arith, thin_slot, P.long) in
        let is : set v (at + h) next ≡ pasted s at x =
        ap (λ (r : List ℕ). set r (at + h) next) (made ∙ ap (λ (r : List ℕ). pasted s at (take w r)) P.same)
        ∙ set_pasted s (take w xs) at h next (omega (arith, n_slot)) low
        ∙ ap (pasted s at) (slot_anew h t next xs lx).0 in
        let at' : at + length x ≡ counters + (m + 1) * w = omega (arith, n_x, next_mul m w) in
        let under : at + length x ≤ counters + (i + 1) * w = omega (arith, n_x, next_mul i w, thin_slot) in
        record {
          room = P.room;
          within = P.within;
          long = ap length is ∙ length_pasted s x at (omega (arith, n_x, thin_slot, P.long)) ∙ P.long;
          turn = omega arith;
          few = omega (arith, P.few);
          counted = omega (arith, thin_counts);
          same = ap (drop (counters + (i + 1) * w)) is ∙ drop_pasted s x at (counters + (i + 1) * w) under low ∙ same_behind;
          left = ap (λ (r : List ℕ). pasted r (counters + (m + 1) * w) rest) is
              ∙ paste_paste s x rest at (counters + (m + 1) * w) at' low
              ∙ ap (pasted s at) (sym e) ∙ P.left;
          sum = omega (arith, P.sum, ap length e, length-append x rest, n_x, next_mul m w);
        }

-- ---- the slots that are kept are the slots of the entries that are kept

-- Of one slot, and slots u behind it.
staying_slot : (h t column value m o q : ℕ) (e : Entry) (u : List ℕ) → column < h → (length e.head ≡ h) × (length e.tail ≡ t)
    → staying_slots h t column value (suc m) o (e.head ++ (q ∷ (length e.body ∷ (e.tail ++ u))))
    ≡ cond (eqb (get_or e.head column 0) value) (staying_slots h t column value m o u)
    (e.head ++ (o ∷ (length e.body ∷ (e.tail ++ staying_slots h t column value m (o + length e.body) u))))
unfolding staying_slots
staying_slot h t column value m o q e u within w =
    let k : ℕ = length e.body in
    let head = slot_head e.head e.tail u q k h t w.0 w.1 in
    let count = slot_count e.head e.tail u q k h t w.0 w.1 in
    let tail = slot_tail e.head e.tail u q k h t w.0 w.1 in
    let rest = slot_rest e.head e.tail u q k h t w.0 w.1 in
    let x = get_or-append e.head (q ∷ (k ∷ (e.tail ++ u))) 0 column (omega arith) in
    λ i. cond (eqb (x i) value) (staying_slots h t column value m o (rest i))
    (head i ++ (o ∷ (count i ∷ (tail i ++ staying_slots h t column value m (o + count i) (rest i)))))

-- Of all slots, whatever stands behind them.
staying-slots : (h t column value o q : ℕ) (es : List Entry) (z : List ℕ) → column < h → Wide h t es
    → staying_slots h t column value (length es) o (slots q es ++ z) ≡ slots o (staying_entries column value es)
unfolding staying_slots staying_entries slots Wide
staying-slots h t column value o q [] z within w = refl
staying-slots h t column value o q (e ∷ es) z within w =
    let k : ℕ = length e.body in
    let b : Bool = eqb (get_or e.head column 0) value in
    ap (staying_slots h t column value (suc (length es)) o) (slots_first q e es z)
    ∙ staying_slot h t column value (length es) o q e (slots (q + k) es ++ z) within w.0
    ∙ (λ i. cond b (staying-slots h t column value o (q + k) es z within w.1 i)
    (e.head ++ (o ∷ (k ∷ (e.tail ++ staying-slots h t column value (o + k) (q + k) es z within w.1 i)))))
    ∙ within_cond b (staying_entries column value es)
  where
    -- The slots of a choice.
    within_cond : (b : Bool) (ks : List Entry) → cond b (slots o ks) (slots o (e ∷ ks)) ≡ slots o (cond b ks (e ∷ ks))
    within_cond true ks = refl
    within_cond false ks = refl

-- ---- the ends of a table

module _ (h t size : ℕ) (es : List Entry) (w : Wide h t es) where
  -- The counters and the slots.
  table_front : take (counters + length es * width h t) (encode size es) ≡ length es ∷ (length (bodies es) ∷ slots 0 es)
  unfolding encode pad
  table_front =
      let p : List ℕ = length es ∷ (length (bodies es) ∷ slots 0 es) in
      let z : List ℕ = replicate (size - suc (suc (length (slots 0 es ++ bodies es)))) 0 in
      let lp : length p ≡ counters + length es * width h t = omega (arith, length_slots h t 0 es w) in
      ap (λ (l : List ℕ). take (counters + length es * width h t) (length es ∷ (length (bodies es) ∷ l))) (append_assoc (slots 0 es) (bodies es) z)
      ∙ take_at p (bodies es ++ z) (counters + length es * width h t) lp

  -- The zeros behind the bodies.
  table_zeros : (at : ℕ) → counters + length es * width h t + length (bodies es) ≡ at → drop at (encode size es) ≡ replicate (size - at) 0
  unfolding encode pad
  table_zeros at e =
      let p : List ℕ = length es ∷ (length (bodies es) ∷ (slots 0 es ++ bodies es)) in
      let lp : length p ≡ at = omega (arith, length-append (slots 0 es) (bodies es), length_slots h t 0 es w) in
      drop_at p (replicate (size - length p) 0) at lp ∙ ap (λ (k : ℕ). replicate {A = ℕ} (size - k) 0) lp

-- ---- the steps of `clear`

-- A table without entries has none to clear.
pub clear_none : (h t column value : ℕ) (ws : List ℕ) → Clearable h t ws column → get_or ws 0 0 ≡ 0
    → (ws ≡ encode (length ws) (staying_entries column value (decode h t ws))) × (0 ≡ gone_entries column value (decode h t ws))
unfolding staying_entries gone_entries
clear_none h t column value ws may z =
    let D : List Entry = decode h t ws in
    let few : length D ≤ 0 = omega (arith, count_is h t ws may.sound) in
    let none : D ≡ [] = drop_of_length-le D few in
    let e : D ≡ staying_entries column value D = none ∙ ap (staying_entries column value) (sym none) in
    (may.sound.same ∙ ap (encode (length ws)) e, ap (gone_entries column value) (sym none))

-- Its arguments, the two counters that it reads, and what they are.
pub record Known : Type 0 where
  pub h : ℕ
  pub t : ℕ
  pub column : ℕ
  pub value : ℕ
  pub ws : List ℕ
  pub may : Clearable h t ws column
  pub n : ℕ
  pub b : ℕ
  pub n_read : n ≡ get_or ws 0 0
  pub b_read : b ≡ get_or ws 1 0
  pub some : n ≡ 0 → ⊥

-- The same, from what `clear` requires and reads, where there is an entry.
abbrev pub known : {h t column n b : ℕ} {ws : List ℕ} → Clearable h t ws column → n ≡ get_or ws 0 0 → b ≡ get_or ws 1 0 → (n ≡ 0 → ⊥) → ℕ → Known
known {h} {t} {column} {n} {b} {ws} may n_read b_read some value =
    record {
      h = h;
      t = t;
      column = column;
      value = value;
      ws = ws;
      may = may;
      n = n;
      b = b;
      n_read = n_read;
      b_read = b_read;
      some = some;
    }

-- The linear facts of these numbers, where m slots and k body words are kept.
pub record Sized (w n b m k size : ℕ) : Type 0 where
  pub few : m ≤ n
  pub one_in : w ≤ n * w
  pub slots_in : m * w ≤ n * w
  pub bodies_in : k ≤ b
  pub room : counters + n * w + b ≤ size
  pub small : size < 2 ^ 32

module _ (K : Known) where
  -- The width of a slot.
  abbrev pub wid : ℕ
  wid = width K.h K.t

  -- All entries.
  abbrev D : List Entry
  D = decode K.h K.t K.ws

  -- The entries that are kept.
  abbrev pub kept : List Entry
  kept = staying_entries K.column K.value D

  -- The first counter is the number of entries.
  n_is : K.n ≡ length D
  n_is = K.n_read ∙ count_is K.h K.t K.ws K.may.sound

  -- The second counter is the number of body words.
  b_is : K.b ≡ length (bodies D)
  b_is = K.b_read ∙ body_is K.h K.t K.ws K.may.sound

  -- There is an entry.
  pub some_entry : 0 < length D
  some_entry = omega (arith, K.some, n_is)

  -- The linear facts.
  pub sizes : (wid ≤ K.n * wid) × (counters + K.n * wid + K.b ≤ length K.ws) × (length K.ws < 2 ^ 32)
  sizes =
      let e : K.n * wid ≡ length D * wid = ap (λ (k : ℕ). k * wid) n_is in (
        omega (arith, e, less_mul 0 (length D) wid some_entry),
        omega (arith, e, b_is, K.may.sound.fits),
        K.may.small,
      )

  -- The same with the numbers of slots and body words that are kept.
  pub kept_sizes : (m k : ℕ) → m ≡ length kept → k ≡ length (bodies kept)
      → Sized wid K.n K.b m k (length K.ws)
  kept_sizes m k em ek =
      let l : m ≤ K.n = omega (arith, em, n_is, staying_length K.column K.value D) in
      record {
        few = l;
        one_in = sizes.0;
        slots_in = mul-le-mul_right wid l;
        bodies_in = omega (arith, ek, b_is, staying_bodies K.column K.value D);
        room = sizes.1;
        small = sizes.2;
      }

  module _ (s₁ : List ℕ) (e₁ : s₁ ≡ pasted K.ws (counters + length D * wid) (bodies kept)) where
    -- The words behind the bodies that are kept.
    abbrev rest : List ℕ
    rest = drop (counters + length D * wid + length (bodies kept)) K.ws

    -- The table after the bodies were packed.
    is₁ : s₁ ≡ (length D ∷ (length (bodies D) ∷ slots 0 D)) ++ (bodies kept ++ rest)
    unfolding pasted
    is₁ =
        let f : take (counters + length D * wid) K.ws ≡ length D ∷ (length (bodies D) ∷ slots 0 D) =
        ap (take (counters + length D * wid)) K.may.sound.same ∙ table_front K.h K.t (length K.ws) D K.may.sound.wide in
        e₁ ∙ ap (λ (l : List ℕ). l ++ (bodies kept ++ rest)) f

    -- It has its size.
    long₁ : length s₁ ≡ length K.ws
    long₁ = ap length e₁ ∙ length_pasted K.ws (bodies kept) (counters + length D * wid) (omega (arith, K.may.sound.fits, staying_bodies K.column K.value D))

    -- What `pack_slots` requires.
    pub slots_may : (counters + get_or s₁ 0 0 * wid ≤ length s₁) × (K.column < K.h) × (counts K.h K.t (get_or s₁ 0 0) (drop counters s₁) < 2 ^ 32)
    slots_may =
        let c : counts K.h K.t (get_or s₁ 0 0) (drop counters s₁) ≡ length (bodies D) =
        (λ j. counts K.h K.t (get_or (is₁ j) 0 0) (drop counters (is₁ j))) ∙ counts_slots K.h K.t 0 D (bodies kept ++ rest) K.may.sound.wide in
        let e : get_or s₁ 0 0 * wid ≡ length D * wid = ap (λ (l : List ℕ). get_or l 0 0 * wid) is₁ in
        (omega (arith, e, long₁, K.may.sound.fits), K.may.within, omega (arith, c, K.may.sound.fits, K.may.small))

    -- The slots that `pack_slots` keeps.
    kept_are : staying_slots K.h K.t K.column K.value (get_or s₁ 0 0) 0 (drop counters s₁) ≡ slots 0 kept
    kept_are =
        (λ j. staying_slots K.h K.t K.column K.value (get_or (is₁ j) 0 0) 0 (drop counters (is₁ j)))
        ∙ staying-slots K.h K.t K.column K.value 0 0 D (bodies kept ++ rest) K.may.within K.may.sound.wide

    -- Their words.
    length_kept : length (slots 0 kept) ≡ length kept * wid
    length_kept = length_slots K.h K.t 0 kept (staying_wide K.column K.value K.h K.t D K.may.sound.wide)

    -- Their number.
    pub many_kept : (m : ℕ) → m * wid ≡ length (staying_slots K.h K.t K.column K.value (get_or s₁ 0 0) 0 (drop counters s₁)) → m ≡ length kept
    many_kept m e =
        let p : 0 < wid = omega arith in
        eq_of_mul-eq-mul_right wid p m (length kept) (e ∙ ap length kept_are ∙ length_kept)

    module _ (m k : ℕ) (em : m ≡ length kept) (ek : k ≡ length (bodies kept)) where
      -- The slots and bodies that are kept.
      abbrev both : List ℕ
      both = slots 0 kept ++ bodies kept

      -- Their words, with the two counters.
      length_both : counters + length both ≡ counters + m * wid + k
      length_both = omega (arith, length-append (slots 0 kept) (bodies kept), length_kept, ap (λ (j : ℕ). j * wid) em, ek)

      -- The bodies that are kept move up to the slots that are kept.
      step_3 : (s₂ s₃ : List ℕ) → s₂ ≡ pasted s₁ counters (staying_slots K.h K.t K.column K.value (get_or s₁ 0 0) 0 (drop counters s₁))
          → s₃ ≡ pasted s₂ (counters + m * wid) (take k (drop (counters + K.n * wid) s₂)) → s₃ ≡ pasted s₁ counters both
      step_3 s₂ s₃ e₂ e₃ =
          let z = kept_sizes m k em ek in
          let l : counters ≤ length s₁ = omega (arith, long₁, z) in
          let lr : counters + length (slots 0 kept) ≡ counters + m * wid = omega (arith, length_kept, ap (λ (j : ℕ). j * wid) em) in
          let f₂ : s₂ ≡ pasted s₁ counters (slots 0 kept) = e₂ ∙ ap (pasted s₁ counters) kept_are in
          let at : counters + K.n * wid ≡ counters + length D * wid = ap (λ (j : ℕ). counters + j * wid) n_is in
          let low : counters + length D * wid ≤ length K.ws = omega (arith, K.may.sound.fits) in
          let d : drop (counters + K.n * wid) s₂ ≡ bodies kept ++ rest =
          ap (drop (counters + K.n * wid)) f₂
          ∙ drop_pasted s₁ (slots 0 kept) counters (counters + K.n * wid) (omega (arith, lr, z)) l
          ∙ (λ j. drop (at j) (e₁ j)) ∙ drop_to_pasted K.ws (bodies kept) (counters + length D * wid) low in
          e₃ ∙ (λ j. pasted (f₂ j) (counters + m * wid) (take k (d j)))
          ∙ ap (pasted (pasted s₁ counters (slots 0 kept)) (counters + m * wid)) (take_at (bodies kept) rest k (sym ek))
          ∙ paste_paste s₁ (slots 0 kept) (bodies kept) counters (counters + m * wid) lr l

      -- Zeros come behind them.
      step_4 : (s₃ s₄ : List ℕ) → s₃ ≡ pasted s₁ counters both → s₄ ≡ zeroed s₃ (counters + m * wid + k) (counters + K.n * wid + K.b)
          → s₄ ≡ length D ∷ (length (bodies D) ∷ (both ++ replicate (length K.ws - (counters + m * wid + k)) 0))
      unfolding zeroed
      step_4 s₃ s₄ e₃ e₄ =
          let z = kept_sizes m k em ek in
          let at : ℕ = counters + m * wid + k in
          let end : ℕ = counters + K.n * wid + K.b in
          let l : counters ≤ length s₁ = omega (arith, long₁, z) in
          let front : take at s₃ ≡ length D ∷ (length (bodies D) ∷ both) =
          ap (take at) e₃ ∙ take_to_pasted s₁ both counters at length_both l ∙ ap (λ (r : List ℕ). take counters r ++ both) is₁ in
          let e_slots : K.n * wid ≡ length D * wid = ap (λ (j : ℕ). j * wid) n_is in
          let back : drop end s₃ ≡ replicate (length K.ws - end) 0 =
          ap (drop end) e₃
          ∙ drop_pasted s₁ both counters end (omega (arith, length_both, z)) l
          ∙ ap (drop end) e₁
          ∙ drop_pasted K.ws (bodies kept) (counters + length D * wid) end (omega (arith, e_slots, ek, z)) (omega (arith, K.may.sound.fits))
          ∙ ap (drop end) K.may.sound.same
          ∙ table_zeros K.h K.t (length K.ws) D K.may.sound.wide end (omega (arith, e_slots, b_is)) in
          let sum : end - at + (length K.ws - end) ≡ length K.ws - at = omega (arith, z) in
          e₄ ∙ (λ j. front j ++ (replicate (end - at) 0 ++ back j))
          ∙ ap (λ (r : List ℕ). length D ∷ (length (bodies D) ∷ (both ++ r)))
          (replicate-append-replicate (end - at) (length K.ws - end) 0 ∙ ap (λ (j : ℕ). replicate {A = ℕ} j 0) sum)

      -- The two counters are written.
      step_5 : (s₄ : List ℕ) → s₄ ≡ length D ∷ (length (bodies D) ∷ (both ++ replicate (length K.ws - (counters + m * wid + k)) 0))
          → set (set s₄ 0 m) 1 k ≡ encode (length K.ws) kept
      unfolding encode pad
      step_5 s₄ e₄ =
          let n_all : counters + m * wid + k ≡ suc (suc (length both)) = omega (arith, length_both) in
          ap (λ (r : List ℕ). set (set r 0 m) 1 k) e₄
          ∙ (λ j. em j ∷ (ek j ∷ (both ++ replicate (length K.ws - n_all j) 0)))

      -- What `clear` leaves and answers.
      pub clear_done : (s₂ s₃ s₄ : List ℕ) → s₂ ≡ pasted s₁ counters (staying_slots K.h K.t K.column K.value (get_or s₁ 0 0) 0 (drop counters s₁))
          → s₃ ≡ pasted s₂ (counters + m * wid) (take k (drop (counters + K.n * wid) s₂)) → s₄ ≡ zeroed s₃ (counters + m * wid + k) (counters + K.n * wid + K.b)
          → (set (set s₄ 0 m) 1 k ≡ encode (length K.ws) kept) × (K.n - m ≡ gone_entries K.column K.value D)
      clear_done s₂ s₃ s₄ e₂ e₃ e₄ =
          (step_5 s₄ (step_4 s₃ s₄ (step_3 s₂ s₃ e₂ e₃) e₄), omega (arith, n_is, em, kept_sizes m k em ek, gone_staying K.column K.value D))

  -- The linear facts, from what the two passes leave and answer.
  pub all_sizes : {s₁ s₂ : List ℕ} {m k : ℕ} → (s₁ ≡ pasted K.ws (counters + length D * wid) (bodies kept)) × (k ≡ length (bodies kept))
      → (let left = staying_slots K.h K.t K.column K.value (get_or s₁ 0 0) 0 (drop counters s₁) in (s₂ ≡ pasted s₁ counters left) × (m * wid ≡ length left))
      → Sized wid K.n K.b m k (length K.ws)
  all_sizes {s₁} {s₂} {m} {k} x y = kept_sizes m k (many_kept s₁ x.0 m y.1) x.1
