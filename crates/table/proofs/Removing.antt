-- What each step of `remove` makes of a table, with the entries cut in two where the old one was. Assumes nothing.
use mathlib.Core.Path.{◌≡◌, refl, sym, ap, ◌∙◌}
use mathlib.Core.List.{List, ◌∷◌, ◌++◌, append_assoc}
use Prim.Native.Nat.{ℕ, suc, ◌+◌, ◌-◌, ◌*◌, ◌≤◌, ◌<◌, ◌^◌}
use native.Mathlib.Omega.{arith}
use native.Mathlib.Nat.{suc-mul, add-mul}
use lib.ListN.{length, take, drop, set, get_or, length-append, length-drop}
use Rattle.runs.specs.Words.{closed}
use Rattle.table.specs.Table.{counters, Entry, width, slots, bodies, pad, encode, Wide, decode, start_of, remove_at}
use Rattle.table.specs.Helpers.{restarted, counts, Removable}
use Rattle.table.proofs.Tables.{bodies_append, length_slots, pad_close, restart_pad, counts_pad, encode_split}
use Rattle.table.proofs.Sounds.{count_is, body_is, split_mul, nth, cut, start_is, slot_count_is, wide_before, wide_at, before}
use Rattle.table.proofs.Inserting.{slot, length_slot}

-- The table after the body went out.
abbrev pub out₁ : ℕ → List Entry → List Entry → Entry → List ℕ
out₁ size es fs e =
    pad size (length (es ++ (e ∷ fs))
    ∷ (length (bodies (es ++ (e ∷ fs)))
    ∷ (slots 0 es ++ (slot (length (bodies es)) e ++ (slots (length (bodies es) + length e.body) fs ++ (bodies es ++ bodies fs))))))

-- The table after the slot went out, where the slots behind it start at q.
abbrev pub out₂ : ℕ → List Entry → List Entry → Entry → ℕ → List ℕ
out₂ size es fs e q =
    pad size (length (es ++ (e ∷ fs)) ∷ (length (bodies (es ++ (e ∷ fs))) ∷ (slots 0 es ++ (slots q fs ++ (bodies es ++ bodies fs)))))

module _ (size h t : ℕ) (es fs : List Entry) (e : Entry) (we : Wide h t es) (wf : Wide h t fs) (lh : length e.head ≡ h) (lt : length e.tail ≡ t) where
  -- The start of the body that goes.
  abbrev o : ℕ
  o = length (bodies es)

  -- The length of the body that goes.
  abbrev k : ℕ
  k = length e.body

  -- The slots are those before, the one that goes, and those behind.
  l_slots : length (es ++ (e ∷ fs)) * width h t ≡ length es * width h t + width h t + length fs * width h t
  l_slots =
      let a : length (es ++ (e ∷ fs)) ≡ suc (length es) + length fs = length-append es (e ∷ fs) ∙ omega arith in
      ap (λ (m : ℕ). m * width h t) a
      ∙ add-mul (suc (length es)) (length fs) (width h t)
      ∙ ap (λ (m : ℕ). m + length fs * width h t) (suc-mul (length es) (width h t))

  -- So are the bodies.
  l_bodies : length (bodies (es ++ (e ∷ fs))) ≡ length (bodies es) + (length e.body + length (bodies fs))
  unfolding bodies
  l_bodies = rw (bodies_append es (e ∷ fs), length-append, length-append)

  -- The body goes out.
  remove_1 : (at used : ℕ) → counters + length (es ++ (e ∷ fs)) * width h t + length (bodies es) ≡ at
      → counters + length (es ++ (e ∷ fs)) * width h t + length (bodies (es ++ (e ∷ fs))) ≡ used → used ≤ size
      → closed (encode size (es ++ (e ∷ fs))) at (length e.body) used ≡ out₁ size es fs e
  unfolding slots bodies
  remove_1 at used ea eu room =
      let y : List ℕ = slot o e ++ (slots (o + k) fs ++ bodies es) in
      let x : List ℕ = slots 0 es ++ y in
      let p : List ℕ = length (es ++ (e ∷ fs)) ∷ (length (bodies (es ++ (e ∷ fs))) ∷ x) in
      let lp : length p ≡ at =
      omega (
        arith,
        l_slots,
        length-append (slots 0 es) y,
        length-append (slot o e) (slots (o + k) fs ++ bodies es),
        length-append (slots (o + k) fs) (bodies es),
        length_slot h t o e lh lt,
        length_slots h t 0 es we,
        length_slots h t (o + k) fs wf,
      ) in
      let a : slots 0 es ++ (slots o (e ∷ fs) ++ (bodies es ++ bodies (e ∷ fs))) ≡ x ++ (e.body ++ bodies fs) = simp append_assoc in
      rw (encode_split size es (e ∷ fs), a) (pad_close size p e.body (bodies fs) at k used lp refl (omega (arith, l_bodies)) room ∙ (simp append_assoc))

  -- The slot goes out.
  remove_2 : (at used : ℕ) → counters + length es * width h t ≡ at
      → counters + length (es ++ (e ∷ fs)) * width h t + length (bodies (es ++ (e ∷ fs))) ≡ used + length e.body → used ≤ size
      → closed (out₁ size es fs e) at (width h t) used ≡ out₂ size es fs e (length (bodies es) + length e.body)
  remove_2 at used ea eu room =
      let p : List ℕ = length (es ++ (e ∷ fs)) ∷ (length (bodies (es ++ (e ∷ fs))) ∷ slots 0 es) in
      let q : List ℕ = slots (o + k) fs ++ (bodies es ++ bodies fs) in
      let lp : length p ≡ at = omega (arith, length_slots h t 0 es we) in
      let lq : at + width h t + length q ≡ used = simp length-append (omega (arith, l_slots, l_bodies, length_slots h t (o + k) fs wf)) in
      pad_close size p (slot o e) q at (width h t) used lp (length_slot h t o e lh lt) lq room

  -- The starts behind it are counted anew.
  remove_3 : (at : ℕ) → counters + length es * width h t ≡ at
      → take at (out₂ size es fs e (length (bodies es) + length e.body))
      ++ restarted h t (length fs) (length (bodies es)) (drop at (out₂ size es fs e (length (bodies es) + length e.body)))
      ≡ out₂ size es fs e (length (bodies es))
  remove_3 at ea = restart_pad size _ _ h t (o + k) o at (slots 0 es) (bodies es ++ bodies fs) fs wf (omega (arith, length_slots h t 0 es we))

  -- The counts that this reads.
  remove_counts : (at : ℕ) → counters + length es * width h t ≡ at
      → counts h t (length fs) (drop at (out₂ size es fs e (length (bodies es) + length e.body))) ≡ length (bodies fs)
  remove_counts at ea = counts_pad size _ _ h t (o + k) at (slots 0 es) (bodies es ++ bodies fs) fs wf (omega (arith, length_slots h t 0 es we))

  -- The two counters are written.
  remove_4 : (n b : ℕ) → n + 1 ≡ length (es ++ (e ∷ fs)) → b + length e.body ≡ length (bodies (es ++ (e ∷ fs)))
      → set (set (out₂ size es fs e (length (bodies es))) 0 n) 1 b ≡ encode size (es ++ fs)
  unfolding pad
  remove_4 n b en eb =
      let l₁ : length (es ++ fs) ≡ n = length-append es fs ∙ omega (arith, length-append es (e ∷ fs)) in
      let l₂ : length (bodies (es ++ fs)) ≡ b = ap length (bodies_append es fs) ∙ length-append (bodies es) (bodies fs) ∙ omega (arith, l_bodies) in
      (λ j. pad size (sym l₁ j ∷ (sym l₂ j ∷ (slots 0 es ++ (slots o fs ++ (bodies es ++ bodies fs)))))) ∙ sym (encode_split size es fs)

-- ---- the same at the numbers that `remove` has in hand

-- The arguments of `remove`, the two counters that it reads, and what they are.
pub record Found : Type 0 where
  pub h : ℕ
  pub t : ℕ
  pub ws : List ℕ
  pub i : ℕ
  pub may : Removable h t ws i
  pub n : ℕ
  pub b : ℕ
  pub n_read : n ≡ get_or ws 0 0
  pub b_read : b ≡ get_or ws 1 0

-- The linear facts of these numbers.
pub record Placed (w i n b size : ℕ) : Type 0 where
  pub split : i * w + w + (n - i - 1) * w ≡ n * w
  pub under : i < n
  pub room : counters + n * w + b ≤ size
  pub small : size < 2 ^ 32

module _ (K : Found) where
  -- The width of a slot.
  abbrev pub w : ℕ
  w = width K.h K.t

  -- Where slot i is, or goes.
  abbrev pub at : ℕ
  at = counters + K.i * w

  -- Where the slots end.
  abbrev pub end : ℕ
  end = counters + K.n * w

  -- All entries, and those before, at and behind i.
  abbrev D : List Entry
  D = decode K.h K.t K.ws

  abbrev E : List Entry
  E = take K.i D

  abbrev X : Entry
  X = nth K.i D

  abbrev F : List Entry
  F = drop (suc K.i) D

  -- The first counter is the number of entries.
  n_is : K.n ≡ length D
  n_is = K.n_read ∙ count_is K.h K.t K.ws K.may.sound

  -- The second counter is the number of body words.
  b_is : K.b ≡ length (bodies D)
  b_is = K.b_read ∙ body_is K.h K.t K.ws K.may.sound

  -- The linear facts.
  pub places : Placed w K.i K.n K.b (length K.ws)
  places =
      let u : K.i < K.n = omega (arith, n_is, K.may.within) in
      let e : K.n - K.i ≡ suc (K.n - K.i - 1) = omega arith in
      let m : (K.n - K.i) * w ≡ (K.n - K.i - 1) * w + w = ap (λ (x : ℕ). x * w) e ∙ suc-mul (K.n - K.i - 1) w in
      record {
        split = omega (arith, split_mul K.i K.n w (omega arith), m);
        under = u;
        room = omega (arith, b_is, ap (λ (x : ℕ). x * w) n_is, K.may.sound.fits);
        small = K.may.small;
      }

  -- The parts make up the entries.
  back : E ++ (X ∷ F) ≡ D
  back = sym (cut K.i D K.may.within)

  -- The widths of the entries before i.
  wide_es : Wide K.h K.t E
  wide_es = wide_before K.h K.t K.ws K.may.sound K.i K.may.within

  -- The widths of the entry at i and of those behind it.
  wide_x : ((length X.head ≡ K.h) × (length X.tail ≡ K.t)) × Wide K.h K.t F
  wide_x = wide_at K.h K.t K.ws K.may.sound K.i K.may.within

  -- The slots before i.
  i_mul : length E * w ≡ K.i * w
  i_mul = ap (λ (m : ℕ). m * w) (before K.h K.t K.ws K.may.sound K.i K.may.within)

  -- All slots, by the first counter.
  all_mul : length (E ++ (X ∷ F)) * w ≡ K.n * w
  all_mul = ap (λ (l : List Entry). length l * w) back ∙ ap (λ (m : ℕ). m * w) (sym n_is)

  -- All body words, by the second counter.
  all_b : length (bodies (E ++ (X ∷ F))) ≡ K.b
  all_b = ap (λ (l : List Entry). length (bodies l)) back ∙ sym b_is

  -- The number of slots whose starts are counted anew.
  rest_is : length F ≡ K.n - K.i - 1
  rest_is = length-drop (suc K.i) D ∙ omega (arith, n_is)

-- The two words of the slot that `remove` reads as well.
pub record Known : Type 0 where
  pub of : Found
  pub start : ℕ
  -- The length of the body that goes.
  pub k : ℕ
  pub start_read : start ≡ get_or of.ws (at of + of.h) 0
  pub k_read : k ≡ get_or of.ws (at of + of.h + 1) 0

-- The same, from what `remove` requires and reads, where slot i starts at p.
abbrev pub known : {h t i n b p start k : ℕ} {ws : List ℕ} → Removable h t ws i → n ≡ get_or ws 0 0 → b ≡ get_or ws 1 0
    → p ≡ counters + i * width h t → start ≡ get_or ws (p + h) 0 → k ≡ get_or ws (p + h + 1) 0 → Known
known {h} {t} {i} {n} {b} {p} {start} {k} {ws} may n_read b_read p_is start_read k_read =
    record {
      of = record { h = h; t = t; ws = ws; i = i; may = may; n = n; b = b; n_read = n_read; b_read = b_read };
      start = start;
      k = k;
      start_read = rw p_is at start_read;
      k_read = rw p_is at k_read;
    }

module _ (K : Known) where
  -- The entries before i, at i and behind i.
  abbrev before_it : List Entry
  before_it = E K.of

  abbrev it : Entry
  it = X K.of

  abbrev after_it : List Entry
  after_it = F K.of

  -- The size of the table.
  abbrev size : ℕ
  size = length K.of.ws

  -- The bodies before i end at the start.
  o_is : length (bodies before_it) ≡ K.start
  unfolding start_of
  o_is = sym (K.start_read ∙ start_is K.of.h K.of.t K.of.ws K.of.may.sound K.of.i K.of.may.within)

  -- The count is the length of the body.
  k_is : length it.body ≡ K.k
  k_is = sym (K.k_read ∙ slot_count_is K.of.h K.of.t K.of.ws K.of.may.sound K.of.i K.of.may.within)

  -- The body lies within the bodies.
  inside : K.start + K.k ≤ K.of.b
  inside =
      let x = wide_x K.of in
      let l = l_bodies size K.of.h K.of.t before_it after_it it (wide_es K.of) x.1 x.0.0 x.0.1 in
      omega (arith, l, all_b K.of, o_is, k_is)

  -- The linear facts, with the slot's two words.
  pub fits : Placed (w K.of) K.of.i K.of.n K.of.b (length K.of.ws) × (K.start + K.k ≤ K.of.b)
  fits = (places K.of, inside)

  -- The table after the body went out.
  abbrev pub O₁ : List ℕ
  O₁ = out₁ size before_it after_it it

  -- The table after the slot went out, where the slots behind it start at q.
  abbrev pub O₂ : ℕ → List ℕ
  O₂ q = out₂ size before_it after_it it q

  -- The body goes out.
  pub step_1 : (s : List ℕ) → s ≡ closed K.of.ws (end K.of + K.start) K.k (end K.of + K.of.b) → s ≡ O₁
  step_1 s e =
      let x = wide_x K.of in
      let from : ℕ = end K.of + K.start in
      let used : ℕ = end K.of + K.of.b in
      e ∙ (λ j. closed ((K.of.may.sound.same ∙ ap (encode size) (sym (back K.of))) j) from (sym k_is j) used)
      ∙ remove_1 size K.of.h K.of.t before_it after_it it (wide_es K.of) x.1 x.0.0 x.0.1 from used
      (omega (arith, all_mul K.of, o_is)) (omega (arith, all_mul K.of, all_b K.of)) (places K.of).room

  -- The slot goes out.
  pub step_2 : (s u : List ℕ) → s ≡ O₁ → u ≡ closed s (at K.of) (w K.of) (end K.of + K.of.b - K.k) → u ≡ O₂ (K.start + K.k)
  step_2 s u p e =
      let x = wide_x K.of in
      let used : ℕ = end K.of + K.of.b - K.k in
      e ∙ ap (λ (l : List ℕ). closed l (at K.of) (w K.of) used) p
      ∙ remove_2 size K.of.h K.of.t before_it after_it it (wide_es K.of) x.1 x.0.0 x.0.1 (at K.of) used
      (omega (arith, i_mul K.of)) (omega (arith, all_mul K.of, all_b K.of, k_is, inside)) (omega (arith, (places K.of).room))
      ∙ (λ j. O₂ (o_is j + k_is j))

  -- The sum of the starts and counts fits a word.
  pub step_counts : (s : List ℕ) → s ≡ O₂ (K.start + K.k)
      → K.start + counts K.of.h K.of.t (K.of.n - K.of.i - 1) (drop (at K.of) s) < 2 ^ 32
  step_counts s p =
      let x = wide_x K.of in
      let c : counts K.of.h K.of.t (K.of.n - K.of.i - 1) (drop (at K.of) s) ≡ length (bodies after_it) =
      (λ j. counts K.of.h K.of.t (sym (rest_is K.of) j) (drop (at K.of) ((p ∙ (λ m. O₂ (sym o_is m + sym k_is m))) j)))
      ∙ remove_counts size K.of.h K.of.t before_it after_it it (wide_es K.of) x.1 x.0.0 x.0.1 (at K.of)
      (omega (arith, i_mul K.of)) in
      let l = l_bodies size K.of.h K.of.t before_it after_it it (wide_es K.of) x.1 x.0.0 x.0.1 in
      omega (arith, c, l, all_b K.of, o_is, places K.of)

  -- The starts behind it are counted anew.
  pub step_3 : (s u : List ℕ) → s ≡ O₂ (K.start + K.k)
      → u ≡ take (at K.of) s ++ restarted K.of.h K.of.t (K.of.n - K.of.i - 1) K.start (drop (at K.of) s) → u ≡ O₂ K.start
  step_3 s u p e =
      let x = wide_x K.of in
      let a : ℕ = at K.of in
      let p₁ : s ≡ O₂ (length (bodies before_it) + length it.body) = p ∙ (λ m. O₂ (sym o_is m + sym k_is m)) in
      e ∙ (λ j. take a (p₁ j) ++ restarted K.of.h K.of.t (sym (rest_is K.of) j) (sym o_is j) (drop a (p₁ j)))
      ∙ remove_3 size K.of.h K.of.t before_it after_it it (wide_es K.of) x.1 x.0.0 x.0.1 a (omega (arith, i_mul K.of))
      ∙ ap O₂ o_is

  -- The two counters are written.
  pub step_4 : (s : List ℕ) → s ≡ O₂ K.start
      → set (set s 0 (K.of.n - 1)) 1 (K.of.b - K.k) ≡ encode (length K.of.ws) (remove_at K.of.i (decode K.of.h K.of.t K.of.ws))
  unfolding remove_at
  step_4 s p =
      let x = wide_x K.of in
      let e : length (before_it ++ (it ∷ after_it)) ≡ K.of.n = ap length (back K.of) ∙ sym (n_is K.of) in
      ap (λ (l : List ℕ). set (set l 0 (K.of.n - 1)) 1 (K.of.b - K.k)) (p ∙ ap O₂ (sym o_is))
      ∙ remove_4 size K.of.h K.of.t before_it after_it it (wide_es K.of) x.1 x.0.0 x.0.1 (K.of.n - 1) (K.of.b - K.k)
      (omega (arith, e, (places K.of).under)) (omega (arith, all_b K.of, k_is, inside))
