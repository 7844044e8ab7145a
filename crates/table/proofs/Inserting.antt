-- What each step of `insert` makes of a table, with the entries cut in two where the new one goes. Assumes nothing.
use mathlib.Core.Path.{◌≡◌, sym, ap, ◌∙◌, subst}
use mathlib.Core.List.{List, ◌∷◌, ◌++◌, append_assoc}
use Prim.Native.Nat.{ℕ, ◌+◌, ◌-◌, ◌*◌, ◌≤◌, ◌<◌, ◌^◌}
use native.Mathlib.Omega.{arith}
use native.Mathlib.Nat.{zero-add, suc-mul}
use native.Mathlib.Numerals.{add-one}
use lib.ListN.{length, take, drop, set, get_or, length-append, length-drop, take-append-drop}
use lib.Seq.{length-take-le}
use Rattle.runs.specs.Words.{spliced}
use Rattle.table.specs.Table.{counters, Entry, width, slots, bodies, pad, encode, Wide, decode, start_of, insert_at}
use Rattle.table.specs.Helpers.{restarted, counts, Insertable}
use Rattle.table.proofs.Tables.{slots_append, bodies_append, length_slots, wide_append, wide_left, wide_right}
use Rattle.table.proofs.Tables.{pad_splice, restart_pad, counts_pad, encode_split}
use Rattle.table.proofs.Sounds.{count_is, body_is, start_under, split_mul}

-- The slot of an entry whose body starts at o.
abbrev pub slot : ℕ → Entry → List ℕ
slot o e = e.head ++ (o ∷ (length e.body ∷ e.tail))

-- A slot has the width.
pub length_slot : (h t o : ℕ) (e : Entry) → length e.head ≡ h → length e.tail ≡ t → length (slot o e) ≡ width h t
length_slot h t o e lh lt = length-append e.head (o ∷ (length e.body ∷ e.tail)) ∙ omega arith

-- The table after the body went in.
abbrev pub stage₁ : ℕ → List Entry → List Entry → Entry → List ℕ
stage₁ size es fs e =
    pad size (length (es ++ fs) ∷ (length (bodies (es ++ fs)) ∷ (slots 0 es ++ (slots (length (bodies es)) fs ++ (bodies es ++ (e.body ++ bodies fs))))))

-- The table after the slot went in, where the slots behind it start at q.
abbrev pub stage₂ : ℕ → List Entry → List Entry → Entry → ℕ → List ℕ
stage₂ size es fs e q =
    pad size (length (es ++ fs)
    ∷ (length (bodies (es ++ fs)) ∷ ((slots 0 es ++ slot (length (bodies es)) e) ++ (slots q fs ++ (bodies es ++ (e.body ++ bodies fs))))))

module _ (size h t : ℕ) (es fs : List Entry) (e : Entry) (we : Wide h t es) (wf : Wide h t fs) (lh : length e.head ≡ h) (lt : length e.tail ≡ t) where
  -- The slots before and behind the cut have the length of all slots.
  length_all : length (slots 0 es) + length (slots (length (bodies es)) fs) ≡ length (es ++ fs) * width h t
  length_all =
      sym (length-append (slots 0 es) (slots (length (bodies es)) fs))
      ∙ ap (λ (m : ℕ). length (slots 0 es ++ slots m fs)) (sym (zero-add (length (bodies es))))
      ∙ ap length (sym (slots_append 0 es fs))
      ∙ length_slots h t 0 (es ++ fs) (wide_append h t es fs we wf)

  -- The bodies before and behind the cut have the length of all bodies.
  length_bodies : length (bodies (es ++ fs)) ≡ length (bodies es) + length (bodies fs)
  length_bodies = rw (bodies_append, length-append)

  -- The body goes in.
  insert_1 : (at used : ℕ) → counters + length (es ++ fs) * width h t + length (bodies es) ≡ at
      → counters + length (es ++ fs) * width h t + length (bodies (es ++ fs)) ≡ used → used + length e.body ≤ size
      → spliced (encode size (es ++ fs)) at used e.body ≡ stage₁ size es fs e
  insert_1 at used ea eu room =
      let x : List ℕ = slots 0 es ++ (slots (length (bodies es)) fs ++ bodies es) in
      let p : List ℕ = length (es ++ fs) ∷ (length (bodies (es ++ fs)) ∷ x) in
      let lb = length_bodies in
      let lp : length p ≡ at = simp length-append (omega (arith, length_all)) in
      let a : slots 0 es ++ (slots (length (bodies es)) fs ++ (bodies es ++ bodies fs)) ≡ x ++ bodies fs = simp append_assoc in
      rw (encode_split, a) (pad_splice size p (bodies fs) e.body at used lp (omega arith) room ∙ (simp append_assoc))

  -- The slot goes in.
  insert_2 : (at used : ℕ) → counters + length es * width h t ≡ at
      → counters + length (es ++ fs) * width h t + length (bodies (es ++ fs)) + length e.body ≡ used → used + width h t ≤ size
      → spliced (stage₁ size es fs e) at used (slot (length (bodies es)) e) ≡ stage₂ size es fs e (length (bodies es))
  insert_2 at used ea eu room =
      let p : List ℕ = length (es ++ fs) ∷ (length (bodies (es ++ fs)) ∷ slots 0 es) in
      let q : List ℕ = slots (length (bodies es)) fs ++ (bodies es ++ (e.body ++ bodies fs)) in
      let r : List ℕ = slot (length (bodies es)) e in
      let lb = length_bodies in
      let lp : length p ≡ at = omega (arith, length_slots h t 0 es we) in
      let lq : at + length q ≡ used = simp length-append (omega (arith, length_all, length_slots h t 0 es we)) in
      let lr : length r ≡ width h t = length_slot h t (length (bodies es)) e lh lt in
      pad_splice size p q r at used lp lq (omega arith)
      ∙ ap (λ (l : List ℕ). pad size (length (es ++ fs) ∷ (length (bodies (es ++ fs)) ∷ l))) (sym (append_assoc (slots 0 es) r q))

  -- What stands before the slots behind the new one.
  before_rest : (at : ℕ) → counters + length es * width h t + width h t ≡ at → counters + length (slots 0 es ++ slot (length (bodies es)) e) ≡ at
  before_rest at ea =
      omega (
        arith,
        length-append (slots 0 es) (slot (length (bodies es)) e),
        length_slot h t (length (bodies es)) e lh lt,
        length_slots h t 0 es we,
      )

  -- The starts behind the new slot are counted anew.
  insert_3 : (at : ℕ) → counters + length es * width h t + width h t ≡ at
      → take at (stage₂ size es fs e (length (bodies es)))
      ++ restarted h t (length fs) (length (bodies es) + length e.body) (drop at (stage₂ size es fs e (length (bodies es))))
      ≡ stage₂ size es fs e (length (bodies es) + length e.body)
  insert_3 at ea =
      let o : ℕ = length (bodies es) in
      restart_pad size _ _ h t o (o + length e.body) at (slots 0 es ++ slot o e) (bodies es ++ (e.body ++ bodies fs)) fs wf (before_rest at ea)

  -- The counts that this reads.
  insert_counts : (at : ℕ) → counters + length es * width h t + width h t ≡ at
      → counts h t (length fs) (drop at (stage₂ size es fs e (length (bodies es)))) ≡ length (bodies fs)
  insert_counts at ea =
      let o : ℕ = length (bodies es) in
      counts_pad size _ _ h t o at (slots 0 es ++ slot o e) (bodies es ++ (e.body ++ bodies fs)) fs wf (before_rest at ea)

  -- The two counters are written.
  insert_4 : (n b : ℕ) → n ≡ length (es ++ fs) + 1 → b ≡ length (bodies (es ++ fs)) + length e.body
      → set (set (stage₂ size es fs e (length (bodies es) + length e.body)) 0 n) 1 b ≡ encode size (es ++ (e ∷ fs))
  unfolding pad slots bodies
  insert_4 n b en eb =
      let o : ℕ = length (bodies es) in
      let k : ℕ = length e.body in
      let l₁ : length (es ++ (e ∷ fs)) ≡ n = length-append es (e ∷ fs) ∙ omega (arith, length-append es fs) in
      let l₂ : length (bodies (es ++ (e ∷ fs))) ≡ b =
      ap length (bodies_append es (e ∷ fs)) ∙ simp length-append (omega (arith, ap length (bodies_append es fs), length-append (bodies es) (bodies fs))) in
      let x : (slots 0 es ++ slot o e) ++ (slots (o + k) fs ++ (bodies es ++ (e.body ++ bodies fs)))
      ≡ slots 0 es ++ (slots o (e ∷ fs) ++ (bodies es ++ bodies (e ∷ fs))) = simp append_assoc in
      ap (λ (l : List ℕ). pad size (n ∷ (b ∷ l))) x
      ∙ (λ j. pad size (sym l₁ j ∷ (sym l₂ j ∷ (slots 0 es ++ (slots o (e ∷ fs) ++ (bodies es ++ bodies (e ∷ fs)))))))
      ∙ sym (encode_split size es (e ∷ fs))

-- ---- the same at the numbers that `insert` has in hand

-- The arguments of `insert`, the numbers that it reads, and what they are.
pub record Known : Type 0 where
  pub h : ℕ
  pub t : ℕ
  pub ws : List ℕ
  pub i : ℕ
  pub e : Entry
  pub may : Insertable h t ws i e
  pub n : ℕ
  pub b : ℕ
  pub start : ℕ
  pub n_read : n ≡ get_or ws 0 0
  pub b_read : b ≡ get_or ws 1 0
  pub start_read : start ≡ start_of i (decode h t ws)

-- The same, from what `insert` requires and reads.
abbrev pub known : {h t i n b start : ℕ} {ws : List ℕ} {e : Entry} → Insertable h t ws i e → n ≡ get_or ws 0 0 → b ≡ get_or ws 1 0
    → start ≡ start_of i (decode h t ws) → Known
known {h} {t} {i} {n} {b} {start} {ws} {e} may n_read b_read start_read =
    record {
      h = h;
      t = t;
      ws = ws;
      i = i;
      e = e;
      may = may;
      n = n;
      b = b;
      start = start;
      n_read = n_read;
      b_read = b_read;
      start_read = start_read;
    }

-- The linear facts of the code's numbers.
pub record Numbers (w i n b start k size : ℕ) : Type 0 where
  pub split : i * w + (n - i) * w ≡ n * w
  pub under : i ≤ n
  pub part : start ≤ b
  pub room : counters + n * w + w + b + k ≤ size
  pub small : size < 2 ^ 32

module _ (K : Known) where
  -- The width of a slot.
  abbrev pub w : ℕ
  w = width K.h K.t

  -- The length of the new body.
  abbrev pub k : ℕ
  k = length K.e.body

  -- Where slot i is, or goes.
  abbrev pub at : ℕ
  at = counters + K.i * w

  -- Where the slots end.
  abbrev pub end : ℕ
  end = counters + K.n * w

  -- All entries, and those before and from i on.
  abbrev D : List Entry
  D = decode K.h K.t K.ws

  abbrev E : List Entry
  E = take K.i D

  abbrev F : List Entry
  F = drop K.i D

  -- The first counter is the number of entries.
  n_is : K.n ≡ length D
  n_is = K.n_read ∙ count_is K.h K.t K.ws K.may.sound

  -- The second counter is the number of body words.
  b_is : K.b ≡ length (bodies D)
  b_is = K.b_read ∙ body_is K.h K.t K.ws K.may.sound

  -- So many slots.
  n_mul : K.n * w ≡ length D * w
  n_mul = ap (λ (m : ℕ). m * w) n_is

  -- The linear facts.
  pub nums : Numbers w K.i K.n K.b K.start k (length K.ws)
  nums =
      let u : K.i ≤ K.n = omega (arith, n_is, K.may.within) in
      let more : (length D + 1) * w ≡ length D * w + w = ap (λ (m : ℕ). m * w) (add-one (length D)) ∙ suc-mul (length D) w in
      record {
        split = split_mul K.i K.n w u;
        under = u;
        part = omega (arith, K.start_read, b_is, start_under K.h K.t K.ws K.may.sound K.i);
        room = omega (arith, n_mul, b_is, more, K.may.room);
        small = K.may.small;
      }

  -- The parts make up the entries.
  back : E ++ F ≡ D
  back = take-append-drop K.i D

  -- The widths of the entries before i.
  wide_es : Wide K.h K.t E
  wide_es = wide_left K.h K.t E F (subst (Wide K.h K.t) (sym back) K.may.sound.wide)

  -- The widths of the entries from i on.
  wide_fs : Wide K.h K.t F
  wide_fs = wide_right K.h K.t E F (subst (Wide K.h K.t) (sym back) K.may.sound.wide)

  -- The slots before i.
  i_mul : length E * w ≡ K.i * w
  i_mul = ap (λ (m : ℕ). m * w) (length-take-le K.i D K.may.within)

  -- All slots, by the first counter.
  all_mul : length (E ++ F) * w ≡ K.n * w
  all_mul = ap (λ (l : List Entry). length l * w) back ∙ sym n_mul

  -- All body words, by the second counter.
  all_b : length (bodies (E ++ F)) ≡ K.b
  all_b = ap (λ (l : List Entry). length (bodies l)) back ∙ sym b_is

  -- The bodies before i end at the start.
  o_is : length (bodies E) ≡ K.start
  unfolding start_of
  o_is = sym K.start_read

  -- The number of slots whose starts are counted anew.
  rest_is : length F ≡ K.n - K.i
  rest_is = length-drop K.i D ∙ ap (λ (m : ℕ). m - K.i) (sym n_is)

  -- The table after the body went in.
  abbrev pub T₁ : List ℕ
  T₁ = stage₁ (length K.ws) E F K.e

  -- The table after the slot went in, where the slots behind it start at q.
  abbrev pub T₂ : ℕ → List ℕ
  T₂ q = stage₂ (length K.ws) E F K.e q

  -- The body goes in.
  pub step_1 : (s : List ℕ) → s ≡ spliced K.ws (end + K.start) (end + K.b) K.e.body → s ≡ T₁
  step_1 s e =
      e ∙ ap (λ (l : List ℕ). spliced l (end + K.start) (end + K.b) K.e.body) (K.may.sound.same ∙ ap (encode (length K.ws)) (sym back))
      ∙ insert_1 (length K.ws) K.h K.t E F K.e wide_es wide_fs K.may.head K.may.tail (end + K.start) (end + K.b)
      (omega (arith, all_mul, o_is)) (omega (arith, all_mul, all_b)) (omega (arith, nums.room))

  -- The slot goes in.
  pub step_2 : (s u : List ℕ) → s ≡ T₁ → u ≡ spliced s at (end + K.b + k) (slot K.start K.e) → u ≡ T₂ K.start
  step_2 s u p e =
      e ∙ (λ j. spliced (p j) at (end + K.b + k) (slot (sym o_is j) K.e))
      ∙ insert_2 (length K.ws) K.h K.t E F K.e wide_es wide_fs K.may.head K.may.tail at (end + K.b + k)
      (omega (arith, i_mul)) (omega (arith, all_mul, all_b)) (omega (arith, nums.room))
      ∙ ap T₂ o_is

  -- The sum of the starts and counts fits a word.
  pub step_counts : (s : List ℕ) → s ≡ T₂ K.start → K.start + k + counts K.h K.t (K.n - K.i) (drop (at + w) s) < 2 ^ 32
  step_counts s p =
      let c : counts K.h K.t (K.n - K.i) (drop (at + w) s) ≡ length (bodies F) =
      (λ j. counts K.h K.t (sym rest_is j) (drop (at + w) (p j)))
      ∙ ap (λ (m : ℕ). counts K.h K.t (length F) (drop (at + w) (T₂ m))) (sym o_is)
      ∙ insert_counts (length K.ws) K.h K.t E F K.e wide_es wide_fs K.may.head K.may.tail (at + w) (omega (arith, i_mul)) in
      let l : length (bodies (E ++ F)) ≡ length (bodies E) + length (bodies F) = rw (bodies_append, length-append) in
      omega (arith, c, l, all_b, o_is, nums.room, K.may.small)

  -- The starts behind the new slot are counted anew.
  pub step_3 : (s u : List ℕ) → s ≡ T₂ K.start
      → u ≡ take (at + w) s ++ restarted K.h K.t (K.n - K.i) (K.start + k) (drop (at + w) s) → u ≡ T₂ (K.start + k)
  step_3 s u p e =
      let p₁ : s ≡ T₂ (length (bodies E)) = p ∙ ap T₂ (sym o_is) in
      e ∙ (λ j. take (at + w) (p₁ j) ++ restarted K.h K.t (sym rest_is j) (sym o_is j + k) (drop (at + w) (p₁ j)))
      ∙ insert_3 (length K.ws) K.h K.t E F K.e wide_es wide_fs K.may.head K.may.tail (at + w) (omega (arith, i_mul))
      ∙ ap (λ (m : ℕ). T₂ (m + k)) o_is

  -- The two counters are written.
  pub step_4 : (s : List ℕ) → s ≡ T₂ (K.start + k)
      → set (set s 0 (K.n + 1)) 1 (K.b + k) ≡ encode (length K.ws) (insert_at K.i K.e (decode K.h K.t K.ws))
  unfolding insert_at
  step_4 s p =
      let e : length (E ++ F) ≡ K.n = ap length back ∙ sym n_is in
      ap (λ (l : List ℕ). set (set l 0 (K.n + 1)) 1 (K.b + k)) (p ∙ ap (λ (m : ℕ). T₂ (m + k)) (sym o_is))
      ∙ insert_4 (length K.ws) K.h K.t E F K.e wide_es wide_fs K.may.head K.may.tail (K.n + 1) (K.b + k)
      (omega (arith, e)) (omega (arith, all_b))
