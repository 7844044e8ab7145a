-- Laws of slots, bodies and `encode`, with the entries cut in two where the work is done. Assumes nothing.
use mathlib.Core.Path.{◌≡◌, refl, sym, ap, ◌∙◌}
use mathlib.Core.List.{List, [], ◌∷◌, ◌++◌, append_assoc}
use Prim.Native.Nat.{ℕ, suc, ◌+◌, ◌-◌, ◌*◌, ◌≤◌, ◌<◌}
use native.Mathlib.Omega.{arith}
use native.Mathlib.Nat.{add-zero, zero-add, add_assoc, suc-mul, zero-mul}
use lib.ListN.{length, take, drop, get_or, replicate, length-append, length-replicate, replicate-append-replicate, get_or-append}
use lib.Seq.{take_at, drop_at, drop-drop, drop-append-add, get_or-append-add, get_or_at, take-append_seam}
use Rattle.runs.specs.Words.{spliced, closed}
use Rattle.table.specs.Table.{counters, span, Entry, width, slots, bodies, pad, encode, Wide}
use Rattle.table.specs.Helpers.{restarted, counts}

-- ---- slots and bodies

-- A slot before others and what follows them, without the brackets.
slot_assoc : (p : List ℕ) (a k : ℕ) (q r z : List ℕ) → (p ++ (a ∷ (k ∷ (q ++ r)))) ++ z ≡ p ++ (a ∷ (k ∷ (q ++ (r ++ z))))
slot_assoc p a k q r z = simp append_assoc

-- The slots of two lists of entries follow each other; the second starts where the bodies of the first end.
pub slots_append : (o : ℕ) (es fs : List Entry) → slots o (es ++ fs) ≡ slots o es ++ slots (o + length (bodies es)) fs
unfolding slots bodies
slots_append o [] fs = ap (λ (k : ℕ). slots k fs) (sym (add-zero o))
slots_append o (e ∷ es) fs =
    let k : ℕ = length e.body in
    let n : o + k + length (bodies es) ≡ o + length (e.body ++ bodies es) =
    add_assoc o k (length (bodies es)) ∙ ap (λ (m : ℕ). o + m) (sym (length-append e.body (bodies es))) in
    ap (λ (l : List ℕ). e.head ++ (o ∷ (k ∷ (e.tail ++ l)))) (slots_append (o + k) es fs ∙ ap (λ (m : ℕ). slots (o + k) es ++ slots m fs) n)
    ∙ sym (slot_assoc e.head o k e.tail (slots (o + k) es) (slots (o + length (e.body ++ bodies es)) fs))

-- The bodies of two lists of entries follow each other.
pub bodies_append : (es fs : List Entry) → bodies (es ++ fs) ≡ bodies es ++ bodies fs
unfolding bodies
bodies_append [] fs = refl
bodies_append (e ∷ es) fs = ap (λ (l : List ℕ). e.body ++ l) (bodies_append es fs) ∙ sym (append_assoc e.body (bodies es) (bodies fs))

-- Every slot has the same width.
pub length_slots : (h t o : ℕ) (es : List Entry) → Wide h t es → length (slots o es) ≡ length es * width h t
unfolding slots Wide
length_slots h t o [] w = sym (zero-mul (width h t))
length_slots h t o (e ∷ es) w =
    let ih = length_slots h t (o + length e.body) es w.1 in
    length-append e.head _ ∙ omega (arith, ih, w.0, length-append e.tail (slots (o + length e.body) es), suc-mul (length es) (width h t))

-- Two lists with heads and tails of the right lengths make one.
pub wide_append : (h t : ℕ) (es fs : List Entry) → Wide h t es → Wide h t fs → Wide h t (es ++ fs)
unfolding Wide
wide_append h t [] fs u v = v
wide_append h t (e ∷ es) fs u v = (u.0, wide_append h t es fs u.1 v)

-- The first part of such a list is one.
pub wide_left : (h t : ℕ) (es fs : List Entry) → Wide h t (es ++ fs) → Wide h t es
unfolding Wide
wide_left h t [] fs u = tt
wide_left h t (e ∷ es) fs u = (u.0, wide_left h t es fs u.1)

-- The last part of such a list is one.
pub wide_right : (h t : ℕ) (es fs : List Entry) → Wide h t (es ++ fs) → Wide h t fs
unfolding Wide
wide_right h t [] fs u = u
wide_right h t (e ∷ es) fs u = wide_right h t es fs u.1

-- ---- zeros behind a list

-- Padding fills the size.
pub length_pad : (size : ℕ) (l : List ℕ) → length l ≤ size → length (pad size l) ≡ size
unfolding pad
length_pad size l h = simp (length-append, length-replicate) (omega arith)

-- A run of zeros, cut in two.
zeros_split : (n k : ℕ) → k ≤ n → replicate {A = ℕ} n 0 ≡ replicate k 0 ++ replicate (n - k) 0
zeros_split n k h =
    let e : k + (n - k) ≡ n = omega arith in
    ap (λ (m : ℕ). replicate {A = ℕ} m 0) (sym e) ∙ sym (replicate-append-replicate k (n - k) 0)

-- A padded table into which src goes between p and q.
pub pad_splice : (size : ℕ) (p q src : List ℕ) (at used : ℕ) → length p ≡ at → at + length q ≡ used → used + length src ≤ size
    → spliced (pad size (p ++ q)) at used src ≡ pad size (p ++ (src ++ q))
unfolding spliced pad
pad_splice size p q src at used lp lq room =
    let k : ℕ = length src in
    let n : ℕ = size - length (p ++ q) in
    let lpq : length (p ++ q) ≡ used = length-append p q ∙ omega arith in
    let z = zeros_split n k (omega arith) in
    let lall : length (p ++ (src ++ q)) ≡ used + k = simp length-append (omega arith) in
    let left : n - k ≡ size - length (p ++ (src ++ q)) = omega arith in
    let e₁ : take at ((p ++ q) ++ replicate n 0) ≡ p = rw append_assoc (take_at p (q ++ replicate n 0) at lp) in
    let e₂ : drop at (take used ((p ++ q) ++ replicate n 0)) ≡ q = rw (take_at (p ++ q) (replicate n 0) used lpq) (drop_at p q at lp) in
    let e₃ : drop (used + k) ((p ++ q) ++ replicate n 0) ≡ replicate (size - length (p ++ (src ++ q))) 0 =
    ap (λ (l : List ℕ). drop (used + k) ((p ++ q) ++ l)) z
    ∙ ap (drop (used + k)) (sym (append_assoc (p ++ q) (replicate k 0) (replicate (n - k) 0)))
    ∙ drop_at ((p ++ q) ++ replicate k 0) (replicate (n - k) 0) (used + k) (length-append (p ++ q) (replicate k 0) ∙ rw (length-replicate, lpq))
    ∙ ap (λ (m : ℕ). replicate {A = ℕ} m 0) left in
    (λ i. e₁ i ++ (src ++ (e₂ i ++ e₃ i))) ∙ (simp append_assoc)

-- A padded table from which x goes out between p and q.
pub pad_close : (size : ℕ) (p x q : List ℕ) (at k used : ℕ) → length p ≡ at → length x ≡ k → at + k + length q ≡ used → used ≤ size
    → closed (pad size (p ++ (x ++ q))) at k used ≡ pad size (p ++ q)
unfolding closed pad
pad_close size p x q at k used lp lx lq room =
    let all : List ℕ = p ++ (x ++ q) in
    let n : ℕ = size - length all in
    let lall : length all ≡ used = simp length-append (omega arith) in
    let lpq : length (p ++ q) + k ≡ used = simp length-append (omega arith) in
    let left : k + n ≡ size - length (p ++ q) = omega arith in
    let e₁ : take at (all ++ replicate n 0) ≡ p = rw append_assoc (take_at p ((x ++ q) ++ replicate n 0) at lp) in
    let e₂ : drop (at + k) (take used (all ++ replicate n 0)) ≡ q =
    ap (drop (at + k)) (take_at all (replicate n 0) used lall)
    ∙ ap (drop (at + k)) (sym (append_assoc p x q)) ∙ drop_at (p ++ x) q (at + k) (length-append p x ∙ omega arith) in
    let e₃ : drop used (all ++ replicate n 0) ≡ replicate n 0 = drop_at all (replicate n 0) used lall in
    (λ i. e₁ i ++ (e₂ i ++ (replicate k 0 ++ e₃ i)))
    ∙ ap (λ (l : List ℕ). p ++ (q ++ l)) (replicate-append-replicate k n 0 ∙ ap (λ (m : ℕ). replicate {A = ℕ} m 0) left)
    ∙ sym (append_assoc p q (replicate (size - length (p ++ q)) 0))

-- ---- one slot: p, a, k, q, and u behind it

module _ (p q u : List ℕ) (a k h t : ℕ) (lp : length p ≡ h) (lq : length q ≡ t) where
  -- What stands behind the count.
  slot_on : drop (h + span) (p ++ (a ∷ (k ∷ (q ++ u)))) ≡ q ++ u
  slot_on = ap (λ (n : ℕ). drop (n + span) (p ++ (a ∷ (k ∷ (q ++ u))))) (sym lp) ∙ drop-append-add p (a ∷ (k ∷ (q ++ u))) span

  -- The slot's head.
  pub slot_head : take h (p ++ (a ∷ (k ∷ (q ++ u)))) ≡ p
  slot_head = take_at p (a ∷ (k ∷ (q ++ u))) h lp

  -- The slot's start.
  pub slot_start : get_or (p ++ (a ∷ (k ∷ (q ++ u)))) h 0 ≡ a
  slot_start = get_or_at p a (k ∷ (q ++ u)) 0 h lp

  -- The slot's count.
  pub slot_count : get_or (p ++ (a ∷ (k ∷ (q ++ u)))) (h + 1) 0 ≡ k
  slot_count = ap (λ (n : ℕ). get_or (p ++ (a ∷ (k ∷ (q ++ u)))) (n + 1) 0) (sym lp) ∙ get_or-append-add p (a ∷ (k ∷ (q ++ u))) 1 0

  -- The slot's tail.
  pub slot_tail : take t (drop (h + span) (p ++ (a ∷ (k ∷ (q ++ u))))) ≡ q
  slot_tail = ap (take t) slot_on ∙ take_at q u t lq

  -- What stands behind the slot.
  pub slot_rest : drop (width h t) (p ++ (a ∷ (k ∷ (q ++ u)))) ≡ u
  slot_rest = sym (drop-drop t (h + span) (p ++ (a ∷ (k ∷ (q ++ u))))) ∙ ap (drop t) slot_on ∙ drop_at q u t lq

  -- One slot with its start counted anew.
  restarted_slot : (m o : ℕ) → restarted h t (suc m) o (p ++ (a ∷ (k ∷ (q ++ u)))) ≡ p ++ (o ∷ (k ∷ (q ++ restarted h t m (o + k) u)))
  unfolding restarted
  restarted_slot m o = λ i. slot_head i ++ (o ∷ (slot_count i ∷ (slot_tail i ++ restarted h t m (o + slot_count i) (slot_rest i))))

  -- One slot's count.
  counts_slot : (m : ℕ) → counts h t (suc m) (p ++ (a ∷ (k ∷ (q ++ u)))) ≡ k + counts h t m u
  unfolding counts
  counts_slot m = λ i. slot_count i + counts h t m (slot_rest i)

-- ---- starts

-- Slots with their starts counted anew are the slots from the new start.
pub restarted_slots : (h t o q : ℕ) (es : List Entry) (z : List ℕ) → Wide h t es → restarted h t (length es) o (slots q es ++ z) ≡ slots o es ++ z
unfolding restarted slots Wide
restarted_slots h t o q [] z w = refl
restarted_slots h t o q (e ∷ es) z w =
    let k : ℕ = length e.body in
    let u : List ℕ = slots (q + k) es ++ z in
    ap (restarted h t (suc (length es)) o) (slot_assoc e.head q k e.tail (slots (q + k) es) z)
    ∙ restarted_slot e.head e.tail u q k h t w.0.0 w.0.1 (length es) o
    ∙ ap (λ (l : List ℕ). e.head ++ (o ∷ (k ∷ (e.tail ++ l)))) (restarted_slots h t (o + k) (q + k) es z w.1)
    ∙ sym (slot_assoc e.head o k e.tail (slots (o + k) es) z)

-- The counts of slots add up to the length of the bodies.
pub counts_slots : (h t q : ℕ) (es : List Entry) (z : List ℕ) → Wide h t es → counts h t (length es) (slots q es ++ z) ≡ length (bodies es)
unfolding counts slots bodies Wide
counts_slots h t q [] z w = refl
counts_slots h t q (e ∷ es) z w =
    let k : ℕ = length e.body in
    let u : List ℕ = slots (q + k) es ++ z in
    ap (counts h t (suc (length es))) (slot_assoc e.head q k e.tail (slots (q + k) es) z)
    ∙ counts_slot e.head e.tail u q k h t w.0.0 w.0.1 (length es)
    ∙ ap (λ (m : ℕ). k + m) (counts_slots h t (q + k) es z w.1)
    ∙ sym (length-append e.body (bodies es))

-- ---- a table, cut in two at an entry

-- A table is the entries before the cut, then those behind it: first all slots, then all bodies.
pub encode_split : (size : ℕ) (es fs : List Entry)
    → encode size (es ++ fs)
    ≡ pad size (length (es ++ fs) ∷ (length (bodies (es ++ fs)) ∷ (slots 0 es ++ (slots (length (bodies es)) fs ++ (bodies es ++ bodies fs)))))
unfolding encode
encode_split size es fs = rw (slots_append, bodies_append es fs, zero-add, append_assoc)

-- A padded table in three parts, with the number of its zeros.
pub pad_form : (size n b : ℕ) (x y z : List ℕ)
    → pad size (n ∷ (b ∷ (x ++ (y ++ z)))) ≡ (n ∷ (b ∷ x)) ++ (y ++ (z ++ replicate (size - (counters + length x + length y + length z)) 0))
unfolding pad
pad_form size n b x y z =
    let e : suc (suc (length (x ++ (y ++ z)))) ≡ counters + length x + length y + length z = simp length-append (omega arith) in
    rw (append_assoc, append_assoc y z, e)

-- What `restart` makes of a table from the slot behind x on.
pub restart_pad : (size n b h t q o at : ℕ) (x z : List ℕ) (es : List Entry) → Wide h t es → counters + length x ≡ at
    → take at (pad size (n ∷ (b ∷ (x ++ (slots q es ++ z)))))
    ++ restarted h t (length es) o (drop at (pad size (n ∷ (b ∷ (x ++ (slots q es ++ z))))))
    ≡ pad size (n ∷ (b ∷ (x ++ (slots o es ++ z))))
restart_pad size n b h t q o at x z es w l =
    let p : List ℕ = n ∷ (b ∷ x) in
    let lp : length p ≡ at = omega arith in
    let zeros : List ℕ = replicate (size - (counters + length x + length (slots q es) + length z)) 0 in
    let u : List ℕ = slots q es ++ (z ++ zeros) in
    let same : length (slots q es) ≡ length (slots o es) = length_slots h t q es w ∙ sym (length_slots h t o es w) in
    (λ i. take at (pad_form size n b x (slots q es) z i) ++ restarted h t (length es) o (drop at (pad_form size n b x (slots q es) z i)))
    ∙ (λ i. take_at p u at lp i ++ restarted h t (length es) o (drop_at p u at lp i))
    ∙ ap (λ (r : List ℕ). p ++ r) (restarted_slots h t o q es (z ++ zeros) w)
    ∙ ap (λ (m : ℕ). p ++ (slots o es ++ (z ++ replicate (size - (counters + length x + m + length z)) 0))) same
    ∙ sym (pad_form size n b x (slots o es) z)

-- The counts that `restart` reads there.
pub counts_pad : (size n b h t q at : ℕ) (x z : List ℕ) (es : List Entry) → Wide h t es → counters + length x ≡ at
    → counts h t (length es) (drop at (pad size (n ∷ (b ∷ (x ++ (slots q es ++ z)))))) ≡ length (bodies es)
counts_pad size n b h t q at x z es w l =
    let p : List ℕ = n ∷ (b ∷ x) in
    let lp : length p ≡ at = omega arith in
    let u : List ℕ = z ++ replicate (size - (counters + length x + length (slots q es) + length z)) 0 in
    rw (pad_form size n b x (slots q es) z, drop_at p (slots q es ++ u) at lp, counts_slots h t q es u w)

-- ---- one entry's words

-- A table up to the head of entry e.
abbrev front : List Entry → List Entry → Entry → List ℕ
front es fs e = length (es ++ (e ∷ fs)) ∷ (length (bodies (es ++ (e ∷ fs))) ∷ (slots 0 es ++ e.head))

-- A table from the head of entry e on.
encode_at : (size : ℕ) (es fs : List Entry) (e : Entry)
    → (rest : List ℕ) × (encode size (es ++ (e ∷ fs)) ≡ front es fs e ++ (length (bodies es) ∷ (length e.body ∷ (e.tail ++ rest))))
unfolding slots pad
encode_at size es fs e =
    let o : ℕ = length (bodies es) in
    let all : List Entry = es ++ (e ∷ fs) in
    let k : ℕ = length e.body in
    let ys : List ℕ = bodies es ++ bodies (e ∷ fs) in
    (_, encode_split size es (e ∷ fs) ∙ laid (length all) (length (bodies all)) (slots 0 es) e.head o k e.tail (slots (o + k) fs) ys _)
  where
    laid : (n b : ℕ) (x p : List ℕ) (o k : ℕ) (q r y z : List ℕ)
        → (n ∷ (b ∷ (x ++ ((p ++ (o ∷ (k ∷ (q ++ r)))) ++ y)))) ++ z ≡ (n ∷ (b ∷ (x ++ p))) ++ (o ∷ (k ∷ (q ++ (r ++ (y ++ z)))))
    laid n b x p o k q r y z = simp append_assoc

-- What stands in the slot of entry e.
module _ (size h t : ℕ) (es fs : List Entry) (e : Entry) (w : Wide h t es) (l : length e.head ≡ h) where
  -- A table behind the head of entry e.
  abbrev behind : List ℕ
  behind = length (bodies es) ∷ (length e.body ∷ (e.tail ++ (encode_at size es fs e).0))

  -- Where the start of entry e stands.
  before_slot : length (front es fs e) ≡ counters + length es * width h t + h
  before_slot = omega (arith, length-append (slots 0 es) e.head, length_slots h t 0 es w)

  -- The start.
  pub start_at : get_or (encode size (es ++ (e ∷ fs))) (counters + length es * width h t + h) 0 ≡ length (bodies es)
  start_at =
      ap (λ (x : List ℕ). get_or x (counters + length es * width h t + h) 0) (encode_at size es fs e).1
      ∙ get_or_at (front es fs e) (length (bodies es)) (length e.body ∷ (e.tail ++ (encode_at size es fs e).0)) 0 (counters + length es * width h t + h) before_slot

  -- The count.
  pub count_at : get_or (encode size (es ++ (e ∷ fs))) (counters + length es * width h t + h + 1) 0 ≡ length e.body
  count_at =
      ap (λ (x : List ℕ). get_or x (counters + length es * width h t + h + 1) 0) (encode_at size es fs e).1
      ∙ ap (λ (n : ℕ). get_or (front es fs e ++ behind) (n + 1) 0) (sym before_slot)
      ∙ get_or-append-add (front es fs e) behind 1 0

  -- Word j of the tail.
  pub tail_at : (j : ℕ) → j < length e.tail → get_or (encode size (es ++ (e ∷ fs))) (counters + length es * width h t + h + span + j) 0 ≡ get_or e.tail j 0
  tail_at j jt =
      let n : counters + length es * width h t + h + span + j ≡ length (front es fs e) + suc (suc j) = omega (arith, before_slot) in
      (λ i. get_or ((encode_at size es fs e).1 i) (n i) 0)
      ∙ get_or-append-add (front es fs e) behind (suc (suc j)) 0
      ∙ get_or-append e.tail (encode_at size es fs e).0 0 j jt

  -- A table up to the slot of entry e.
  abbrev above : List ℕ
  above = length (es ++ (e ∷ fs)) ∷ (length (bodies (es ++ (e ∷ fs))) ∷ slots 0 es)

  -- Where the slot of entry e stands.
  above_slot : length above ≡ counters + length es * width h t
  above_slot = omega (arith, length_slots h t 0 es w)

  -- A table from the slot of entry e on.
  encode_slot : encode size (es ++ (e ∷ fs)) ≡ above ++ (e.head ++ behind)
  encode_slot = (encode_at size es fs e).1 ∙ append_assoc above e.head behind

  -- Word j of the head.
  pub head_at : (j : ℕ) → j < h → get_or (encode size (es ++ (e ∷ fs))) (counters + length es * width h t + j) 0 ≡ get_or e.head j 0
  head_at j jh =
      (λ i. get_or (encode_slot i) (sym above_slot i + j) 0)
      ∙ get_or-append-add above (e.head ++ behind) j 0
      ∙ get_or-append e.head behind 0 j (omega arith)

  -- The head itself.
  pub head_part : take h (drop (counters + length es * width h t) (encode size (es ++ (e ∷ fs)))) ≡ e.head
  head_part =
      ap (λ (x : List ℕ). take h (drop (counters + length es * width h t) x)) encode_slot
      ∙ ap (take h) (drop_at above (e.head ++ behind) (counters + length es * width h t) above_slot)
      ∙ take_at e.head behind h l

-- The body of entry e.
pub body_at : (size h t : ℕ) (es fs : List Entry) (e : Entry) → Wide h t (es ++ (e ∷ fs))
    → take (length e.body) (drop (counters + length (es ++ (e ∷ fs)) * width h t + length (bodies es)) (encode size (es ++ (e ∷ fs)))) ≡ e.body
unfolding bodies encode
body_at size h t es fs e w =
    let all : List Entry = es ++ (e ∷ fs) in
    let x : List ℕ = slots 0 all ++ bodies es in
    let p : List ℕ = length all ∷ (length (bodies all) ∷ x) in
    let z : List ℕ = bodies fs ++ replicate (size - (counters + length x + length e.body + length (bodies fs))) 0 in
    let lp : length p ≡ counters + length all * width h t + length (bodies es) = omega (arith, length-append (slots 0 all) (bodies es), length_slots h t 0 all w) in
    let a : slots 0 all ++ bodies all ≡ x ++ (e.body ++ bodies fs) =
    ap (λ (l : List ℕ). slots 0 all ++ l) (bodies_append es (e ∷ fs)) ∙ sym (append_assoc (slots 0 all) (bodies es) (e.body ++ bodies fs)) in
    let f : encode size all ≡ p ++ (e.body ++ z) =
    open_up all ∙ ap (λ (l : List ℕ). pad size (length all ∷ (length (bodies all) ∷ l))) a
    ∙ pad_form size (length all) (length (bodies all)) x e.body (bodies fs) in
    rw (f, drop_at p (e.body ++ z) (counters + length all * width h t + length (bodies es)) lp) (take-append_seam e.body z)
  where
    open_up : (all : List Entry) → encode size all ≡ pad size (length all ∷ (length (bodies all) ∷ (slots 0 all ++ bodies all)))
    open_up all = refl
