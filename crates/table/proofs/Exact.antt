-- `well_formed` holds of the sound tables and of no other words, and a table decodes to its entries. Assumes nothing.
use mathlib.Core.Path.{◌≡◌, refl, sym, ap, ◌∙◌, subst}
use mathlib.Core.List.{List, [], ◌∷◌, ◌++◌, append_assoc}
use mathlib.Core.Bool.{true, ◌&&◌, and-eq-true_iff, false≢true}
use Prim.Native.Nat.{ℕ, zero, suc, ◌+◌, ◌-◌, ◌*◌, ◌≤◌}
use native.Mathlib.Omega.{arith}
use native.Mathlib.Nat.{suc-mul, zero-mul, sub-zero, add_assoc}
use native.Mathlib.Numerals.{add-one}
use lib.Dec.{eqb, leb}
use lib.ListN.{length, take, drop, get_or, replicate, length-append, length-drop, length-replicate, take-append-drop}
use lib.Seq.{take_at, drop_at, take-add, drop-drop, drop-cons, length-take-le, drop-append-add}
use borrow.Author.Tests.{eqb-true, leb-true, eq-eqb, le-leb}
use Rattle.table.specs.Table.{counters, span, Entry, width, slots, bodies, pad, encode, Wide, decode_slots, decode, Sound, slots_ok, all_zero, well_formed}
use Rattle.table.proofs.Tables.{length_slots, length_pad, slot_head, slot_start, slot_count, slot_tail, slot_rest}
use Rattle.table.proofs.Checking.{wf_all}

-- ---- a table decodes to its entries

-- The slots of an entry and of others, and z behind them, without the brackets.
pub slots_first : (o : ℕ) (e : Entry) (es : List Entry) (z : List ℕ)
    → slots o (e ∷ es) ++ z ≡ e.head ++ (o ∷ (length e.body ∷ (e.tail ++ (slots (o + length e.body) es ++ z))))
unfolding slots
slots_first o e es z =
    let k : ℕ = length e.body in
    append_assoc e.head (o ∷ (k ∷ (e.tail ++ slots (o + k) es))) z
    ∙ ap (λ (l : List ℕ). e.head ++ (o ∷ (k ∷ l))) (append_assoc e.tail (slots (o + k) es) z)

-- A slot and a body, with slots u and bodies v behind them, decode to an entry and what those decode to.
decode_slot : (h t m o : ℕ) (e : Entry) (u v : List ℕ) → (length e.head ≡ h) × (length e.tail ≡ t)
    → decode_slots h t (suc m) (e.head ++ (o ∷ (length e.body ∷ (e.tail ++ u)))) (e.body ++ v) ≡ e ∷ decode_slots h t m u v
unfolding decode_slots
decode_slot h t m o e u v w =
    let k : ℕ = length e.body in
    let head = slot_head e.head e.tail u o k h t w.0 w.1 in
    let count = slot_count e.head e.tail u o k h t w.0 w.1 in
    let tail = slot_tail e.head e.tail u o k h t w.0 w.1 in
    let rest = slot_rest e.head e.tail u o k h t w.0 w.1 in
    (λ i. record { head = head i; body = take (count i) (e.body ++ v); tail = tail i } ∷ decode_slots h t m (rest i) (drop (count i) (e.body ++ v)))
    ∙ (λ i. record { head = e.head; body = take_at e.body v k refl i; tail = e.tail } ∷ decode_slots h t m u (drop_at e.body v k refl i))

-- Slots and bodies decode to their entries, whatever stands behind each.
decode-slots : (h t o : ℕ) (es : List Entry) (y z : List ℕ) → Wide h t es → decode_slots h t (length es) (slots o es ++ y) (bodies es ++ z) ≡ es
unfolding decode_slots bodies Wide
decode-slots h t o [] y z w = refl
decode-slots h t o (e ∷ es) y z w =
    let k : ℕ = length e.body in
    (λ i. decode_slots h t (suc (length es)) (slots_first o e es y i) (append_assoc e.body (bodies es) z i))
    ∙ decode_slot h t (length es) o e (slots (o + k) es ++ y) (bodies es ++ z) w.0
    ∙ ap (λ (l : List Entry). e ∷ l) (decode-slots h t (o + k) es y z w.1)

module _ (h t size : ℕ) (es : List Entry) (w : Wide h t es) (fits : counters + length es * width h t + length (bodies es) ≤ size) where
  -- A table decodes to its entries.
  pub decode_encode : decode h t (encode size es) ≡ es
  unfolding decode encode pad
  decode_encode =
      let n : ℕ = length es in
      let b : ℕ = length (bodies es) in
      let z : List ℕ = replicate (size - suc (suc (length (slots 0 es ++ bodies es)))) 0 in
      let p : List ℕ = n ∷ (b ∷ slots 0 es) in
      let lp : length p ≡ counters + n * width h t = omega (arith, length_slots h t 0 es w) in
      let l : drop (counters + n * width h t) (n ∷ (b ∷ ((slots 0 es ++ bodies es) ++ z))) ≡ bodies es ++ z =
      rw append_assoc (drop_at p (bodies es ++ z) (counters + n * width h t) lp) in
      rw (l, append_assoc) (decode-slots h t 0 es (bodies es ++ z) z w)

  -- A table has the size that it is to have.
  pub length_encode : length (encode size es) ≡ size
  unfolding encode
  length_encode = length_pad size _ (omega (arith, length-append (slots 0 es) (bodies es), length_slots h t 0 es w))

  -- A table is sound.
  pub encode_sound : Sound h t (encode size es)
  encode_sound = record {
    wide = subst (Wide h t) (sym decode_encode) w;
    same = rw (decode_encode, length_encode);
    fits = rw (decode_encode, length_encode) fits;
  }

-- ---- sound tables pass

-- Zeros pass for zeros.
zeros_ok : (n : ℕ) → all_zero (replicate n 0) ≡ true
unfolding all_zero
zeros_ok zero = refl
zeros_ok (suc n) = zeros_ok n

-- The slots of entries pass.
ok_slots : (h t o b : ℕ) (es : List Entry) (y : List ℕ) → Wide h t es → o + length (bodies es) ≡ b → slots_ok h t (length es) o b (slots o es ++ y) ≡ true
unfolding slots_ok bodies Wide
ok_slots h t o b [] y w e = eq-eqb o b (omega arith)
ok_slots h t o b (x ∷ es) y w e =
    let k : ℕ = length x.body in
    let u : List ℕ = slots (o + k) es ++ y in
    let l : length (x.body ++ bodies es) ≡ k + length (bodies es) = length-append x.body (bodies es) in
    let start = slot_start x.head x.tail u o k h t w.0.0 w.0.1 in
    let count = slot_count x.head x.tail u o k h t w.0.0 w.0.1 in
    let rest = slot_rest x.head x.tail u o k h t w.0.0 w.0.1 in
    ap (slots_ok h t (suc (length es)) o b) (slots_first o x es y)
    ∙ (λ i. eqb (start i) o && (leb (count i) (b - o) && slots_ok h t (length es) (o + count i) b (rest i)))
    ∙ (λ i. eq-eqb o o refl i && (le-leb k (b - o) (omega arith) i && ok_slots h t (o + k) b es y w.1 (omega arith) i))

-- A table passes the check.
pub encode_passes : (h t size : ℕ) (es : List Entry) → Wide h t es
    → counters + length es * width h t + length (bodies es) ≤ size → well_formed h t (encode size es) ≡ true
unfolding encode pad
encode_passes h t size es w fits =
    let n : ℕ = length es in
    let b : ℕ = length (bodies es) in
    let x : List ℕ = slots 0 es ++ bodies es in
    let left : ℕ = size - suc (suc (length x)) in
    let ws : List ℕ = n ∷ (b ∷ (x ++ replicate left 0)) in
    let end : ℕ = counters + n * width h t + b in
    let lx : length x ≡ n * width h t + b = length-append (slots 0 es) (bodies es) ∙ omega (arith, length_slots h t 0 es w) in
    let lw : length ws ≡ size = omega (arith, length-append x (replicate left 0), length-replicate {A = ℕ} left 0) in
    let back : drop end ws ≡ replicate left 0 = drop_at (n ∷ (b ∷ x)) (replicate left 0) end (omega arith) in
    let ok : slots_ok h t n 0 b (x ++ replicate left 0) ≡ true = rw append_assoc (ok_slots h t 0 b es (bodies es ++ replicate left 0) w (omega arith)) in
    sym (wf_all h t ws n b refl refl (omega arith) (omega arith)) ∙ (λ i. ok i && all_zero (back i)) ∙ zeros_ok left

-- Sound words pass the check.
pub sound_passes : (h t : ℕ) (ws : List ℕ) → Sound h t ws → well_formed h t ws ≡ true
sound_passes h t ws s = ap (well_formed h t) s.same ∙ encode_passes h t (length ws) (decode h t ws) s.wide s.fits

-- ---- what passes is sound

-- Words that pass for zeros are zeros.
all-zero : (xs : List ℕ) → all_zero xs ≡ true → xs ≡ replicate (length xs) 0
unfolding all_zero
all-zero [] e = refl
all-zero (x ∷ xs) e =
    let p = (and-eq-true_iff (eqb x 0) (all_zero xs)).0 e in
    λ i. eqb-true x 0 p.0 i ∷ all-zero xs p.1 i

-- The words of a slot are its head, its start, its count and its tail.
whole_slot : (xs : List ℕ) (h t : ℕ) → width h t ≤ length xs
    → take (width h t) xs ≡ take h xs ++ (get_or xs h 0 ∷ (get_or xs (h + 1) 0 ∷ take t (drop (h + span) xs)))
whole_slot xs h t l =
    let two : take span (drop h xs) ≡ get_or xs h 0 ∷ (get_or xs (h + 1) 0 ∷ []) =
    ap (take span) (drop-cons xs h 0 (omega arith) ∙ ap (λ (r : List ℕ). get_or xs h 0 ∷ r) (drop-cons xs (suc h) 0 (omega arith)))
    ∙ ap (λ (k : ℕ). get_or xs h 0 ∷ (get_or xs k 0 ∷ [])) (sym (add-one h)) in
    take-add (h + span) t xs
    ∙ ap (λ (r : List ℕ). r ++ take t (drop (h + span) xs)) (take-add h span xs ∙ ap (λ (r : List ℕ). take h xs ++ r) two)
    ∙ append_assoc (take h xs) (get_or xs h 0 ∷ (get_or xs (h + 1) 0 ∷ [])) (take t (drop (h + span) xs))

-- What m slots that pass decode to: entries whose slots and bodies are the words read.
record Read (h t m o b : ℕ) (xs ys : List ℕ) : Type 0 where
  wide : Wide h t (decode_slots h t m xs ys)
  many : length (decode_slots h t m xs ys) ≡ m
  slots_are : slots o (decode_slots h t m xs ys) ≡ take (m * width h t) xs
  bodies_are : bodies (decode_slots h t m xs ys) ≡ take (b - o) ys

-- Slots that pass decode so.
read : (h t m o b : ℕ) (xs ys : List ℕ) → m * width h t ≤ length xs → b - o ≤ length ys → slots_ok h t m o b xs ≡ true → Read h t m o b xs ys
unfolding slots_ok decode_slots slots bodies Wide
read h t zero o b xs ys lx ly e =
    let z : b - o ≡ 0 = omega (arith, eqb-true o b e) in
    record { wide = tt; many = refl; slots_are = rw (zero-mul (width h t)); bodies_are = rw z }
read h t (suc m) o b xs ys lx ly e =
    let c : ℕ = get_or xs (h + 1) 0 in
    let w : ℕ = width h t in
    let p = (and-eq-true_iff (eqb (get_or xs h 0) o) (leb c (b - o) && slots_ok h t m (o + c) b (drop w xs))).0 e in
    let q = (and-eq-true_iff (leb c (b - o)) (slots_ok h t m (o + c) b (drop w xs))).0 p.1 in
    let start : get_or xs h 0 ≡ o = eqb-true (get_or xs h 0) o p.0 in
    let c_in : c ≤ b - o = leb-true c (b - o) q.0 in
    let sm : suc m * width h t ≡ m * width h t + width h t = suc-mul m (width h t) in
    let lx' : m * width h t ≤ length (drop w xs) = simp length-drop (omega arith) in
    let ly' : b - (o + c) ≤ length (drop c ys) = simp length-drop (omega arith) in
    let r = read h t m (o + c) b (drop w xs) (drop c ys) lx' ly' q.1 in
    let lc : length (take c ys) ≡ c = length-take-le c ys (omega arith) in
    let lt : length (take t (drop (h + span) xs)) ≡ t = length-take-le t (drop (h + span) xs) (simp length-drop (omega arith)) in
    let sum : suc m * width h t ≡ width h t + m * width h t = omega arith in
    let left : b - o ≡ c + (b - (o + c)) = omega arith in
    record {
      wide = ((length-take-le h xs (omega arith), lt), r.wide);
      many = ap suc r.many;
      slots_are = rw (lc, r.slots_are, sum, take-add (width h t) (m * width h t) xs, whole_slot xs h t (omega arith), start, append_assoc);
      bodies_are = rw (r.bodies_are, left, take-add c (b - (o + c)) ys);
    }

-- Words that pass the check are the table of the entries that they hold.
pub passes_sound : (h t : ℕ) (ws : List ℕ) → well_formed h t ws ≡ true → Sound h t ws
unfolding well_formed decode encode pad
passes_sound h t [] e = absurd (false≢true e)
passes_sound h t (n ∷ []) e = absurd (false≢true e)
passes_sound h t (n ∷ b ∷ xs) e =
    let N : ℕ = n * width h t in
    let ws : List ℕ = n ∷ (b ∷ xs) in
    let Y : List ℕ = drop N xs in
    let rest = all_zero (drop (counters + N + b) ws) in
    let ok = slots_ok h t n 0 b xs in
    let p₁ = (and-eq-true_iff (leb counters (length ws)) (leb (counters + N + b) (length ws) && (ok && rest))).0 e in
    let p₂ = (and-eq-true_iff (leb (counters + N + b) (length ws)) (ok && rest)).0 p₁.1 in
    let p₃ = (and-eq-true_iff ok rest).0 p₂.1 in
    let fit : counters + N + b ≤ length ws = leb-true (counters + N + b) (length ws) p₂.0 in
    let ly : length Y ≡ length xs - N = length-drop N xs in
    let r = read h t n 0 b xs Y (omega arith) (omega arith) p₃.0 in
    let D : List Entry = decode_slots h t n xs Y in
    let dec : decode h t ws ≡ D = ap (decode_slots h t n xs) (drop-append-add (n ∷ (b ∷ [])) xs N) in
    let bod : bodies D ≡ take b Y = r.bodies_are ∙ ap (λ (k : ℕ). take k Y) (sub-zero b) in
    let lt : length (take b Y) ≡ b = length-take-le b Y (omega arith) in
    let lb : length (bodies D) ≡ b = ap length bod ∙ lt in
    let front : List ℕ = take N xs ++ take b Y in
    let lf : length front ≡ N + b = length-append (take N xs) (take b Y) ∙ rw (lt, length-take-le N xs (omega arith)) in
    let left : ℕ = length ws - length (n ∷ (b ∷ front)) in
    let enc : encode (length ws) D ≡ pad (length ws) (n ∷ (b ∷ front)) =
    λ i. pad (length ws) (r.many i ∷ (lb i ∷ (r.slots_are i ++ bod i))) in
    let back : drop (counters + N + b) ws ≡ drop b Y =
    ap (λ (k : ℕ). drop k ws) (add_assoc counters N b) ∙ drop-append-add (n ∷ (b ∷ [])) xs (N + b) ∙ sym (drop-drop b N xs) in
    let many : length (drop b Y) ≡ left = length-drop b Y ∙ omega arith in
    let zeros : drop b Y ≡ replicate left 0 =
    all-zero (drop b Y) (subst (λ (l : List ℕ). all_zero l ≡ true) back p₃.1) ∙ ap (λ (m : ℕ). replicate {A = ℕ} m 0) many in
    let whole : xs ≡ front ++ replicate left 0 =
    sym (take-append-drop N xs)
    ∙ ap (λ (l : List ℕ). take N xs ++ l) (sym (take-append-drop b Y) ∙ ap (λ (l : List ℕ). take b Y ++ l) zeros)
    ∙ sym (append_assoc (take N xs) (take b Y) (replicate left 0)) in
    record {
      wide = subst (Wide h t) (sym dec) r.wide;
      same = ap (λ (l : List ℕ). n ∷ (b ∷ l)) whole ∙ sym enc ∙ ap (encode (length ws)) (sym dec);
      fits = rw (dec, r.many, lb) fit;
    }
