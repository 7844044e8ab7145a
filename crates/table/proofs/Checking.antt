-- One turn of each loop of the run-time check, and the check as a whole. Assumes nothing.
use mathlib.Core.Path.{◌≡◌, refl}
use mathlib.Core.List.{List, ◌++◌}
use mathlib.Core.Bool.{Bool, true, false, ◌&&◌}
use Prim.Native.Nat.{ℕ, zero, suc, ◌+◌, ◌-◌, ◌*◌, ◌/◌, ◌≤◌, ◌<◌}
use native.Mathlib.Omega.{arith}
use native.Mathlib.Nat.{add-div_left, div-eq_of_lt, mul-div_cancel}
use native.Mathlib.Numerals.{add-one}
use lib.Dec.{eqb, leb}
use lib.ListN.{length, take, drop, get_or, length-append, length-drop, drop_of_length-le, get_or-append}
use lib.Seq.{drop-cons, drop_at, get_or-take, length-take-le}
use Rattle.std.proofs.lemmas.List.{drop-take, take_rest}
use borrow.Author.Tests.{eq-eqb, ne_eqb, le-leb, lt-leb}
use Rattle.table.specs.Table.{counters, width, slots_ok, all_zero, well_formed}

-- ---- the slots

-- Words s that begin with a slot, slot.
module _ (s slot rest : List ℕ) (h t o b : ℕ) (e : s ≡ slot ++ rest) (long : length slot ≡ width h t) where
  -- The check of all the slots in s is that of the first, and that of the others from where its body ends.
  ok_peel : slots_ok h t (length s / width h t) o b s
      ≡ (eqb (get_or slot h 0) o
      && (leb (get_or slot (h + 1) 0) (b - o) && slots_ok h t (length rest / width h t) (o + get_or slot (h + 1) 0) b rest))
  unfolding slots_ok
  ok_peel =
      let some : 0 < width h t = omega arith in
      let one_more : length (slot ++ rest) / width h t ≡ suc (length rest / width h t) =
      rw (length-append slot rest, long, add-div_left (length rest) some, add-one) refl in
      rw (
        e,
        one_more,
        get_or-append slot rest 0 h (omega (arith, long)),
        get_or-append slot rest 0 (h + 1) (omega (arith, long)),
        drop_at slot rest (width h t) long,
      )

  -- A wrong start fails.
  pub ok_start : (get_or slot h 0 ≡ o → ⊥) → false ≡ slots_ok h t (length s / width h t) o b s
  ok_start x = rw (ok_peel, ne_eqb (get_or slot h 0) o x)

  -- A count beyond the body words that are left fails.
  pub ok_count : get_or slot h 0 ≡ o → b - o < get_or slot (h + 1) 0 → false ≡ slots_ok h t (length s / width h t) o b s
  ok_count x y = rw (ok_peel, eq-eqb (get_or slot h 0) o x, lt-leb (get_or slot (h + 1) 0) (b - o) y)

  -- A right slot leaves the others to check.
  pub ok_step : get_or slot h 0 ≡ o → get_or slot (h + 1) 0 ≤ b - o
      → slots_ok h t (length rest / width h t) (o + get_or slot (h + 1) 0) b rest ≡ slots_ok h t (length s / width h t) o b s
  ok_step x y = rw (ok_peel, eq-eqb (get_or slot h 0) o x, le-leb (get_or slot (h + 1) 0) (b - o) y)

-- With no slot left, the counts must have come to b.
pub ok_done : (s : List ℕ) (h t o b : ℕ) → length s < width h t → eqb o b ≡ slots_ok h t (length s / width h t) o b s
unfolding slots_ok
ok_done s h t o b l = rw (div-eq_of_lt l)

-- Words behind the slots are not looked at.
pub ok_front : (s : List ℕ) (h t m o b : ℕ) → m * width h t ≤ length s → slots_ok h t m o b (take (m * width h t) s) ≡ slots_ok h t m o b s
unfolding slots_ok
ok_front s h t zero o b l = refl
ok_front s h t (suc m) o b l =
    let w : ℕ = width h t in
    let all : suc m * w ≡ w + m * w = omega arith in
    rw (
      all,
      get_or-take (w + m * w) s h 0 (omega arith),
      get_or-take (w + m * w) s (h + 1) 0 (omega arith),
      drop-take w (m * w) s,
      ok_front (drop w s) h t m (o + get_or s (h + 1) 0) b (omega (arith, length-drop w s)),
    )

-- ---- the zeros

-- The check from i on is that of word i, and that of the words behind it.
pub zero_peel : (s : List ℕ) (i : ℕ) → i < length s → all_zero (drop i s) ≡ (eqb (get_or s i 0) 0 && all_zero (drop (i + 1) s))
unfolding all_zero
zero_peel s i l = rw (add-one, drop-cons s i 0)

-- With no word left it passes.
pub zero_none : (s : List ℕ) (i : ℕ) → length s ≤ i → all_zero (drop i s) ≡ true
unfolding all_zero
zero_none s i l = rw (drop_of_length-le s l)

-- ---- the whole check

module _ (h t : ℕ) (ws : List ℕ) where
  -- Fewer than two words fail.
  pub wf_short : length ws < counters → false ≡ well_formed h t ws
  unfolding well_formed
  wf_short l = rw (lt-leb counters (length ws) l)

  module _ (n b : ℕ) (e : n ≡ get_or ws 0 0) (f : b ≡ get_or ws 1 0) (l : counters ≤ length ws) where
    -- Slots and bodies that do not fit fail.
    pub wf_long : length ws < counters + n * width h t + b → false ≡ well_formed h t ws
    unfolding well_formed
    wf_long k = rw (le-leb counters (length ws) l, ← e, ← f, lt-leb (counters + n * width h t + b) (length ws) k)

    -- Where they fit, the check is that of the slots and that of the zeros.
    pub wf_all : counters + n * width h t + b ≤ length ws
        → (slots_ok h t n 0 (get_or ws 1 0) (drop counters ws) && all_zero (drop (counters + n * width h t + b) ws)) ≡ well_formed h t ws
    unfolding well_formed
    wf_all k = rw (le-leb counters (length ws) l, ← e, ← f, le-leb (counters + n * width h t + b) (length ws) k)

    -- The same by the index at which the bodies start, and by the parts of the words that are looked at.
    module _ (start : ℕ) (g : start ≡ counters + n * width h t) where
      pub wf_outside : length ws < start + b → false ≡ well_formed h t ws
      wf_outside k = wf_long (omega arith)

      pub wf_parts : start + b ≤ length ws → {ok zeros : Bool}
          → (let slots = take (start - counters) (drop counters ws) in ok ≡ slots_ok h t (length slots / width h t) 0 (get_or ws 1 0) slots)
          → zeros ≡ all_zero (take (length ws - (start + b)) (drop (start + b) ws)) → (ok && zeros) ≡ well_formed h t ws
      wf_parts k x y =
          let w : ℕ = width h t in
          let room : n * w ≤ length (drop counters ws) = omega (arith, length-drop counters ws) in
          let size : start - counters ≡ n * w = omega arith in
          let some : 0 < w = omega arith in
          rw (
            x,
            y,
            size,
            length-take-le (n * w) (drop counters ws) room,
            mul-div_cancel n some,
            ok_front (drop counters ws) h t n 0 (get_or ws 1 0) room,
            take_rest ws (start + b),
            g,
            wf_all (omega arith),
          )
