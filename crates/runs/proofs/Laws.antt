-- What is left after a run of words was moved or written, as laws of lists. Assumes nothing.
use mathlib.Core.Path.{◌≡◌, sym, ap, ◌∙◌}
use mathlib.Core.List.{List, [], ◌∷◌, ◌++◌, append_assoc}
use Prim.Native.Nat.{ℕ, ◌+◌, ◌-◌, ◌≤◌, ◌<◌}
use native.Mathlib.Omega.{arith}
use native.Mathlib.Nat.{suc-add, add-zero, zero-add}
use native.Mathlib.Numerals.{add-one}
use lib.ListN.{length, take, drop, set, length-set, length-append, length-drop, take-append-drop}
use lib.Seq.{length-take-le}
use lib.Seq.{drop-drop, take_at, drop_at, drop-append-add, set_split, take-take, take-append-le, set-append_left}
use Rattle.std.specs.List.{copy_within}
use Rattle.std.proofs.Common.{rules}
use Rattle.std.proofs.lemmas.Slice.{between_is}
use Rattle.runs.specs.Words.{opened, closed, zeroed, pasted, spliced}

-- A copy of all of src is src pasted.
pub paste_done : (s src : List ℕ) (at j : ℕ) → j ≡ length src → lib.Seq.paste s at src j ≡ pasted s at src
unfolding pasted
paste_done s src at j e = rw (e, lib.Seq.take-length, append_assoc)

-- A gap that is opened and then written over.
pub splice_done : (s src : List ℕ) (at used : ℕ) → at + length src ≤ length s → pasted (opened s at (length src) used) at src ≡ spliced s at used src
unfolding pasted spliced opened
splice_done s src at used room =
    let k : ℕ = length src in
    let l : length (take (at + k) s) ≡ at + k = length-take-le (at + k) s room in
    let y : List ℕ = drop at (take used s) ++ drop (used + k) s in
    let e : take at (take (at + k) s ++ y) ≡ take at s = take-append-le at (take (at + k) s) y (omega arith) ∙ take-take at (at + k) s (omega arith) in
    (λ p. e p ++ (src ++ drop_at (take (at + k) s) y (at + k) l p))

-- A gap lies within the slice in which it was opened.
pub opened_long : (s : List ℕ) (at k used : ℕ) → at + k ≤ length s → at + k ≤ length (opened s at k used)
unfolding opened
opened_long s at k used room =
    let y : List ℕ = drop at (take used s) ++ drop (used + k) s in
    omega (arith, length-append (take (at + k) s) y, length-take-le (at + k) s room)

-- A run that is pasted behind a pasted run.
pub paste_paste : (s p q : List ℕ) (at n : ℕ) → at + length p ≡ n → at ≤ length s → pasted (pasted s at p) n q ≡ pasted s at (p ++ q)
unfolding pasted
paste_paste s p q at n e room =
    let r : List ℕ = take at s ++ p in
    let d : List ℕ = drop (at + length p) s in
    let lr : length r ≡ n = omega (arith, length-append (take at s) p, length-take-le at s room) in
    let whole : take at s ++ (p ++ d) ≡ r ++ d = sym (append_assoc (take at s) p d) in
    let low : take n (take at s ++ (p ++ d)) ≡ r = ap (take n) whole ∙ take_at r d n lr in
    let m : at + length p + length q ≡ at + length (p ++ q) = omega (arith, length-append p q) in
    let high : drop (n + length q) (take at s ++ (p ++ d)) ≡ drop (at + length (p ++ q)) s =
    (λ i. drop (sym lr i + length q) (whole i)) ∙ drop-append-add r d (length q) ∙ drop-drop (length q) (at + length p) s ∙ ap (λ (j : ℕ). drop j s) m in
    (λ i. low i ++ (q ++ high i)) ∙ append_assoc (take at s) p _ ∙ ap (λ (l : List ℕ). take at s ++ l) (sym (append_assoc p q _))

-- A store is a paste of one word.
store_one : (s : List ℕ) (n a : ℕ) → n < length s → set s n a ≡ pasted s n (a ∷ [])
unfolding pasted
store_one s n a room = set_split s n a room ∙ ap (λ (m : ℕ). take n s ++ (a ∷ drop m s)) (sym (add-one n))

-- A run within the slice leaves its length.
pub length_pasted : (s p : List ℕ) (at : ℕ) → at + length p ≤ length s → length (pasted s at p) ≡ length s
unfolding pasted
length_pasted s p at room =
    let d : List ℕ = drop (at + length p) s in
    omega (arith, length-append (take at s) (p ++ d), length-append p d, length-take-le at s (omega arith), length-drop (at + length p) s)

-- A word that is stored behind a pasted run.
pub store_paste : (s p : List ℕ) (at n a : ℕ) → at + length p ≡ n → n < length s → set (pasted s at p) n a ≡ pasted s at (p ++ (a ∷ []))
store_paste s p at n a e room =
    let l : length (pasted s at p) ≡ length s = length_pasted s p at (omega arith) in
    store_one (pasted s at p) n a (omega arith) ∙ paste_paste s p (a ∷ []) at n e (omega arith)

-- Where no word is left to write, nothing changes.
pub paste_none : (s : List ℕ) (at : ℕ) → pasted s at [] ≡ s
unfolding pasted
paste_none s at = ap (λ (j : ℕ). take at s ++ drop j s) (add-zero at) ∙ take-append-drop at s

-- What stands before a pasted run.
pub take_pasted : (s p : List ℕ) (at n : ℕ) → n ≤ at → at ≤ length s → take n (pasted s at p) ≡ take n s
unfolding pasted
take_pasted s p at n low room =
    let y : List ℕ = p ++ drop (at + length p) s in
    take-append-le n (take at s) y (omega (arith, length-take-le at s room)) ∙ take-take n at s low

-- What stands behind a pasted run.
pub drop_pasted : (s p : List ℕ) (at n : ℕ) → at + length p ≤ n → at ≤ length s → drop n (pasted s at p) ≡ drop n s
unfolding pasted
drop_pasted s p at n high room =
    let d : List ℕ = drop (at + length p) s in
    let r : List ℕ = take at s ++ p in
    let j : ℕ = n - (at + length p) in
    let e : n ≡ length r + j = omega (arith, length-append (take at s) p, length-take-le at s room) in
    let f : at + length p + j ≡ n = omega arith in
    (λ i. drop (e i) (sym (append_assoc (take at s) p d) i)) ∙ drop-append-add r d j ∙ drop-drop j (at + length p) s ∙ ap (λ (k : ℕ). drop k s) f

-- A pasted run and what stands before it.
pub take_to_pasted : (s p : List ℕ) (at n : ℕ) → at + length p ≡ n → at ≤ length s → take n (pasted s at p) ≡ take at s ++ p
unfolding pasted
take_to_pasted s p at n e room =
    let d : List ℕ = drop (at + length p) s in
    ap (take n) (sym (append_assoc (take at s) p d))
    ∙ take_at (take at s ++ p) d n (omega (arith, length-append (take at s) p, length-take-le at s room))

-- A pasted run and what stands behind it.
pub drop_to_pasted : (s p : List ℕ) (at : ℕ) → at ≤ length s → drop at (pasted s at p) ≡ p ++ drop (at + length p) s
unfolding pasted
drop_to_pasted s p at room = drop_at (take at s) (p ++ drop (at + length p) s) at (length-take-le at s room)

-- A word that is stored behind x.
pub set_append_add : (x y : List ℕ) (j a : ℕ) → set (x ++ y) (length x + j) a ≡ x ++ set y j a
set_append_add [] y j a = ap (λ (k : ℕ). set y k a) (zero-add j)
set_append_add (b ∷ x) y j a =
    ap (λ (k : ℕ). set (b ∷ (x ++ y)) k a) (suc-add (length x) j) ∙ ap (λ (l : List ℕ). b ∷ l) (set_append_add x y j a)

-- A word that is stored within a pasted run.
pub set_pasted : (s p : List ℕ) (at j a : ℕ) → j < length p → at ≤ length s → set (pasted s at p) (at + j) a ≡ pasted s at (set p j a)
unfolding pasted
set_pasted s p at j a inside room =
    let d : List ℕ = drop (at + length p) s in
    let x : List ℕ = take at s in
    let lx : length x ≡ at = length-take-le at s room in
    let n : length p ≡ length (set p j a) = sym (length-set p j a) in
    ap (λ (m : ℕ). set (x ++ (p ++ d)) (m + j) a) (sym lx)
    ∙ set_append_add x (p ++ d) j a
    ∙ ap (λ (l : List ℕ). x ++ l) (set-append_left p d j a inside)
    ∙ ap (λ (m : ℕ). x ++ (set p j a ++ drop (at + m) s)) n

-- The words i..j of a slice.
inner : (s : List ℕ) (i j : ℕ) → take (j - i) (drop i s) ≡ drop i (take j s)
inner s i j = search (rules, between_is)

-- The words i..j, copied within the slice to index at.
copied : (s : List ℕ) (i j at : ℕ) → i ≤ j → j ≤ length s → copy_within s i j at ≡ pasted s at (drop i (take j s))
unfolding pasted
copied s i j at low room =
    let long : length (drop i (take j s)) ≡ j - i = omega (arith, length-drop i (take j s), length-take-le j s room) in
    rw (long, inner s i j, append_assoc)

-- The words that move up.
pub opened_by_copy : (s : List ℕ) (at k used : ℕ) → at ≤ used → copy_within s at used (at + k) ≡ opened s at k used
unfolding opened
opened_by_copy s at k used low =
    let end : at + k + (used - at) ≡ used + k = omega arith in
    rw (end, inner s at used, append_assoc)

-- The words that move down, and the zeros behind them.
pub closed_by_copy : (s : List ℕ) (at k used : ℕ) → at + k ≤ used → used ≤ length s
    → zeroed (copy_within s (at + k) used at) (used - k) used ≡ closed s at k used
unfolding zeroed closed
closed_by_copy s at k used low room =
    let p : List ℕ = drop (at + k) (take used s) in
    let long : length p ≡ used - (at + k) = omega (arith, length-drop (at + k) (take used s), length-take-le used s room) in
    let zeros : used - (used - k) ≡ k = omega arith in
    rw (
      copied s (at + k) used at low room,
      take_to_pasted s p at (used - k) (omega arith) (omega arith),
      drop_pasted s p at used (omega arith) (omega arith),
      zeros,
      append_assoc,
    )
