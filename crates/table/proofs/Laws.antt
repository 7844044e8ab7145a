-- One turn of the loop of `restart`, and the stores of `put_slot`, as laws of lists. Assumes nothing.
use mathlib.Core.Path.{◌≡◌, refl, sym, ap, ◌∙◌}
use mathlib.Core.List.{List, [], ◌∷◌, ◌++◌, append_assoc}
use Prim.Native.Nat.{ℕ, zero, suc, ◌+◌, ◌-◌, ◌*◌, ◌≤◌, ◌<◌}
use native.Mathlib.Omega.{arith}
use native.Mathlib.Nat.{add_assoc, suc-mul, not-suc-le-zero}
use native.Mathlib.Numerals.{add-one}
use lib.ListN.{length, take, drop, set, get_or, length-append, length-drop, take-append-drop}
use lib.Seq.{take-set-le, drop-set-lt, drop-set-add, drop-cons, get_or-drop, length-take-le, drop-drop, take-add, set_split, take-append-add}
use Rattle.runs.specs.Words.{opened, pasted, spliced}
use Rattle.runs.proofs.Laws.{paste_paste, store_paste, splice_done, opened_long}
use Rattle.table.specs.Table.{span, width}
use Rattle.table.specs.Helpers.{restarted, counts}

-- One slot fewer.
pub peel : (m w : ℕ) → 0 < m → m * w ≡ (m - 1) * w + w
peel m w h =
    let e : m ≡ suc (m - 1) = omega arith in
    ap (λ (k : ℕ). k * w) e ∙ suc-mul (m - 1) w

-- A slot up to its count, with o for its start.
slot_front : (xs : List ℕ) (h o : ℕ) → h + span ≤ length xs → take (h + span) (set xs h o) ≡ take h xs ++ (o ∷ (get_or xs (h + 1) 0 ∷ []))
slot_front xs h o l =
    let a : h < length xs = omega arith in
    let b : suc h < length xs = omega arith in
    let n : length (take h xs) ≡ h = length-take-le h xs (omega arith) in
    ap (take (h + span)) (set_split xs h o a)
    ∙ ap (λ (k : ℕ). take (k + span) (take h xs ++ (o ∷ drop (suc h) xs))) (sym n)
    ∙ take-append-add (take h xs) (o ∷ drop (suc h) xs) span
    ∙ rw (add-one, drop-cons xs (suc h) 0)

-- A slot, with o for its start.
pub slot_set : (xs : List ℕ) (h t o : ℕ) → width h t ≤ length xs
    → take (width h t) (set xs h o) ≡ take h xs ++ (o ∷ (get_or xs (h + 1) 0 ∷ take t (drop (h + span) xs)))
slot_set xs h t o l =
    let r : List ℕ = take t (drop (h + span) xs) in
    take-add (h + span) t (set xs h o)
    ∙ (λ i. slot_front xs h o (omega arith) i ++ take t (drop-set-lt (h + span) xs h o (omega arith) i))
    ∙ append_assoc (take h xs) (o ∷ (get_or xs (h + 1) 0 ∷ [])) r

-- The first slot's start counted anew, then those of the others.
restarted_peel : (h t m o : ℕ) (xs : List ℕ) → 0 < m
    → restarted h t m o xs
    ≡ take h xs ++ (o ∷ (get_or xs (h + 1) 0 ∷ (take t (drop (h + span) xs) ++ restarted h t (m - 1) (o + get_or xs (h + 1) 0) (drop (width h t) xs))))
unfolding restarted
restarted_peel h t zero o xs l = absurd (not-suc-le-zero l)
restarted_peel h t (suc m) o xs l =
    let e : suc m - 1 ≡ m = omega arith in
    rw e

-- The first slot's count, then those of the others.
pub counts_peel : (h t m : ℕ) (xs : List ℕ) → 0 < m → counts h t m xs ≡ get_or xs (h + 1) 0 + counts h t (m - 1) (drop (width h t) xs)
unfolding counts
counts_peel h t zero xs l = absurd (not-suc-le-zero l)
counts_peel h t (suc m) xs l =
    let e : suc m - 1 ≡ m = omega arith in
    rw e

-- A slot's count, read in the slot and in all the words.
pub count_index : (s : List ℕ) (p h : ℕ) → get_or (drop p s) (h + 1) 0 ≡ get_or s (p + h + 1) 0
count_index s p h = get_or-drop p s (h + 1) 0 ∙ ap (λ (k : ℕ). get_or s k 0) (sym (add_assoc p h 1))

-- What precedes a slot, the slot and what follows it, without the brackets.
regroup : (a b : List ℕ) (o c : ℕ) (d r : List ℕ) → (a ++ (b ++ (o ∷ (c ∷ d)))) ++ r ≡ a ++ (b ++ (o ∷ (c ∷ (d ++ r))))
regroup a b o c d r = simp append_assoc

-- One slot's start is written: the rest is left to do.
pub restart_step : (s : List ℕ) (h t p m o : ℕ) → 0 < m → p + width h t ≤ length s
    → take (p + width h t) (set s (p + h) o) ++ restarted h t (m - 1) (o + get_or s (p + h + 1) 0) (drop (p + width h t) (set s (p + h) o))
    ≡ take p s ++ restarted h t m o (drop p s)
restart_step s h t p m o l fits =
    let xs : List ℕ = drop p s in
    let long : width h t ≤ length xs = simp length-drop (omega arith) in
    let c = count_index s p h in
    let back : drop (p + width h t) (set s (p + h) o) ≡ drop (width h t) xs =
    drop-set-lt (p + width h t) s (p + h) o (omega arith) ∙ sym (drop-drop (width h t) p s) in
    let front : take (p + width h t) (set s (p + h) o) ≡ take p s ++ (take h xs ++ (o ∷ (get_or xs (h + 1) 0 ∷ take t (drop (h + span) xs)))) =
    take-add p (width h t) (set s (p + h) o)
    ∙ (λ i. take-set-le p s (p + h) o (omega arith) i ++ take (width h t) (drop-set-add p s h o i))
    ∙ ap (λ (l : List ℕ). take p s ++ l) (slot_set xs h t o long) in
    let rest : List ℕ = restarted h t (m - 1) (o + get_or xs (h + 1) 0) (drop (width h t) xs) in
    (λ i. front i ++ restarted h t (m - 1) (o + sym c i) (back i))
    ∙ regroup (take p s) (take h xs) o (get_or xs (h + 1) 0) (take t (drop (h + span) xs)) rest
    ∙ ap (λ (l : List ℕ). take p s ++ l) (sym (restarted_peel h t m o xs l))

-- The counts of the slots that are left, before and after one slot's start is written.
pub counts_step : (s : List ℕ) (h t p m o : ℕ) → 0 < m
    → counts h t m (drop p s) ≡ get_or s (p + h + 1) 0 + counts h t (m - 1) (drop (p + width h t) (set s (p + h) o))
counts_step s h t p m o l =
    let back : drop (width h t) (drop p s) ≡ drop (p + width h t) (set s (p + h) o) =
    drop-drop (width h t) p s ∙ sym (drop-set-lt (p + width h t) s (p + h) o (omega arith)) in
    counts_peel h t m (drop p s) l ∙ (λ i. count_index s p h i + counts h t (m - 1) (back i))

-- Where no slot is left, nothing changes.
pub restart_done : (s : List ℕ) (h t p m o : ℕ) → m ≤ 0 → take p s ++ restarted h t m o (drop p s) ≡ s
unfolding restarted
restart_done s h t p zero o l = take-append-drop p s
restart_done s h t p (suc m) o l = absurd (not-suc-le-zero l)

-- A gap that is opened and then written over with p, a, k and q.
pub put_slot_done : (s p q : List ℕ) (at used a k : ℕ) → at + (length p + span + length q) ≤ length s
    → pasted (set (set (pasted (opened s at (length p + span + length q) used) at p) (at + length p) a) (at + length p + 1) k) (at + length p + span) q
    ≡ spliced s at used (p ++ (a ∷ (k ∷ q)))
put_slot_done s p q at used a k room =
    let w : ℕ = length p + span + length q in
    let l : List ℕ = opened s at w used in
    let long : at + w ≤ length l = opened_long s at w used room in
    let p₁ : List ℕ = p ++ (a ∷ []) in
    let p₂ : List ℕ = p₁ ++ (k ∷ []) in
    let all : List ℕ = p ++ (a ∷ (k ∷ q)) in
    let e₁ : at + length p₁ ≡ at + length p + 1 = omega (arith, length-append p (a ∷ [])) in
    let e₂ : at + length p₂ ≡ at + length p + span = omega (arith, length-append p₁ (k ∷ []), length-append p (a ∷ [])) in
    let flat : p₂ ++ q ≡ all = append_assoc p₁ (k ∷ []) q ∙ append_assoc p (a ∷ []) (k ∷ q) in
    let n : w ≡ length all = omega (arith, length-append p (a ∷ (k ∷ q))) in
    ap (λ (x : List ℕ). pasted (set x (at + length p + 1) k) (at + length p + span) q) (store_paste l p at (at + length p) a refl (omega arith))
    ∙ ap (λ (x : List ℕ). pasted x (at + length p + span) q) (store_paste l p₁ at (at + length p + 1) k e₁ (omega arith))
    ∙ paste_paste l p₂ q at (at + length p + span) e₂ (omega arith)
    ∙ (λ i. pasted (opened s at (n i) used) at (flat i))
    ∙ splice_done s all at used (omega (arith, n))
