-- A table is sound after an insertion and after a removal, and holds what was to be made of it. Assumes nothing.
use mathlib.Core.Path.{◌≡◌, sym, ap, ◌∙◌, subst}
use mathlib.Core.List.{List, [], ◌∷◌, ◌++◌}
use Prim.Native.Nat.{ℕ, suc, ◌+◌, ◌*◌, ◌≤◌, ◌<◌}
use native.Mathlib.Omega.{arith}
use native.Mathlib.Nat.{suc-mul}
use lib.ListN.{length, take, drop, get_or, length-append, take-append-drop}
use lib.Seq.{split_at}
use Rattle.table.specs.Table.{counters, Entry, width, bodies, encode, Wide, decode, Sound, insert_at, remove_at}
use Rattle.table.specs.Helpers.{Insertable, Removable}
use Rattle.table.proofs.Tables.{bodies_append, wide_append, wide_left, wide_right}
use Rattle.table.proofs.Exact.{decode_encode, encode_sound}

-- The table of entries that fit is sound and holds them.
pub holds : (h t size : ℕ) (es : List Entry) → Wide h t es → counters + length es * width h t + length (bodies es) ≤ size
    → Sound h t (encode size es) × (decode h t (encode size es) ≡ es)
holds h t size es w fits = (encode_sound h t size es w fits, decode_encode h t size es w fits)

-- ---- lists with an entry in between, and without it

-- An entry in between counts for one.
length_between : (es fs : List Entry) (x : Entry) → length (es ++ (x ∷ fs)) ≡ length (es ++ fs) + 1
length_between es fs x = omega (arith, length-append es (x ∷ fs), length-append es fs)

-- Its body is that much more body words.
bodies_between : (es fs : List Entry) (x : Entry) → length (bodies (es ++ (x ∷ fs))) ≡ length (bodies (es ++ fs)) + length x.body
unfolding bodies
bodies_between es fs x = rw (bodies_append es (x ∷ fs), bodies_append es fs) (simp length-append (omega arith))

-- A list has an entry in between where there is one at i.
cut_at : (i : ℕ) (es : List Entry) → i < length es → (x : Entry) × (es ≡ take i es ++ (x ∷ drop (suc i) es))
cut_at i es l =
    let x : Entry = get_or es i (record { head = []; body = []; tail = [] }) in
    (x, split_at es i (record { head = []; body = []; tail = [] }) l)

-- ---- an insertion

module _ (h t i : ℕ) (x : Entry) (es : List Entry) where
  -- Heads and tails still have the right lengths.
  pub insert_wide : Wide h t es → (length x.head ≡ h) × (length x.tail ≡ t) → Wide h t (insert_at i x es)
  unfolding insert_at Wide
  insert_wide w wx =
      let v : Wide h t (take i es ++ drop i es) = subst (Wide h t) (sym (take-append-drop i es)) w in
      wide_append h t (take i es) (x ∷ drop i es) (wide_left h t (take i es) (drop i es) v) (wx, wide_right h t (take i es) (drop i es) v)

  -- It fits where there is room for one more slot and body.
  pub insert_fits : (size : ℕ) → counters + (length es + 1) * width h t + length (bodies es) + length x.body ≤ size
      → counters + length (insert_at i x es) * width h t + length (bodies (insert_at i x es)) ≤ size
  unfolding insert_at
  insert_fits size room =
      let back : take i es ++ drop i es ≡ es = take-append-drop i es in
      let n : length (take i es ++ (x ∷ drop i es)) ≡ length es + 1 =
      length_between (take i es) (drop i es) x ∙ ap (λ (l : List Entry). length l + 1) back in
      let b : length (bodies (take i es ++ (x ∷ drop i es))) ≡ length (bodies es) + length x.body =
      bodies_between (take i es) (drop i es) x ∙ ap (λ (l : List Entry). length (bodies l) + length x.body) back in
      rw (n, b) (omega arith)

  -- The table of the entries with x at i is sound and holds them.
  pub insert_holds : (size : ℕ) → Wide h t es → (length x.head ≡ h) × (length x.tail ≡ t)
      → counters + (length es + 1) * width h t + length (bodies es) + length x.body ≤ size
      → Sound h t (encode size (insert_at i x es)) × (decode h t (encode size (insert_at i x es)) ≡ insert_at i x es)
  insert_holds size w wx room = holds h t size (insert_at i x es) (insert_wide w wx) (insert_fits size room)

-- ---- a removal

module _ (h t i : ℕ) (es : List Entry) (l : i < length es) where
  -- Heads and tails still have the right lengths.
  pub remove_wide : Wide h t es → Wide h t (remove_at i es)
  unfolding remove_at Wide
  remove_wide w =
      let c = cut_at i es l in
      let v : Wide h t (take i es ++ (c.0 ∷ drop (suc i) es)) = subst (Wide h t) c.1 w in
      wide_append h t (take i es) (drop (suc i) es)
      (wide_left h t (take i es) (c.0 ∷ drop (suc i) es) v)
      (wide_right h t (take i es) (c.0 ∷ drop (suc i) es) v).1

  -- It fits where the list fitted.
  pub remove_fits : (size : ℕ) → counters + length es * width h t + length (bodies es) ≤ size
      → counters + length (remove_at i es) * width h t + length (bodies (remove_at i es)) ≤ size
  unfolding remove_at
  remove_fits size fits =
      let c = cut_at i es l in
      let rest : List Entry = take i es ++ drop (suc i) es in
      let n : length es ≡ suc (length rest) = ap length c.1 ∙ length_between (take i es) (drop (suc i) es) c.0 ∙ omega arith in
      let b : length (bodies es) ≡ length (bodies rest) + length c.0.body =
      ap (λ (d : List Entry). length (bodies d)) c.1 ∙ bodies_between (take i es) (drop (suc i) es) c.0 in
      let m : length es * width h t ≡ length rest * width h t + width h t = ap (λ (k : ℕ). k * width h t) n ∙ suc-mul (length rest) (width h t) in
      omega arith

  -- The table of the entries without that at i is sound and holds them.
  pub remove_holds : (size : ℕ) → Wide h t es → counters + length es * width h t + length (bodies es) ≤ size
      → Sound h t (encode size (remove_at i es)) × (decode h t (encode size (remove_at i es)) ≡ remove_at i es)
  remove_holds size w fits = holds h t size (remove_at i es) (remove_wide w) (remove_fits size fits)

-- ---- what the calls leave

-- Words after an insertion are sound and hold the entries with x at i.
pub inserted : (h t : ℕ) (ws : List ℕ) (i : ℕ) (x : Entry) (ws' : List ℕ) → Insertable h t ws i x
    → ws' ≡ encode (length ws) (insert_at i x (decode h t ws))
    → Sound h t ws' × (decode h t ws' ≡ insert_at i x (decode h t ws))
inserted h t ws i x ws' p e =
    subst (λ (s : List ℕ). Sound h t s × (decode h t s ≡ insert_at i x (decode h t ws))) (sym e)
    (insert_holds h t i x (decode h t ws) (length ws) p.sound.wide (p.head, p.tail) p.room)

-- Words after a removal are sound and hold the entries without that at i.
pub removed : (h t : ℕ) (ws : List ℕ) (i : ℕ) (ws' : List ℕ) → Removable h t ws i
    → ws' ≡ encode (length ws) (remove_at i (decode h t ws))
    → Sound h t ws' × (decode h t ws' ≡ remove_at i (decode h t ws))
removed h t ws i ws' p e =
    subst (λ (s : List ℕ). Sound h t s × (decode h t s ≡ remove_at i (decode h t ws))) (sym e)
    (remove_holds h t i (decode h t ws) p.within (length ws) p.sound.wide p.sound.fits)
