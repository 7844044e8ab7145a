-- A store into a head word of an entry: the table of the entries with that word set. Assumes nothing.
use mathlib.Core.Path.{◌≡◌, sym, ap, ◌∙◌, subst}
use mathlib.Core.List.{List, ◌∷◌, ◌++◌}
use Prim.Native.Nat.{ℕ, suc, ◌+◌, ◌-◌, ◌*◌, ◌≤◌, ◌<◌}
use native.Mathlib.Omega.{arith}
use lib.ListN.{length, take, drop, set, replicate, length-append, length-set}
use lib.Seq.{set-append_left, set_split}
use Rattle.runs.proofs.Laws.{set_append_add}
use Rattle.table.specs.Table.{counters, Entry, width, slots, bodies, pad, encode, Wide, decode, Sound}
use Rattle.table.proofs.Tables.{bodies_append, length_slots, wide_append, encode_split}
use Rattle.table.proofs.Sounds.{nth, cut, wide_before, wide_at, laid, before}
use Rattle.table.proofs.After.{holds}

-- The entry with another head.
abbrev pub with_head : Entry → List ℕ → Entry
with_head e l = record { head = l; body = e.body; tail = e.tail }

-- ---- a store into words

-- A store into p, where it stands between a and others.
pub set_between : (a p c y : List ℕ) (n j x : ℕ) → length a ≡ n → j < length p
    → set (a ++ ((p ++ c) ++ y)) (n + j) x ≡ a ++ ((set p j x ++ c) ++ y)
set_between a p c y n j x la lj =
    let l : j < length (p ++ c) = omega (arith, length-append p c) in
    ap (λ (k : ℕ). set (a ++ ((p ++ c) ++ y)) (k + j) x) (sym la)
    ∙ set_append_add a ((p ++ c) ++ y) j x
    ∙ ap (λ (r : List ℕ). a ++ r) (set-append_left (p ++ c) y j x l ∙ ap (λ (r : List ℕ). r ++ y) (set-append_left p c j x lj))

-- A store before the zeros leaves them.
pub set_pad : (size : ℕ) (l : List ℕ) (i x : ℕ) → i < length l → set (pad size l) i x ≡ pad size (set l i x)
unfolding pad
set_pad size l i x h =
    set-append_left l (replicate (size - length l) 0) i x h
    ∙ ap (λ (m : ℕ). set l i x ++ replicate {A = ℕ} (size - m) 0) (sym (length-set l i x))

-- ---- an entry with another head, among others

module _ (es fs : List Entry) (e : Entry) (l : List ℕ) where
  -- There are as many entries.
  pub length_with : length (es ++ (with_head e l ∷ fs)) ≡ length (es ++ (e ∷ fs))
  length_with = length-append es (with_head e l ∷ fs) ∙ sym (length-append es (e ∷ fs))

  -- The bodies are the same.
  pub bodies_with : bodies (es ++ (with_head e l ∷ fs)) ≡ bodies (es ++ (e ∷ fs))
  unfolding bodies
  bodies_with = bodies_append es (with_head e l ∷ fs) ∙ sym (bodies_append es (e ∷ fs))

-- A store into word j of the head of entry e.
pub encode_set : (size h t : ℕ) (es fs : List Entry) (e : Entry) → Wide h t es → length e.head ≡ h → (j : ℕ) → j < h → (x : ℕ)
    → set (encode size (es ++ (e ∷ fs))) (counters + length es * width h t + j) x ≡ encode size (es ++ (with_head e (set e.head j x) ∷ fs))
unfolding slots bodies
encode_set size h t es fs e w le j lj x =
    let e' : Entry = with_head e (set e.head j x) in
    let o : ℕ = length (bodies es) in
    let k : ℕ = length e.body in
    let n : ℕ = length (es ++ (e ∷ fs)) in
    let b : ℕ = length (bodies (es ++ (e ∷ fs))) in
    let a : List ℕ = n ∷ (b ∷ slots 0 es) in
    let c : List ℕ = o ∷ (k ∷ (e.tail ++ slots (o + k) fs)) in
    let y : List ℕ = bodies es ++ (e.body ++ bodies fs) in
    let N : ℕ = counters + length es * width h t in
    let la : length a ≡ N = omega (arith, length_slots h t 0 es w) in
    let ll : length (a ++ ((e.head ++ c) ++ y)) ≡ length a + (length e.head + length c + length y) =
    length-append a ((e.head ++ c) ++ y)
    ∙ ap (λ (m : ℕ). length a + m) (length-append (e.head ++ c) y ∙ ap (λ (m : ℕ). m + length y) (length-append e.head c)) in
    let same_n = sym (length_with es fs e e'.head) in
    let same_b = sym (bodies_with es fs e e'.head) in
    ap (λ (r : List ℕ). set r (N + j) x) (encode_split size es (e ∷ fs))
    ∙ set_pad size (a ++ ((e.head ++ c) ++ y)) (N + j) x (omega arith)
    ∙ ap (pad size) (set_between a e.head c y N j x la (omega arith))
    ∙ (λ i. pad size (same_n i ∷ (length (same_b i) ∷ (slots 0 es ++ ((e'.head ++ c) ++ y)))))
    ∙ sym (encode_split size es (e' ∷ fs))

-- ---- sound words

module _ (h t : ℕ) (ws : List ℕ) (s : Sound h t ws) (i : ℕ) (l : i < length (decode h t ws)) (j : ℕ) (lj : j < h) (x : ℕ) where
  -- The entry at i, with word j of its head set.
  abbrev changed : Entry
  changed = with_head (nth i (decode h t ws)) (set (nth i (decode h t ws)).head j x)

  -- The entries with that one, cut before and behind it.
  changed_cut : set (decode h t ws) i changed ≡ take i (decode h t ws) ++ (changed ∷ drop (suc i) (decode h t ws))
  changed_cut = set_split (decode h t ws) i changed l

  -- Words with word j of the head of the entry at i set are the table of the entries with it set.
  pub set_head : set ws (counters + i * width h t + j) x
      ≡ encode (length ws) (set (decode h t ws) i (with_head (nth i (decode h t ws)) (set (nth i (decode h t ws)).head j x)))
  set_head =
      let D : List Entry = decode h t ws in
      (λ q. set (laid h t ws s i l q) (counters + sym (before h t ws s i l) q * width h t + j) x)
      ∙ encode_set (length ws) h t (take i D) (drop (suc i) D) (nth i D) (wide_before h t ws s i l) (wide_at h t ws s i l).0.0 j lj x
      ∙ ap (encode (length ws)) (sym changed_cut)

  -- Heads and tails still have the right lengths.
  changed_wide : Wide h t (set (decode h t ws) i changed)
  unfolding Wide
  changed_wide =
      let D : List Entry = decode h t ws in
      let v = wide_at h t ws s i l in
      let head : length changed.head ≡ h = length-set (nth i D).head j x ∙ v.0.0 in
      subst (Wide h t) (sym changed_cut)
      (wide_append h t (take i D) (changed ∷ drop (suc i) D) (wide_before h t ws s i l) ((head, v.0.1), v.1))

  -- The bodies are the same.
  changed_bodies : bodies (set (decode h t ws) i changed) ≡ bodies (decode h t ws)
  changed_bodies =
      let D : List Entry = decode h t ws in
      ap bodies changed_cut ∙ bodies_with (take i D) (drop (suc i) D) (nth i D) changed.head ∙ ap bodies (sym (cut i D l))

  -- Such words are sound and hold the entries with it set.
  pub set_head_sound : Sound h t (set ws (counters + i * width h t + j) x)
      × (decode h t (set ws (counters + i * width h t + j) x)
      ≡ set (decode h t ws) i (with_head (nth i (decode h t ws)) (set (nth i (decode h t ws)).head j x)))
  set_head_sound =
      let D : List Entry = decode h t ws in
      let fits : counters + length (set D i changed) * width h t + length (bodies (set D i changed)) ≤ length ws =
      rw (length-set D i changed, changed_bodies) s.fits in
      subst (λ (r : List ℕ). Sound h t r × (decode h t r ≡ set D i changed)) (sym set_head)
      (holds h t (length ws) (set D i changed) changed_wide fits)
