-- What a sound table tells of its words. Assumes nothing.
use mathlib.Core.Path.{◌≡◌, sym, ap, ◌∙◌, subst}
use mathlib.Core.List.{List, [], ◌∷◌, ◌++◌}
use Prim.Native.Nat.{ℕ, suc, ◌+◌, ◌-◌, ◌*◌, ◌≤◌, ◌<◌}
use native.Mathlib.Omega.{arith}
use native.Mathlib.Nat.{suc-mul, mul-le-mul_right, add-mul}
use lib.ListN.{length, take, drop, get_or, length-append, take-append-drop}
use lib.Seq.{split_at, length-take-le, take_all}
use Rattle.table.specs.Table.{counters, span, Entry, width, bodies, pad, encode, Wide, decode, Sound, start_of}
use Rattle.table.proofs.Tables.{wide_left, wide_right, start_at, count_at, head_at, tail_at, head_part, body_at, bodies_append}

-- A slot before others ends before they do.
pub less_mul : (i n w : ℕ) → i < n → i * w + w ≤ n * w
less_mul i n w l = subst (λ (m : ℕ). m ≤ n * w) (suc-mul i w) (mul-le-mul_right w l)

-- The slots before slot i and those from it on are all slots.
pub split_mul : (i n w : ℕ) → i ≤ n → i * w + (n - i) * w ≡ n * w
split_mul i n w l =
    let e : i + (n - i) ≡ n = omega arith in
    sym (add-mul i (n - i) w) ∙ ap (λ (m : ℕ). m * w) e

-- Nobody's entry: what stands behind the last.
abbrev pub blank : Entry
blank = record { head = []; body = []; tail = [] }

-- The entry at i.
abbrev pub nth : ℕ → List Entry → Entry
nth i es = get_or es i blank

-- Entries, cut before and behind the entry at i.
abbrev pub parts : ℕ → List Entry → List Entry
parts i es = take i es ++ (nth i es ∷ drop (suc i) es)

-- Entries are those before i, the one at i, and those behind it.
pub cut : (i : ℕ) (es : List Entry) → i < length es → es ≡ parts i es
cut i es l = split_at es i blank l

module _ (h t : ℕ) (ws : List ℕ) (s : Sound h t ws) where
  -- Both counters are there.
  pub long : counters ≤ length ws
  long = omega (arith, s.fits)

  -- Word 0 counts the entries.
  pub count_is : get_or ws 0 0 ≡ length (decode h t ws)
  unfolding encode pad
  count_is = ap (λ (l : List ℕ). get_or l 0 0) s.same

  -- Word 1 counts the body words.
  pub body_is : get_or ws 1 0 ≡ length (bodies (decode h t ws))
  unfolding encode pad
  body_is = ap (λ (l : List ℕ). get_or l 1 0) s.same

  -- No body starts behind the last body word.
  pub start_under : (i : ℕ) → start_of i (decode h t ws) ≤ length (bodies (decode h t ws))
  unfolding start_of
  start_under i =
      let D : List Entry = decode h t ws in
      let e : bodies D ≡ bodies (take i D) ++ bodies (drop i D) = ap bodies (sym (take-append-drop i D)) ∙ bodies_append (take i D) (drop i D) in
      omega (arith, ap length e, length-append (bodies (take i D)) (bodies (drop i D)))

  -- Behind the last entry a body would start where the bodies end.
  pub start_last : (i : ℕ) → length (decode h t ws) ≤ i → get_or ws 1 0 ≡ start_of i (decode h t ws)
  unfolding start_of
  start_last i l = body_is ∙ ap (λ (d : List Entry). length (bodies d)) (sym (take_all i (decode h t ws) l))

  module _ (i : ℕ) (l : i < length (decode h t ws)) where
    -- The slot of an entry is there.
    pub in_slot : counters + i * width h t + width h t ≤ length ws
    in_slot = omega (arith, s.fits, less_mul i (length (decode h t ws)) (width h t) l)

    -- The widths, of the entries as they are cut.
    pub wides : Wide h t (parts i (decode h t ws))
    wides = subst (Wide h t) (cut i (decode h t ws) l) s.wide

    -- The widths of the entries before i.
    pub wide_before : Wide h t (take i (decode h t ws))
    wide_before = wide_left h t (take i (decode h t ws)) (nth i (decode h t ws) ∷ drop (suc i) (decode h t ws)) wides

    -- The widths of the entry at i and of those behind it.
    pub wide_at : ((length (nth i (decode h t ws)).head ≡ h) × (length (nth i (decode h t ws)).tail ≡ t)) × Wide h t (drop (suc i) (decode h t ws))
    unfolding Wide
    wide_at = wide_right h t (take i (decode h t ws)) (nth i (decode h t ws) ∷ drop (suc i) (decode h t ws)) wides

    -- The words are the table of the entries as they are cut.
    pub laid : ws ≡ encode (length ws) (parts i (decode h t ws))
    laid = s.same ∙ ap (encode (length ws)) (cut i (decode h t ws) l)

    -- There are i entries before i.
    pub before : length (take i (decode h t ws)) ≡ i
    before = length-take-le i (decode h t ws) (omega arith)

    -- A slot's start is where its entry's body starts.
    pub start_is : get_or ws (counters + i * width h t + h) 0 ≡ start_of i (decode h t ws)
    unfolding start_of
    start_is =
        let D : List Entry = decode h t ws in
        (λ q. get_or (laid q) (counters + sym before q * width h t + h) 0)
        ∙ start_at (length ws) h t (take i D) (drop (suc i) D) (nth i D) wide_before wide_at.0.0

    -- A slot's count is the length of its entry's body.
    pub slot_count_is : get_or ws (counters + i * width h t + h + 1) 0 ≡ length (nth i (decode h t ws)).body
    slot_count_is =
        let D : List Entry = decode h t ws in
        (λ q. get_or (laid q) (counters + sym before q * width h t + h + 1) 0)
        ∙ count_at (length ws) h t (take i D) (drop (suc i) D) (nth i D) wide_before wide_at.0.0

    -- Word j of a slot is word j of its entry's head.
    pub head_is : (j : ℕ) → j < h → get_or ws (counters + i * width h t + j) 0 ≡ get_or (nth i (decode h t ws)).head j 0
    head_is j jh =
        let D : List Entry = decode h t ws in
        (λ q. get_or (laid q) (counters + sym before q * width h t + j) 0)
        ∙ head_at (length ws) h t (take i D) (drop (suc i) D) (nth i D) wide_before wide_at.0.0 j jh

    -- Word j behind a slot's count is word j of its entry's tail.
    pub tail_is : (j : ℕ) → j < t → get_or ws (counters + i * width h t + h + span + j) 0 ≡ get_or (nth i (decode h t ws)).tail j 0
    tail_is j jt =
        let D : List Entry = decode h t ws in
        let u : j < length (nth i D).tail = omega (arith, wide_at.0.1) in
        (λ q. get_or (laid q) (counters + sym before q * width h t + h + span + j) 0)
        ∙ tail_at (length ws) h t (take i D) (drop (suc i) D) (nth i D) wide_before wide_at.0.0 j u

    -- The body words of an entry.
    pub part_is : take (length (nth i (decode h t ws)).body) (drop (counters + length (decode h t ws) * width h t + start_of i (decode h t ws)) ws)
        ≡ (nth i (decode h t ws)).body
    unfolding start_of
    part_is =
        let D : List Entry = decode h t ws in
        (λ q. take (length (nth i D).body) (drop (counters + length (cut i D l q) * width h t + length (bodies (take i D))) (laid q)))
        ∙ body_at (length ws) h t (take i D) (drop (suc i) D) (nth i D) wides

    -- The head words of an entry.
    pub head_part_is : take h (drop (counters + i * width h t) ws) ≡ (nth i (decode h t ws)).head
    head_part_is =
        let D : List Entry = decode h t ws in
        (λ q. take h (drop (counters + sym before q * width h t) (laid q)))
        ∙ head_part (length ws) h t (take i D) (drop (suc i) D) (nth i D) wide_before wide_at.0.0
