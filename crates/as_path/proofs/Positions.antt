-- The segment rules at any position: after bytes without a fault, what follows is read as it is by itself, moved along. Assumes nothing.
use Prim.Native.Nat.{ℕ, zero, suc, pred, ◌+◌, ◌-◌, ◌*◌, ◌≤◌}
use mathlib.Core.Path.{◌≡◌, refl, ◌∙◌}
use mathlib.Core.Bool.{Bool, true, false, cond}
use mathlib.Core.List.{List, [], ◌∷◌, ◌++◌, map, map-append}
use native.Mathlib.Omega.{arith}
use native.Mathlib.Nat.{add_assoc}
use borrow.Author.Tests.{le-ltb, le-leb, lt-leb, leb-true, leb-false, ne_eqb}
use lib.Dec.{leb, ltb, eqb}
use lib.ListN.{length, length-append, get_or-append}
use lib.Seq.{get_or-append-add}
use Rattle.as_path.specs.Segments.{number_at, numbers_at, type_at, count_at, end_of, starts_from, starts, segment_at, segments}
use Rattle.as_path.specs.Faults.{numbers_fault, segment_fault, fault_among, first_fault}
use Rattle.as_path.specs.Laws.{moved}
use Rattle.as_path.proofs.Walking.{Whole, clean_test, Stand, one_more}
use Rattle.as_path.proofs.CleanWalks.{Walked, walked}
use Rattle.as_path.proofs.CleanWalks.Walked.{done, step}
use Rattle.std.specs.Prelude.{None, Option}
use Rattle.types.specs.declared.Fault.{Fault}

-- Moving along goes into both arms of a test.
pub moved_cond : (q : ℕ) (b : Bool) (x y : Option (Fault × ℕ)) → moved q (cond b x y) ≡ cond b (moved q x) (moved q y)
moved_cond q true x y = refl
moved_cond q false x y = refl

-- A test is the same with both sides further on by as much.
pub leb_moved : (q m n : ℕ) → leb (q + m) (q + n) ≡ leb m n
leb_moved q m n = go (leb m n) refl
  where
    go : (t : Bool) → leb m n ≡ t → leb (q + m) (q + n) ≡ t
    go true e = le-leb (q + m) (q + n) (omega (arith, leb-true))
    go false e = lt-leb (q + m) (q + n) (omega (arith, leb-false))

-- The same for less.
pub ltb_moved : (q m n : ℕ) → ltb (q + m) (q + n) ≡ ltb m n
ltb_moved q m n = let z : suc (q + m) ≡ q + suc m = omega arith in rw z (leb_moved q (suc m) n)

-- Moving starts along goes past a test whether there is any.
pub map_cond : (q : ℕ) (t : Bool) (l : List ℕ) → map (λ p. q + p) (cond t [] l) ≡ cond t [] (map (λ p. q + p) l)
map_cond q true l = refl
map_cond q false l = refl

module _ (a b : List ℕ) where
  -- After any bytes, a number of what follows is its own.
  pub number_after : (v p : ℕ) → number_at v (a ++ b) (length a + p) ≡ number_at v b p
  unfolding number_at
  number_after zero p = refl
  number_after (suc v) p = rw (get_or-append-add a b p 0, add_assoc (length a) p 1, number_after v (p + 1))

  -- Before any bytes, a number within these is theirs.
  pub number_before : (v p : ℕ) → p + v ≤ length a → number_at v (a ++ b) p ≡ number_at v a p
  unfolding number_at
  number_before zero p h = refl
  number_before (suc v) p h = rw (get_or-append a b 0 p (omega arith), number_before v (p + 1) (omega arith))

module _ (w : ℕ) (a b : List ℕ) where
  -- After any bytes, the numbers of a segment of what follows are its own.
  pub numbers_after : (n p : ℕ) → numbers_at w n (a ++ b) (length a + p) ≡ numbers_at w n b p
  unfolding numbers_at
  numbers_after zero p = refl
  numbers_after (suc n) p = rw (number_after a b w p, add_assoc (length a) p w, numbers_after n (p + w))

  -- After any bytes, the first number 0 of what follows is its own, moved along.
  pub numbers_fault_after : (n p : ℕ) (rest : Option (Fault × ℕ))
      → numbers_fault w n (a ++ b) (length a + p) (moved (length a) rest) ≡ moved (length a) (numbers_fault w n b p rest)
  unfolding numbers_fault
  numbers_fault_after zero p rest = refl
  numbers_fault_after (suc n) p rest =
      rw (moved_cond, number_after a b w p, add_assoc (length a) p w, numbers_fault_after n (p + w) rest)

  -- After any bytes, the fault of a segment of what follows is its own, moved along.
  pub segment_fault_after : (p : ℕ) (rest : Option (Fault × ℕ))
      → segment_fault w (a ++ b) (length a + p) (moved (length a) rest) ≡ moved (length a) (segment_fault w b p rest)
  unfolding segment_fault
  segment_fault_after p rest =
      let z : length a + length b - (length a + p) ≡ length b - p = omega arith in
      let y : length a + p + 2 + w * count_at b p ≡ length a + end_of w b p = omega arith in
      simp (moved_cond) (rw (
        length-append a b,
        z,
        add_assoc (length a) p 1,
        get_or-append-add a b p 0,
        get_or-append-add a b (p + 1) 0,
        y,
        ltb_moved (length a) (length b) (end_of w b p),
        add_assoc (length a) p 2,
        numbers_fault_after (count_at b p) (p + 2) rest,
      ))

  -- After any bytes, the first fault at starts of what follows is its own, moved along.
  pub among_after : (ps : List ℕ) → fault_among w (a ++ b) (map (λ p. length a + p) ps) ≡ moved (length a) (fault_among w b ps)
  unfolding fault_among
  among_after [] = refl
  among_after (p ∷ ps) = rw (among_after ps) (segment_fault_after p (fault_among w b ps))

  -- After any bytes, a segment of what follows is its own.
  pub segment_after : (p : ℕ) → segment_at w (a ++ b) (length a + p) ≡ segment_at w b p
  segment_after p =
      rw (
        add_assoc (length a) p 1,
        add_assoc (length a) p 2,
        get_or-append-add a b p 0,
        get_or-append-add a b (p + 1) 0,
        numbers_after (count_at b p) (p + 2),
      )

  -- After any bytes, the segments at starts of what follows are its own.
  pub segments_after : (ps : List ℕ) → map (segment_at w (a ++ b)) (map (λ p. length a + p) ps) ≡ map (segment_at w b) ps
  segments_after [] = refl
  segments_after (p ∷ ps) = rw (segment_after p, segments_after ps)

  -- After any bytes, with enough fuel on both sides, the starts of what follows are its own, moved along.
  pub starts_after : (f g q : ℕ) → length b ≤ q + f → length b ≤ q + g
      → starts_from g w (a ++ b) (length a + q) ≡ map (λ p. length a + p) (starts_from f w b q)
  unfolding starts_from
  starts_after zero zero q h k = refl
  starts_after zero (suc g) q h k = rw (length-append a b, le-leb (length a + length b) (length a + q) (omega arith))
  starts_after (suc f) zero q h k = rw (le-leb (length b) q (omega arith))
  starts_after (suc f) (suc g) q h k =
      let y : length a + q + 2 + w * count_at b q ≡ length a + end_of w b q = omega arith in
      rw (
        length-append a b,
        leb_moved (length a) (length b) q,
        add_assoc (length a) q 1,
        get_or-append-add a b (q + 1) 0,
        y,
        starts_after f g (end_of w b q) (omega arith) (omega arith),
        map_cond (length a),
      )

  -- Before any bytes, numbers within these are theirs.
  pub numbers_before : (n p : ℕ) → p + w * n ≤ length a → numbers_at w n (a ++ b) p ≡ numbers_at w n a p
  unfolding numbers_at
  numbers_before zero p h = refl
  numbers_before (suc n) p h = rw (number_before a b w p (omega arith), numbers_before n (p + w) (omega arith))

  -- Before any bytes, numbers without a fault have none.
  pub numbers_fault_before : (n p : ℕ) (x y : Option (Fault × ℕ)) → p + w * n ≤ length a → numbers_fault w n a p x ≡ None → numbers_fault w n (a ++ b) p y ≡ y
  unfolding numbers_fault
  numbers_fault_before zero p x y h e = refl
  numbers_fault_before (suc n) p x y h e =
      let t = clean_test (eqb (number_at w a p) 0) _ _ _ e in
      rw (number_before a b w p (omega arith), t.0) (numbers_fault_before n (p + w) x y (omega arith) t.1)

  -- Before any bytes, a whole segment has no fault.
  pub segment_fault_before : (p : ℕ) (x y : Option (Fault × ℕ)) → Whole w a p x → segment_fault w (a ++ b) p y ≡ y
  unfolding segment_fault
  segment_fault_before p x y s =
      rw (
        length-append a b,
        get_or-append a b 0 p (omega arith),
        get_or-append a b 0 (p + 1) (omega arith),
        le-ltb (length a + length b - p) 2 (omega arith),
        ne_eqb (type_at a p) 0 s.typed,
        le-ltb 4 (type_at a p) (omega arith),
        le-ltb 2 (type_at a p) s.known,
        ne_eqb (count_at a p) 0 s.some,
        le-ltb (length a + length b) (end_of w a p) (omega arith),
      )
      (numbers_fault_before (count_at a p) (p + 2) x y s.body s.numbers)

  -- Bytes without a fault are walked to their end, then what follows from its start.
  pub starts_before : {p : ℕ} {ps : List ℕ} → Walked w a p ps → (g : ℕ) → length a + length b ≤ p + g
      → starts_from g w (a ++ b) p ≡ ps ++ map (λ q. length a + q) (starts w b)
  unfolding starts
  starts_before {p} (done e) g h =
      let z : p ≡ length a + 0 = omega arith in
      rw z (starts_after (length b) g 0 (omega arith) (omega arith))
  starts_before {p} (step s r) g h =
      let l : length (a ++ b) ≡ length a + length b = length-append a b in
      let t : Stand w (a ++ b) p = record { fuel = g; enough = omega arith } in
      rw (one_more t (omega arith), get_or-append a b 0 (p + 1) (omega arith), starts_before r (pred g) (omega arith))

  -- Before any bytes, the first fault is not among the starts of bytes without a fault.
  pub among_before : {p : ℕ} {ps : List ℕ} → Walked w a p ps → (qs : List ℕ) → fault_among w (a ++ b) (ps ++ qs) ≡ fault_among w (a ++ b) qs
  unfolding fault_among
  among_before (done e) qs = refl
  among_before {p} (step s r) qs = segment_fault_before p _ _ s ∙ among_before r qs

  -- Before any bytes, the segments of bytes without a fault are theirs.
  pub segments_before : {p : ℕ} {ps : List ℕ} → Walked w a p ps → map (segment_at w (a ++ b)) ps ≡ map (segment_at w a) ps
  segments_before (done e) = refl
  segments_before {p} (step s r) =
      rw (
        get_or-append a b 0 p (omega arith),
        get_or-append a b 0 (p + 1) (omega arith),
        numbers_before (count_at a p) (p + 2) s.body,
        segments_before r,
      )

  module _ (e : first_fault w a ≡ None) where
    -- After bytes without a fault, the starts are theirs, then those of what follows, moved along.
    pub starts_append : starts w (a ++ b) ≡ starts w a ++ map (λ p. length a + p) (starts w b)
    unfolding starts
    starts_append = starts_before (walked w a e) (length (a ++ b)) (omega (arith, length-append a b))

    -- After bytes without a fault, the first fault is that of what follows, moved along.
    pub any_position : first_fault w (a ++ b) ≡ moved (length a) (first_fault w b)
    unfolding first_fault
    any_position = rw starts_append (among_before (walked w a e) _ ∙ among_after (starts w b))

    -- After bytes without a fault, the segments are theirs, then those of what follows.
    pub segments_append : segments w (a ++ b) ≡ segments w a ++ segments w b
    unfolding segments
    segments_append = rw (starts_append, map-append, segments_before (walked w a e), segments_after (starts w b))
