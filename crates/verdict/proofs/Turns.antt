-- One hop more in each search along a path, hop i being the one between AS(i) and AS(i + 1). Assumes nothing.
use Prim.Native.Nat.{ℕ, suc, ◌+◌, ◌-◌, ◌≤◌, ◌<◌}
use mathlib.Core.Path.{◌≡◌, refl, sym, ◌∙◌}
use mathlib.Core.List.{List}
use mathlib.Core.Bool.{Bool, true, false, cond, ◌&&◌}
use native.Mathlib.Omega.{arith}
use borrow.Author.Tests.{le-leb, lt-leb, eq-eqb, ne_eqb, ltb-true, ltb-false, eqb-true, eqb-false, leb-false}
use lib.Dec.{leb, ltb, eqb}
use Rattle.rules.specs.Hops.{HopFunction, is_plus, up, down, lowest, highest, climb, descend}

-- A search upward over 2..n has tested as far as i; u is what it found, and above n as long as it found none.
pub record First (test : ℕ → Bool) (n u i : ℕ) : Type 0 where
  pub within : i ≤ n
  pub most : u ≤ n + 1
  pub same : lowest test 2 (n - 1) ≡ cond (leb u n) u (lowest test (i + 1) (n - i))

-- It starts with nothing found.
pub first_starts : (test : ℕ → Bool) (n : ℕ) → 1 ≤ n → First test n (n + 1) 1
first_starts test n h = record { within = h; most = omega arith; same = rw (lt-leb (n + 1) n (omega arith)) }

module _ {test : ℕ → Bool} {n u i : ℕ} (g : First test n u i) where
  module _ (h : i < n) where
    -- The next index passes.
    passed : test (i + 1) ≡ true → lowest test (i + 1) (n - i) ≡ i + 1
    unfolding lowest
    passed e =
        let z : n - i ≡ suc (n - (i + 1)) = omega arith in
        rw (z, e)

    -- The next index fails.
    failed : test (i + 1) ≡ false → lowest test (i + 1) (n - i) ≡ lowest test (i + 1 + 1) (n - (i + 1))
    unfolding lowest
    failed e =
        let z : n - i ≡ suc (n - (i + 1)) = omega arith in
        rw (z, e)

    -- The first that passes is what the search finds.
    pub first_met : n < u → test (i + 1) ≡ true → lowest test 2 (n - 1) ≡ i + 1
    first_met m e = g.same ∙ rw (lt-leb u n m) (passed e)

    -- What is found is kept.
    pub first_kept : u ≤ n → First test n u (i + 1)
    first_kept m = record { within = omega arith; most = g.most; same = g.same ∙ rw (le-leb u n m) }

    -- One that fails leaves all as it was.
    pub first_missed : test (i + 1) ≡ false → First test n u (i + 1)
    first_missed e = record { within = omega arith; most = g.most; same = rw (← failed e) g.same }

    -- The first that passes is noted.
    pub first_found : n < u → test (i + 1) ≡ true → First test n (i + 1) (i + 1)
    first_found m e =
        record { within = omega arith; most = omega arith; same = first_met m e ∙ rw (le-leb (i + 1) n (omega arith)) }

    -- All three at once.
    pub first_on : First test n (cond (test (i + 1) && ltb n u) (i + 1) u) (i + 1)
    first_on = go (test (i + 1)) (ltb n u) refl refl
      where
        go : (b t : Bool) → test (i + 1) ≡ b → ltb n u ≡ t → First test n (cond (test (i + 1) && ltb n u) (i + 1) u) (i + 1)
        go true true e f = rw (e, f) (first_found (ltb-true n u f) e)
        go true false e f = rw (e, f) (first_kept (ltb-false n u f))
        go false t e f = rw e (first_missed e)

  -- With all tested, what it found is the lowest.
  pub first_done : n ≤ i → u ≡ lowest test 2 (n - 1)
  unfolding lowest
  first_done h = sym (g.same ∙ go (leb u n) refl)
    where
      go : (b : Bool) → leb u n ≡ b → cond (leb u n) u (lowest test (i + 1) (n - i)) ≡ u
      go true e = rw e
      go false e =
          let z : n - i ≡ 0 = omega arith in
          rw (e, z) (omega (arith, g.within, g.most, leb-false u n e))

-- A search downward over 1..i, by its last index.
pub highest_on : (test : ℕ → Bool) (i : ℕ) → 1 ≤ i → highest test 1 (i + 1 - 1) ≡ cond (test i) i (highest test 1 (i - 1))
unfolding highest
highest_on test i h =
    let z : i + 1 - 1 ≡ suc (i - 1) = omega arith in
    let y : 1 + (i - 1) ≡ i = omega arith in
    rw (z, y)

module _ (hop : HopFunction) (path : List ℕ) where
  -- A descent from i + 1, by its first hop.
  pub descend_on : (i : ℕ) → 1 ≤ i → descend hop path (i + 1 - 1) ≡ cond (is_plus (down hop path i)) (descend hop path (i - 1)) (i + 1)
  unfolding descend
  descend_on i h =
      let z : i + 1 - 1 ≡ suc (i - 1) = omega arith in
      let y : i - 1 + 1 ≡ i = omega arith in
      let x : i - 1 + 2 ≡ i + 1 = omega arith in
      rw (z, y, x)

  -- A climb has come as far as i; k is where it stands, and below i as soon as it has ended.
  pub record Climb (n k i : ℕ) : Type 0 where
    pub within : i ≤ n
    pub most : k ≤ i
    pub same : climb hop path 1 (n - 1) ≡ cond (eqb k i) (climb hop path i (n - i)) k

  -- It starts from AS(1).
  pub climb_starts : (n : ℕ) → 1 ≤ n → Climb n 1 1
  climb_starts n h = record { within = h; most = omega arith; same = refl }

  module _ {n k i : ℕ} (g : Climb n k i) where
    -- A climb that has ended stays where it is.
    climb_kept : i < n → (k ≡ i → ⊥) → Climb n k (i + 1)
    climb_kept h m =
        let f : k ≡ i + 1 → ⊥ = λ e. omega (arith, e, g.most) in
        record { within = omega arith; most = omega (arith, g.most); same = g.same ∙ rw (ne_eqb k i m, ne_eqb k (i + 1) f) }

    -- One hop more.
    pub climb_on : i < n → Climb n (cond (is_plus (up hop path (i + 1)) && eqb k i) (i + 1) k) (i + 1)
    unfolding climb
    climb_on h = go (is_plus (up hop path (i + 1))) (eqb k i) refl refl
      where
        z : n - i ≡ suc (n - (i + 1))
        z = omega arith

        here : eqb k i ≡ true → climb hop path 1 (n - 1) ≡ cond (is_plus (up hop path (i + 1))) (climb hop path (i + 1) (n - (i + 1))) i
        here f = g.same ∙ rw (f, z)

        go : (b t : Bool) → is_plus (up hop path (i + 1)) ≡ b → eqb k i ≡ t
            → Climb n (cond (is_plus (up hop path (i + 1)) && eqb k i) (i + 1) k) (i + 1)
        go true true e f =
            rw (e, f)
            (record { within = omega arith; most = omega arith; same = here f ∙ rw (e, eq-eqb (i + 1) (i + 1) refl) })
        go true false e f = rw (e, f) (climb_kept h (eqb-false k i f))
        go false true e f =
            let y : k ≡ i = eqb-true k i f in
            let x : k ≡ i + 1 → ⊥ = λ w. omega (arith, w, y) in
            rw e
            (record { within = omega arith; most = omega arith; same = here f ∙ rw (e, ne_eqb k (i + 1) x) (sym y) })
        go false false e f = rw e (climb_kept h (eqb-false k i f))

    -- At the end of the path it stands at K.
    pub climb_done : n ≤ i → k ≡ climb hop path 1 (n - 1)
    unfolding climb
    climb_done h = sym (g.same ∙ go (eqb k i) refl)
      where
        go : (b : Bool) → eqb k i ≡ b → cond (eqb k i) (climb hop path i (n - i)) k ≡ k
        go true e =
            let z : n - i ≡ 0 = omega arith in
            rw (e, z) (sym (eqb-true k i e))
        go false e = rw e
