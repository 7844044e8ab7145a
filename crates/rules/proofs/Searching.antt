-- What the searches along a path find: the first or the last index of a range that passes a test, and nothing else. Assumes nothing.
use Prim.Native.Nat.{ℕ, zero, suc, ◌+◌, ◌≤◌, ◌<◌}
use mathlib.Core.Path.{◌≡◌, refl, sym, ◌∙◌, ap}
use mathlib.Core.Bool.{Bool, true, false, true≢false}
use native.Mathlib.Omega.{arith}
use borrow.Author.Tests.{ltb-true, ltb-false}
use lib.Dec.{ltb}
use Rattle.rules.specs.Hops.{lowest, highest}
use Rattle.rules.specs.Laws.{Lowest, Highest}

-- The search upward finds the lowest.
pub lowest_is : (test : ℕ → Bool) (i n : ℕ) → Lowest test i n (lowest test i n)
unfolding lowest
lowest_is test i zero =
    record { low = omega arith; high = omega arith; passes = λ h. absurd (omega arith); first = λ j a b. absurd (omega arith) }
lowest_is test i (suc n) = go (lowest_is test (i + 1) n) (test i) refl
  where
    go : Lowest test (i + 1) n (lowest test (i + 1) n) → (b : Bool) → test i ≡ b → Lowest test i (suc n) (lowest test i (suc n))
    go ih true e = rw e (record { low = omega arith; high = omega arith; passes = λ h. e; first = λ j a b. absurd (omega arith) })
    go ih false e =
        rw e (record { low = omega arith; high = omega arith; passes = λ h. ih.passes (omega arith); first = λ j a b. at j a b (ltb i j) refl })
      where
        at : (j : ℕ) → i ≤ j → j < lowest test (i + 1) n → (b : Bool) → ltb i j ≡ b → test j ≡ false
        at j a b true l = ih.first j (omega (arith, ltb-true i j l)) b
        at j a b false l =
            let z : j ≡ i = omega (arith, ltb-false i j l) in
            ap test z ∙ e

-- The search downward finds the highest.
pub highest_is : (test : ℕ → Bool) (i n : ℕ) → 1 ≤ i → Highest test i n (highest test i n)
unfolding highest
highest_is test i zero one =
    record { low = omega arith; high = omega arith; passes = λ h. absurd (omega arith); last = λ j a b. absurd (omega arith) }
highest_is test i (suc n) one = go (highest_is test i n one) (test (i + n)) refl
  where
    go : Highest test i n (highest test i n) → (b : Bool) → test (i + n) ≡ b → Highest test i (suc n) (highest test i (suc n))
    go ih true e = rw e (record { low = omega arith; high = omega arith; passes = λ h. e; last = λ j a b. absurd (omega arith) })
    go ih false e =
        rw e (record { low = omega arith; high = omega arith; passes = ih.passes; last = λ j a b. at j a b (ltb j (i + n)) refl })
      where
        at : (j : ℕ) → highest test i n < j → j < i + suc n → (b : Bool) → ltb j (i + n) ≡ b → test j ≡ false
        at j a b true l = ih.last j a (ltb-true j (i + n) l)
        at j a b false l =
            let z : j ≡ i + n = omega (arith, ltb-false j (i + n) l) in
            ap test z ∙ e

-- Of two searches upward of a range, one that more of its indices pass ends no later.
pub lowest_sooner : {test test' : ℕ → Bool} {i n r s : ℕ} → ((j : ℕ) → i ≤ j → j < i + n → test j ≡ true → test' j ≡ true)
    → Lowest test i n r → Lowest test' i n s → s ≤ r
lowest_sooner {r} {s} more x y = go (ltb r s) refl
  where
    go : (b : Bool) → ltb r s ≡ b → s ≤ r
    go true l =
        let h : r < s = ltb-true r s l in
        absurd (true≢false (sym (more r x.low (omega (arith, y.high)) (x.passes (omega (arith, y.high)))) ∙ y.first r x.low h))
    go false l = ltb-false r s l

-- There is one lowest index.
pub lowest_only : {test : ℕ → Bool} {i n r s : ℕ} → Lowest test i n r → Lowest test i n s → r ≡ s
lowest_only x y = omega (arith, lowest_sooner (λ j a b e. e) x y, lowest_sooner (λ j a b e. e) y x)

-- Of two searches downward, one that more indices pass ends no lower.
pub highest_later : {test test' : ℕ → Bool} {i n r s : ℕ} → 1 ≤ i → ((j : ℕ) → i ≤ j → j < i + n → test j ≡ true → test' j ≡ true)
    → Highest test i n r → Highest test' i n s → r ≤ s
highest_later {r} {s} one more x y = go (ltb s r) refl
  where
    go : (b : Bool) → ltb s r ≡ b → r ≤ s
    go true l =
        let h : s < r = ltb-true s r l in
        absurd (true≢false (sym (more r (omega (arith, y.low)) x.high (x.passes (omega (arith, y.low)))) ∙ y.last r h x.high))
    go false l = ltb-false s r l

-- There is one highest index.
pub highest_only : {test : ℕ → Bool} {i n r s : ℕ} → 1 ≤ i → Highest test i n r → Highest test i n s → r ≡ s
highest_only one x y = omega (arith, highest_later one (λ j a b e. e) x y, highest_later one (λ j a b e. e) y x)

-- What a search upward finds depends on the test within its range alone.
pub lowest_same :
    (test test' : ℕ → Bool) (i n : ℕ) → ((j : ℕ) → i ≤ j → j < i + n → test j ≡ test' j) → lowest test i n ≡ lowest test' i n
unfolding lowest
lowest_same test test' i zero same = refl
lowest_same test test' i (suc n) same =
    rw (same i (omega arith) (omega arith), lowest_same test test' (i + 1) n (λ j a b. same j (omega arith) (omega arith)))

-- And so does what a search downward finds.
pub highest_same :
    (test test' : ℕ → Bool) (i n : ℕ) → ((j : ℕ) → i ≤ j → j < i + n → test j ≡ test' j) → highest test i n ≡ highest test' i n
unfolding highest
highest_same test test' i zero same = refl
highest_same test test' i (suc n) same =
    rw (same (i + n) (omega arith) (omega arith), highest_same test test' i n (λ j a b. same j a (omega arith)))
