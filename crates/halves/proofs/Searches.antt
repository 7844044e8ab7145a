-- The search: what its loop knows between steps, where it ends, and how soon. Assumes nothing.
use Prim.Native.Nat.{ℕ, zero, suc, ◌+◌, ◌-◌, ◌*◌, ◌^◌, ◌≤◌, ◌<◌}
use mathlib.Core.Path.{◌≡◌, refl, sym, ◌∙◌, ap}
use mathlib.Core.Bool.{Bool, true, false, cond}
use mathlib.Core.List.{List}
use native.Mathlib.Omega.{arith}
use borrow.Author.Tests.{lt-ltb, le-ltb, ltb-true, ltb-false}
use lib.Dec.{ltb}
use lib.ListN.{length, get_or}
use Rattle.table.specs.Table.{counters, width, Sound}
use Rattle.table.proofs.Sounds.{less_mul, long, count_is}
use Rattle.halves.specs.declared.Range.{Range}
use Rattle.halves.specs.Halves.{Begins, size, middle, In, stepped, searched, searched_from, halvings}
use Rattle.halves.specs.Helpers.{Open, Searchable}
use Rattle.halves.proofs.Steps.{part, half, counted, keeps}
use Rattle.halves.proofs.Counts as counts

-- ---- the words

-- A well-formed table can be searched.
pub searchable : (h t : ℕ) (ws : List ℕ) → Sound h t ws → 2 ≤ width h t → Searchable ws (width h t)
searchable h t ws s w = record { two = w; head = long h t ws s; slots = rw (count_is h t ws s) (omega (arith, s.fits)) }

-- Its keys are within the words.
pub key_in : {ws : List ℕ} {width : ℕ} → Searchable ws width → (i : ℕ) → i < get_or ws 0 0 → counters + i * width + 2 ≤ length ws
key_in {ws} {width} t i h = omega (arith, t.two, t.slots, less_mul i (get_or ws 0 0) width h)

-- ---- the loop

-- Nothing is left: the search is over.
over : (before : ℕ → Bool) (most : ℕ) (r : Range) → r.high ≤ r.low → searched before most r ≡ r
unfolding searched
over before zero r h = refl
over before (suc most) r h = rw (le-ltb r.low r.high h) refl

-- Something is left: a step is taken.
goes_on : (before : ℕ → Bool) (most : ℕ) (r : Range) → r.low < r.high → searched before (suc most) r ≡ searched before most (stepped r (before (middle r)))
unfolding searched
goes_on before most r h = rw (lt-ltb r.low r.high h) refl

-- From what is left the search ends where it ends from the start, and there are steps enough for it.
pub record Left (before : ℕ → Bool) (n from : ℕ) (r : Range) : Type 0 where
  pub inside : r.high ≤ n
  pub enough : r.steps + size r ≤ n
  pub same : searched_from before n from ≡ searched before (n - r.steps) r

-- Before the first step everything is left.
pub starts : (before : ℕ → Bool) (n from : ℕ) → Left before n from (record { low = from; high = n; steps = 0 })
starts before n from = let z : n - 0 ≡ n = omega arith in record { inside = omega arith; enough = omega arith; same = rw z refl }

module _ {before : ℕ → Bool} {n from : ℕ} {r : Range} (l : Left before n from r) where
  module _ (h : r.low < r.high) where
    -- A step can be taken.
    pub opens : n < 2 ^ 32 → Open r
    opens k = record { some = h; countable = omega (arith, l.enough) }

    -- The entry in the middle is one of them.
    pub middle_in : middle r < n
    middle_in = omega (arith, l.inside)

    -- After the step the same is known of what is left.
    pub again : {b : Bool} {left : Range} → before (middle r) ≡ b → left ≡ stepped r b → Left before n from left
    again {b} e q = rw q (
        record {
          inside = omega (arith, l.inside, (part r h b).1);
          enough = omega (arith, l.enough, counted r h b, half r h b);
          same = on ∙ ap (λ k. searched before (n - k) (stepped r b)) (sym (counted r h b));
        })
      where
        some : n - r.steps ≡ suc (n - (r.steps + 1))
        some = omega (arith, l.enough)

        on : searched_from before n from ≡ searched before (n - (r.steps + 1)) (stepped r b)
        on =
            l.same
            ∙ ap (λ m. searched before m r) some
            ∙ goes_on before (n - (r.steps + 1)) r h
            ∙ ap (λ c. searched before (n - (r.steps + 1)) (stepped r c)) e

  -- When nothing is left the search is at its end.
  pub ends : r.high ≤ r.low → r ≡ searched_from before n from
  ends h = sym (l.same ∙ over before (n - r.steps) r h)

-- ---- where it ends

ends_at : {before : ℕ → Bool} {n p : ℕ} → Begins before n p → (most : ℕ) (r : Range) → r.high ≤ n → In r p → size r ≤ most
    → ((searched before most r).low ≡ p) × ((searched before most r).high ≡ p)
unfolding searched
ends_at b zero r k i h = (omega (arith, i.0, i.1), omega (arith, i.0, i.1))
ends_at {before} {n} {p} b (suc most) r k i h = go (ltb r.low r.high) refl (λ l. ends_at b most (stepped r (before (middle r)))
    (omega (arith, (part r l (before (middle r))).1)) (keeps r l (before (middle r)) b refl k i) (omega (arith, half r l (before (middle r)))))
  where
    go : (c : Bool) → ltb r.low r.high ≡ c
        → (r.low < r.high → ((searched before most (stepped r (before (middle r)))).low ≡ p) × ((searched before most (stepped r (before (middle r)))).high ≡ p))
        → ((cond c (searched before most (stepped r (before (middle r)))) r).low ≡ p) × ((cond c (searched before most (stepped r (before (middle r)))) r).high ≡ p)
    go true e ih = ih (ltb-true r.low r.high e)
    go false e ih = let l = ltb-false r.low r.high e in (omega (arith, i.0, i.1), omega (arith, i.0, i.1))

pub found : (before : ℕ → Bool) (n from p : ℕ) → Begins before n p → from ≤ p
    → ((searched_from before n from).low ≡ p) × ((searched_from before n from).high ≡ p)
found before n from p b h = ends_at b n (record { low = from; high = n; steps = 0 }) (omega arith) (h, b.within) (omega arith)

-- ---- how soon

few_in : (before : ℕ → Bool) (k most : ℕ) (r : Range) → r.steps ≤ k → size r < 2 ^ (k - r.steps) → (searched before most r).steps ≤ k
unfolding searched
few_in before k zero r h e = h
few_in before k (suc most) r h e = go (ltb r.low r.high) refl (λ s f. few_in before k most (stepped r (before (middle r))) s f)
  where
    go : (c : Bool) → ltb r.low r.high ≡ c
        → ((stepped r (before (middle r))).steps ≤ k → size (stepped r (before (middle r))) < 2 ^ (k - (stepped r (before (middle r))).steps)
        → (searched before most (stepped r (before (middle r)))).steps ≤ k)
        → (cond c (searched before most (stepped r (before (middle r)))) r).steps ≤ k
    go false t ih = h
    go true t ih =
        let l = ltb-true r.low r.high t in
        let q = counted r l (before (middle r)) in
        let more = counts.once_more k r.steps (size r) _ h (omega arith) e (half r l (before (middle r))) in
        ih (omega (arith, more.0, q)) (rw q more.1)

pub few : (before : ℕ → Bool) (n from : ℕ) → (searched_from before n from).steps ≤ suc (halvings (n - from))
few before n from =
    let z : suc (halvings (n - from)) - 0 ≡ suc (halvings (n - from)) = omega arith in
    few_in before (suc (halvings (n - from))) n (record { low = from; high = n; steps = 0 }) (omega arith) (rw z (counts.over (n - from)))
