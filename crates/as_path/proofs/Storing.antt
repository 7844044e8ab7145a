-- The merged path in the buffer: each turn of the loop over a segment's numbers, and of the loop over the segments. Assumes nothing.
use Prim.Native.Nat.{ℕ, zero, suc, ◌+◌, ◌-◌, ◌*◌, ◌≤◌, ◌<◌}
use mathlib.Core.Path.{◌≡◌, refl, sym, ◌∙◌, ap}
use mathlib.Core.Bool.{Bool, true, false, cond}
use mathlib.Core.List.{List, [], ◌∷◌, ◌++◌, map}
use native.Mathlib.Omega.{arith}
use native.Mathlib.Numerals.{add-one}
use borrow.Author.Tests.{eq-eqb, ne_eqb}
use lib.Dec.{eqb}
use lib.ListN.{length, set, take, drop, length-append, length-set}
use lib.Seq.{sets, length-sets}
use Rattle.as_path.specs.Segments.{number_at, numbers_at, count_at, end_of, starts, segment_at, segments}
use Rattle.as_path.specs.Faults.{fault_among, first_fault}
use Rattle.as_path.specs.Merging.{numbers_in, runs_after, merge_runs, merged_path}
use Rattle.as_path.specs.Helpers.{Stored, last_after}
use Rattle.as_path.proofs.Walking.{Whole, Stand, left, first, next, none_left, one_more, whole_here}
use Rattle.as_path.proofs.Scanning.{numbers_part}
use Rattle.as_path.proofs.CleanWalks.{walked}
use Rattle.as_path.proofs.Runs.{runs_append}
use Rattle.as_path.proofs.MergedPaths.{none_before, no_zero_walked}
use Rattle.std.specs.Prelude.{None}

-- ---- a segment's numbers

-- What is left of a body's numbers, k of which are passed.
abbrev pub ahead : ℕ → List ℕ → ℕ → ℕ → List ℕ
ahead w body count k = numbers_at w (count - k) body (w * k)

-- What is left to store of them, the last stored being `last`.
abbrev pub rest : ℕ → List ℕ → ℕ → ℕ → ℕ → List ℕ
rest w body count last k = runs_after last (ahead w body count k)

pub record Pushing (w : ℕ) (body : List ℕ) (count : ℕ) (path₀ : List ℕ) (last₀ to₀ k₀ : ℕ) (path : List ℕ) (last to k : ℕ) : Type 0 where
  pub passed : k ≤ count
  pub bound : to + k₀ ≤ to₀ + k
  pub same_length : length path ≡ length path₀
  pub buffer : sets path₀ to₀ (rest w body count last₀ k₀) ≡ sets path to (rest w body count last k)
  pub index : to₀ + length (rest w body count last₀ k₀) ≡ to + length (rest w body count last k)
  pub ending : last_after last₀ (ahead w body count k₀) ≡ last_after last (ahead w body count k)

pub pushes :
    {w : ℕ} {body : List ℕ} {count : ℕ} {path : List ℕ} {last to k : ℕ} → k ≤ count
    → Pushing w body count path last to k path last to k
pushes h = record { passed = h; bound = omega arith; same_length = refl; buffer = refl; index = refl; ending = refl }

module _ {w : ℕ} {body : List ℕ} {count : ℕ} {path₀ : List ℕ} {last₀ to₀ k₀ : ℕ} {path : List ℕ} {last to k : ℕ}
    (g : Pushing w body count path₀ last₀ to₀ k₀ path last to k) where
  opened : k < count → ahead w body count k ≡ number_at w body (w * k) ∷ ahead w body count (k + 1)
  unfolding numbers_at
  opened h =
      let z : count - k ≡ suc (count - (k + 1)) = omega arith in
      let y : w * (k + 1) ≡ w * k + w = omega arith in
      rw (z, y)

  module _ {x : ℕ} (h : k < count) (e : x ≡ number_at w body (w * k)) where
    repeated : x ≡ last → rest w body count last k ≡ rest w body count last (k + 1)
    unfolding runs_after
    repeated s = ap (runs_after last) (opened h) ∙ rw (eq-eqb (number_at w body (w * k)) last (sym e ∙ s)) refl

    other : (x ≡ last → ⊥) → rest w body count last k ≡ x ∷ rest w body count x (k + 1)
    unfolding runs_after
    other s = ap (runs_after last) (opened h) ∙ rw (← e, ne_eqb x last s) refl

    -- The last number, once number k is passed.
    ends : last_after last (ahead w body count k) ≡ last_after x (ahead w body count (k + 1))
    unfolding last_after
    ends = ap (last_after last) (opened h) ∙ ap (λ y. last_after y (ahead w body count (k + 1))) (sym e)

    pub skips : x ≡ last → Pushing w body count path₀ last₀ to₀ k₀ path last to (k + 1)
    skips s =
        record {
          passed = omega arith;
          bound = omega (arith, g.bound);
          same_length = g.same_length;
          buffer = g.buffer ∙ ap (sets path to) (repeated s);
          index = g.index ∙ ap (λ l. to + length l) (repeated s);
          ending = g.ending ∙ ends ∙ ap (λ y. last_after y (ahead w body count (k + 1))) s;
        }

    pub stores :
        {path' : List ℕ} → (x ≡ last → ⊥) → path' ≡ set path to x
        → Pushing w body count path₀ last₀ to₀ k₀ path' x (to + 1) (k + 1)
    stores s p =
        record {
          passed = omega arith;
          bound = omega (arith, g.bound);
          same_length = ap length p ∙ simp length-set g.same_length;
          buffer = g.buffer ∙ ap (sets path to) (other s) ∙ rw (add-one to, p) refl;
          index = g.index ∙ ap (λ l. to + length l) (other s) ∙ omega arith;
          ending = g.ending ∙ ends;
        }

-- The whole body, from its first number on.
pub segment_stored :
    (w : ℕ) (body : List ℕ) (count : ℕ) {path₀ path : List ℕ} {last₀ to₀ last to k : ℕ} → Pushing w body count path₀ last₀ to₀ 0 path last to k → count ≤ k
    → Stored path₀ to₀ (runs_after last₀ (numbers_at w count body 0)) path to × (last ≡ last_after last₀ (numbers_at w count body 0))
unfolding numbers_at runs_after last_after
segment_stored w body count {to} {k} g h =
    let z : count - k ≡ 0 = omega arith in
    let y : count - 0 ≡ count = omega arith in
    let v : w * 0 ≡ 0 = omega arith in
    let i = rw (z, y, v) at g.index in
    (record { buffer = sym (rw (z, y, v) at g.buffer); index = omega (arith, i) }, sym (rw (z, y, v) at g.ending))

pub length_numbers : (w n : ℕ) (xs : List ℕ) (p : ℕ) → length (numbers_at w n xs p) ≡ n
unfolding numbers_at
length_numbers w zero xs p = refl
length_numbers w (suc n) xs p = ap suc (length_numbers w n xs (p + w))

pub runs_shorter : (x : ℕ) (l : List ℕ) → length (runs_after x l) ≤ length l
unfolding runs_after
runs_shorter x [] = omega arith
runs_shorter x (y ∷ l) = go (eqb y x) (runs_shorter x l) (runs_shorter y l)
  where
    go : (b : Bool) → length (runs_after x l) ≤ length l → length (runs_after y l) ≤ length l
        → length (cond b (runs_after x l) (y ∷ runs_after y l)) ≤ suc (length l)
    go true h h' = omega arith
    go false h h' = omega arith

pub merged_shorter : (l : List ℕ) → length (merge_runs l) ≤ length l
unfolding merge_runs
merged_shorter [] = omega arith
merged_shorter (x ∷ l) = omega (arith, runs_shorter x l)

-- ---- the segments

pub sets_append : (p : List ℕ) (n : ℕ) (l m : List ℕ) → sets p n (l ++ m) ≡ sets (sets p n l) (n + length l) m
sets_append p n [] m = ap (λ k. sets p k m) (omega arith)
sets_append p n (x ∷ l) m = sets_append (set p n x) (suc n) l m ∙ ap (λ k. sets (sets (set p n x) (suc n) l) k m) (omega arith)

-- What is left to store of an attribute, the last number stored being `last`.
abbrev pub remaining : {w : ℕ} {xs : List ℕ} {at : ℕ} → Stand w xs at → ℕ → List ℕ
remaining {w} {xs} s last = runs_after last (numbers_in (map (segment_at w xs) (left s)))

pub record Gathering (w : ℕ) (xs path₀ path : List ℕ) (n last at : ℕ) : Type 0 where
  pub stand : Stand w xs at
  pub clean : fault_among w xs (left stand) ≡ None
  pub within : at ≤ length xs
  pub bound : n ≤ at
  pub same_length : length path ≡ length path₀
  pub buffer : sets path₀ 0 (merged_path (segments w xs)) ≡ sets path n (remaining stand last)
  pub index : length (merged_path (segments w xs)) ≡ n + length (remaining stand last)

-- Nothing is stored yet. No number is 0, so none repeats it.
pub gathers : (w : ℕ) (xs path : List ℕ) → first_fault w xs ≡ None → Gathering w xs path path 0 0 0
unfolding first_fault starts segments merged_path
gathers w xs path e =
    record {
      stand = first w xs;
      clean = e;
      within = omega arith;
      bound = omega arith;
      same_length = refl;
      buffer = ap (sets path 0) (none_before (no_zero_walked (walked w xs e)));
      index = ap length (none_before (no_zero_walked (walked w xs e))) ∙ omega arith;
    }

module _ {w : ℕ} {xs path₀ path : List ℕ} {n last at : ℕ} (g : Gathering w xs path₀ path n last at) where
  pub gathered : length xs ≤ at → Stored path₀ 0 (merged_path (segments w xs)) path n
  unfolding numbers_in runs_after
  gathered h =
      let e : left g.stand ≡ [] = none_left g.stand h in
      record {
        buffer = sym (g.buffer ∙ ap (λ ps. sets path n (runs_after last (numbers_in (map (segment_at w xs) ps)))) e);
        index = sym (omega (arith, g.index ∙ ap (λ ps. n + length (runs_after last (numbers_in (map (segment_at w xs) ps)))) e));
      }

  module _ (h : at < length xs) where
    pub here : Whole w xs at (fault_among w xs (left (next g.stand)))
    here = whole_here g.stand h g.clean

    -- The numbers of the segment at hand, and what they add to the path.
    numbers : List ℕ
    numbers = numbers_at w (count_at xs at) xs (at + 2)

    run : List ℕ
    run = runs_after last numbers

    opens : remaining g.stand last ≡ run ++ remaining (next g.stand) (last_after last numbers)
    unfolding numbers_in run numbers
    opens = ap (λ ps. runs_after last (numbers_in (map (segment_at w xs) ps))) (one_more g.stand h) ∙ runs_append last numbers _

    -- One segment more, handed on as its own part.
    pub gathers_on :
        {part path' : List ℕ} {m n' last' next' : ℕ} → next' ≡ end_of w xs at → m ≡ count_at xs at → count_at xs at ≤ w * count_at xs at
        → part ≡ take (next' - (at + 2)) (drop (at + 2) xs)
        → Stored path n (runs_after last (numbers_at w m part 0)) path' n' × (last' ≡ last_after last (numbers_at w m part 0))
        → Gathering w xs path₀ path' n' last' next'
    unfolding run numbers
    gathers_on {part} {path'} {m} {n'} {last'} e em wide ep r =
        rw e (record {
          stand = next g.stand;
          clean = here.rest;
          within = here.body;
          bound = omega (arith, g.bound, index', runs_shorter last numbers, length_numbers w (count_at xs at) xs (at + 2));
          same_length = ap length buffer' ∙ length-sets path n run ∙ g.same_length;
          buffer = g.buffer ∙ ap (sets path n) opens ∙ sets_append path n run _ ∙ rw (buffer', index', ending') refl;
          index = g.index ∙ ap (λ l. n + length l) opens ∙ rw ending' (omega (arith, index', length-append run (remaining (next g.stand) (last_after last numbers))));
        })
      where
        numbers_are : numbers_at w m part 0 ≡ numbers
        numbers_are =
            let z : at + 2 + 0 ≡ at + 2 = omega arith in
            rw (em, ep, e, numbers_part w (count_at xs at) xs (at + 2) (end_of w xs at - (at + 2)) 0 (omega arith), z)

        buffer' : path' ≡ sets path n run
        buffer' = r.0.buffer ∙ ap (λ l. sets path n (runs_after last l)) numbers_are

        index' : n' ≡ n + length run
        index' = r.0.index ∙ ap (λ l. n + length (runs_after last l)) numbers_are

        ending' : last' ≡ last_after last numbers
        ending' = r.1 ∙ ap (last_after last) numbers_are
