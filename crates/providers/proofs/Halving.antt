-- A number looked for in a list: the search by halves, and sixteen words at once. Assumes nothing.
use Rattle.std.proofs.Common.{ℕ, ◌+◌, ◌-◌, ◌≤◌, ◌<◌, ◌≡◌, Bool, true, false, ltb}
use Rattle.std.proofs.Common.{List, length, get_or, take, drop, refl, sym, ◌∙◌, arith, length-take, length-drop}
use Rattle.std.specs.Prelude.{Result, Ok, Err}
use Rattle.std.specs.Result.{is_ok}
use Rattle.std.specs.List.Sorted.{IsBinarySearchResult}
use Rattle.std.specs.Ordering.{nat_cmp}
use Rattle.std.proofs.lemmas.List.Sorted.{searched}
use borrow.Author.Tests.{ltb-true, ltb-false}
use lib.Seq.{get_or-take}
use Rattle.types.proofs.Clashes.{not_both}
use Rattle.rules.specs.Records.{is_in}
use Rattle.providers.specs.Lists.{rises}
use Rattle.providers.specs.Helpers.{list_at}
use Rattle.providers.proofs.Members.{rises_at, at_in, in_at}

-- ---- by halves

-- No number of a list that ascends is below an earlier one.
rises_to : (l : List ℕ) → rises l ≡ true → (i j : ℕ) → i ≤ j → j < length l → get_or l i 0 ≤ get_or l j 0
rises_to l e i j h k = go (ltb i j) refl
  where
    go : (b : Bool) → ltb i j ≡ b → get_or l i 0 ≤ get_or l j 0
    go true q = let r = rises_at l e i j (ltb-true i j q) k in omega arith
    go false q = let z : i ≡ j = omega (arith, ltb-false i j q) in rw z (omega arith)

-- What the search answers of a list that ascends.
pub search_says : (l : List ℕ) (x : ℕ) (r : Result ℕ ℕ) → IsBinarySearchResult (λ y. nat_cmp y x) l r → rises l ≡ true → is_ok r ≡ is_in x l
search_says l x (Ok i) s e = let t = searched l x (Ok i) s (rises_to l e) in sym (at_in x l i t.0 t.1)
search_says l x (Err i) s e = none (is_in x l) refl
  where
    none : (b : Bool) → is_in x l ≡ b → false ≡ b
    none false q = refl
    none true q = absurd (apart (ltb (in_at x l q).at i) refl)
      where
        apart : (b : Bool) → ltb (in_at x l q).at i ≡ b → ⊥
        apart true u =
            let p = in_at x l q in
            let t = (searched l x (Err i) s (rises_to l e)).1 p.at (ltb-true p.at i u) in
            omega (arith, p.here)
        apart false u =
            let p = in_at x l q in
            let t = (searched l x (Err i) s (rises_to l e)).2 p.at (ltb-false p.at i u) p.within in
            omega (arith, p.here)

-- ---- sixteen words at once

-- Words that do not hold x: nor does a list that begins with them and is not longer.
pub none_among : (x m n : ℕ) (l : List ℕ) → m ≤ n → n ≤ length l → is_in x (take n l) ≡ false → is_in x (take m l) ≡ false
none_among x m n l h k e = go (is_in x (take m l)) refl
  where
    go : (b : Bool) → is_in x (take m l) ≡ b → b ≡ false
    go false q = refl
    go true q =
        let s = in_at x (take m l) q in
        let v = simp length-take at s.within in
        let w : s.at < m = omega (arith, v) in
        let g : get_or (take n l) s.at 0 ≡ x = get_or-take n l s.at 0 (omega arith) ∙ sym (get_or-take m l s.at 0 w) ∙ s.here in
        not_both e (at_in x (take n l) s.at (simp length-take (omega arith)) g)

-- A list of at most sixteen numbers among the words, of which none is x.
pub not_among : (ws : List ℕ) (x from count : ℕ) → count ≤ 16 → from + 16 ≤ length ws → is_in x (take (from + 16 - from) (drop from ws)) ≡ false
    → false ≡ is_in x (list_at ws from count)
not_among ws x from count h k e =
    let z : from + 16 - from ≡ 16 = omega arith in
    sym (none_among x count 16 (drop from ws) h (simp length-drop (omega arith)) (rw z at e))
