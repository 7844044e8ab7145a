-- Words read as numbers: each turn of the loop, and each way out. Assumes nothing.
use Prim.Native.Nat.{ℕ, suc, ◌+◌, ◌*◌, ◌≤◌, ◌<◌}
use mathlib.Core.Path.{◌≡◌, refl, sym, ap, ◌∙◌}
use mathlib.Core.Bool.{true, false}
use mathlib.Core.List.{List, [], ◌∷◌}
use native.Mathlib.Omega.{arith}
use native.Mathlib.Numerals.{add-one}
use lib.Dec.{eqb}
use lib.ListN.{length, get_or, take, drop, set}
use lib.Seq.{drop-cons, drop-length, sets}
use Rattle.std.proofs.Common.{Option, Some, None, Bor}
use Rattle.std.specs.Iterator.{Yields}
use Rattle.std.specs.List.{slice_split, sum_by, enumerate_from}
use Rattle.std.proofs.lemmas.Iterator.{YieldsList}
use Rattle.std.proofs.lemmas.Iterator.Consumers.{YieldsList-turn, YieldsList-end}
use Rattle.std.proofs.lemmas.List.{get_or_default}
use Rattle.std.proofs.lemmas.List.FromFn.{length-enumerate_from, get_or-enumerate_from}
use Rattle.std.proofs.lemmas.List.Sums.{sum_by_more, sum_by-take-le}
use Rattle.text.specs.Numbers.{number_of, if_number}
use Rattle.lines.proofs.Marks.{split_is}
use Rattle.lines.specs.Words.{words_of, all_numbers, numbers_in, list_read, list_count}
use Rattle.lines.proofs.Words.{weight}

-- ---- what a loop over words with their indices reads

abbrev pub Reads : {S : Type 0} → (S → Option (ℕ × Bor (List ℕ)) → S → Type 0) → S → List (List ℕ) → Type 0
Reads steps s ws = YieldsList steps (λ p. (p.0, p.1.now)) s (enumerate_from 0 ws)

module _ {S : Type 0} {steps : S → Option (ℕ × Bor (List ℕ)) → S → Type 0} {s : S} (ws : List (List ℕ)) (road : Reads steps s ws)
    (xs : List (ℕ × Bor (List ℕ))) (t u : S) {r : Option (ℕ × Bor (List ℕ))} (y : Yields steps s xs t) (p : steps t r u) where
  pub turn :
      (x : ℕ × Bor (List ℕ)) {number : Option ℕ} → r ≡ Some x → number ≡ number_of x.1.now
      → (x.0 ≡ length xs) × (length xs < length ws) × (number_of (get_or ws (length xs) []) ≡ number)
  turn x e n =
      let q = YieldsList-turn road xs t y r u x e p in
      let l : length xs < length ws = omega (arith, q.0, length-enumerate_from 0 ws) in
      let z = q.1 ∙ get_or-enumerate_from 0 ws (length xs) (x.0, x.1.now) l in
      let w = ap (λ p. p.1) z ∙ get_or_default ws (length xs) x.1.now [] l in
      (omega (arith, ap (λ p. p.0) z), l, ap number_of (sym w) ∙ sym n)

  pub all_read : r ≡ None → length xs ≡ length ws
  all_read e = (YieldsList-end road xs t y r u e p).1 ∙ length-enumerate_from 0 ws

-- The words from word k on, as the library cuts them.
pub from_word :
    (line : List ℕ) (k : ℕ) {S : Type 0} {steps : S → Option (ℕ × Bor (List ℕ)) → S → Type 0} {s : S}
    → Reads steps s (drop k (slice_split (λ b. eqb b 32) line)) → Reads steps s (drop k (words_of line))
from_word line k road = rw (split_is 32 line) at road

-- ---- numbers

not_empty : (w : List ℕ) {x : ℕ} → number_of w ≡ Some x → 0 < length w
not_empty [] e = let z : ◌≡◌ {A = ℕ} 0 1 = cc in omega arith
not_empty (b ∷ bs) e = omega arith

-- What a first word adds, read as r.
module _ (w : List ℕ) (ws : List (List ℕ)) {r : Option ℕ} (e : number_of w ≡ r) where
  all_first : all_numbers (w ∷ ws) ≡ if_number r (λ n. all_numbers ws) false
  unfolding all_numbers
  all_first = ap (λ r. if_number r (λ n. all_numbers ws) false) e

  in_first : numbers_in (w ∷ ws) ≡ if_number r (λ n. n ∷ numbers_in ws) []
  unfolding numbers_in
  in_first = ap (λ r. if_number r (λ n. n ∷ numbers_in ws) []) e

-- n numbers stand in the list, and what is left makes the same answer. A number is a digit and a space at least.
pub record Listing (ws : List (List ℕ)) (into₀ into : List ℕ) (n : ℕ) : Type 0 where
  pub twice : 2 * n ≤ sum_by weight (take n ws)
  pub good : all_numbers (drop n ws) ≡ all_numbers ws
  pub list : sets into n (numbers_in (drop n ws)) ≡ sets into₀ 0 (numbers_in ws)

-- What reading promises.
abbrev pub Promise : List (List ℕ) → List ℕ → List ℕ → Option ℕ → Type 0
Promise ws into₀ into r = (r ≡ list_read ws) × (into ≡ sets into₀ 0 (numbers_in ws)) × (list_count r ≤ length into₀)

pub begins : (ws : List (List ℕ)) (into : List ℕ) → Listing ws into into 0
begins ws into = record { twice = omega arith; good = refl; list = refl }

module _ {ws : List (List ℕ)} {into₀ into : List ℕ} {n : ℕ} (g : Listing ws into₀ into n) where
  module _ (h : n < length ws) where
    opened : drop n ws ≡ get_or ws n [] ∷ drop (suc n) ws
    opened = drop-cons ws n [] h

    pub no_number : number_of (get_or ws n []) ≡ None → Promise ws into₀ into None
    no_number e =
        let x : all_numbers ws ≡ false = sym g.good ∙ ap all_numbers opened ∙ all_first (get_or ws n []) (drop (suc n) ws) e in
        let y : numbers_in (drop n ws) ≡ [] = ap numbers_in opened ∙ in_first (get_or ws n []) (drop (suc n) ws) e in
        (rw x refl, (rw y at g.list), omega arith)

    module _ {x : ℕ} (e : number_of (get_or ws n []) ≡ Some x) where
      more : 2 * (n + 1) ≤ sum_by weight (take (n + 1) ws)
      more = omega (arith, g.twice, not_empty (get_or ws n []) e, sum_by_more weight ws n [] h)

      pub room : sum_by weight ws ≤ 2 * length into₀ + 1 → n < length into₀
      room l = omega (arith, more, sum_by-take-le weight ws (n + 1))

      pub goes_on : Listing ws into₀ (set into n x) (n + 1)
      goes_on =
          record {
            twice = more;
            good = rw (add-one n) (sym (all_first (get_or ws n []) (drop (suc n) ws) e) ∙ ap all_numbers (sym opened) ∙ g.good);
            list =
                rw (add-one n)
                (ap (sets into n) (sym (in_first (get_or ws n []) (drop (suc n) ws) e) ∙ ap numbers_in (sym opened)) ∙ g.list);
          }

  pub ends : n ≡ length ws → sum_by weight ws ≤ 2 * length into₀ + 1 → Promise ws into₀ into (Some n)
  unfolding all_numbers numbers_in
  ends z l =
      let e : drop n ws ≡ [] = rw z (drop-length ws) in
      let x : all_numbers ws ≡ true = sym g.good ∙ ap all_numbers e in
      (rw (x, z) refl, (rw e at g.list), omega (arith, g.twice, sum_by-take-le weight ws n))
