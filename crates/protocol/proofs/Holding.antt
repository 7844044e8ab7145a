-- Tables that are lent with some of their words, after a command. Assumes nothing.
use Prim.Native.Nat.{ℕ, ◌+◌, ◌-◌, ◌≤◌}
use mathlib.Core.Path.{◌≡◌, sym, ap, ◌∙◌}
use mathlib.Core.List.{List, ◌++◌}
use native.Mathlib.Omega.{arith}
use lib.ListN.{length, take, drop, replicate, take-append-drop, length-replicate, replicate-append-replicate}
use lib.Seq.{length-take-le, take_at, drop_at}
use Rattle.table.specs.Table.{pad}
use Rattle.table.proofs.Tables.{length_pad}
use Rattle.calls.specs.Commands.{most_lent}
use Rattle.calls.specs.Performing.{resized}
use Rattle.protocol.specs.Feeding.{Held}

-- A table is lent with n words, which are xs.
pub record Lends (n : ℕ) (table xs : List ℕ) : Type 0 where
  pub held : Held n table
  pub words_are : take n table ≡ xs

pub lends : (n : ℕ) (table xs : List ℕ) → length xs ≡ n → n ≤ most_lent → table ≡ pad most_lent xs → Lends n table xs
unfolding pad
lends n table xs l h e =
    let t : take n table ≡ xs = ap (take n) e ∙ take_at xs (replicate (most_lent - length xs) 0) n l in
    record {
      held = record { size = ap length e ∙ length_pad most_lent xs (omega arith); within = h; rest = e ∙ ap (pad most_lent) (sym t) };
      words_are = t;
    }

-- The words that a table is lent with are as many.
pub lent_length : {n : ℕ} {table : List ℕ} → Held n table → n ≡ length (take n table)
lent_length {n = n} {table = table} h = sym (length-take-le n table (omega (arith, h.size, h.within)))

pub lent_within : {n : ℕ} {table : List ℕ} → Held n table → length (take n table) ≤ most_lent
lent_within h = omega (arith, lent_length h, h.within)

-- The words past those that are lent are zeros.
rest_zero : (n : ℕ) (table : List ℕ) → Held n table → drop n table ≡ replicate (most_lent - n) 0
unfolding pad
rest_zero n table h =
    let l : length (take n table) ≡ n = sym (lent_length h) in
    ap (drop n) h.rest ∙ drop_at (take n table) (replicate (most_lent - length (take n table)) 0) n l ∙ ap (λ k. replicate (most_lent - k) 0) l

-- The lent words changed.
pub lends_changed : (n : ℕ) (table xs : List ℕ) → Held n table → length xs ≡ n → Lends n (xs ++ drop n table) xs
unfolding pad
lends_changed n table xs h l =
    lends n (xs ++ drop n table) xs l h.within (ap (λ z. xs ++ z) (rest_zero n table h) ∙ ap (λ k. xs ++ replicate (most_lent - k) 0) (sym l))

-- Another number of words.
pub lends_resized : (n to : ℕ) (table : List ℕ) {cut : List ℕ} → Held n table → to ≤ most_lent → cut ≡ pad (length table) (take to table) → Lends to cut (resized to (take n table))
lends_resized n to table {cut = cut} h l e =
    lends to cut (take to (pad most_lent (take n table)))
    (ap (λ t. length (take to t)) (sym h.rest) ∙ length-take-le to table (omega (arith, h.size)))
    l
    (e ∙ (λ i. pad (h.size i) (take to (h.rest i))))

-- All zeros.
pub lends_zeros : (n : ℕ) (table : List ℕ) → n ≤ most_lent → table ≡ replicate most_lent 0 → Lends n table (replicate n 0)
unfolding pad
lends_zeros n table l e =
    let z : n + (most_lent - n) ≡ most_lent = omega arith in
    lends n table (replicate n 0) (length-replicate n 0) l
    (e
    ∙ ap (λ k. replicate k 0) (sym z)
    ∙ sym (replicate-append-replicate n (most_lent - n) 0)
    ∙ ap (λ k. replicate n 0 ++ replicate (most_lent - k) 0) (sym (length-replicate n 0)))

pub all_cut : (m : ℕ) (table : List ℕ) {cut : List ℕ} → Held m table → cut ≡ pad (length table) (take 0 table) → cut ≡ replicate most_lent 0
unfolding pad
all_cut m table h e = e ∙ ap (λ k. replicate (k - 0) 0) h.size

-- What is lent stays, so all does.
pub lent_stays : (n : ℕ) (table : List ℕ) {lent : List ℕ} → lent ≡ take n table → lent ++ drop n table ≡ table
lent_stays n table e = ap (λ l. l ++ drop n table) e ∙ take-append-drop n table
