-- The rows of a reading: what a file that is accepted passed, and that what passes is accepted. Assumes nothing.
use Prim.Native.Nat.{ℕ, ◌+◌, ◌*◌, ◌%◌, ◌≤◌}
use mathlib.Core.Path.{◌≡◌, refl, sym, ap, ◌∙◌}
use mathlib.Core.Bool.{Bool, true, false, not, ◌&&◌, and-eq-true_iff}
use mathlib.Core.List.{List}
use lib.Dec.{leb, ltb, eqb}
use lib.ListN.{length}
use borrow.Author.Tests.{eqb-true, leb-true, ltb-false, eq-eqb, le-leb, le-ltb, not-false}
use Rattle.types.specs.declared.Refusal.{Refusal}
use Rattle.types.specs.declared.Refusal.TheVariants.{RegisterMalformed, RoutesMalformed, Edition, Contents, SnapshotLength}
use Rattle.types.specs.Rows.{row_if, length_row, or_else, first_given}
use Rattle.types.proofs.Clashes.{some_not_none}
use Rattle.types.proofs.Refusing.{accepted_none, row_passed}
use Rattle.rules.proofs.Judges.{first_append}
use Rattle.register.specs.Register.{register_words, record_width, register_ok}
use Rattle.ledger.specs.Routes.{ledger_words, route_width, ledger_ok}
use Rattle.snapshot.specs.Snapshot.{word_bytes, contents_bytes, edition, used_bytes, field, register_bytes, ledger_bytes, length_ok, contents_ok, length_in, register_in, ledger_in, register_in_ok, ledger_in_ok}
use Rattle.snapshot.specs.Calls.{contents_rows, body_rows, read_rows}
use Rattle.std.specs.Prelude.{None, Option, Some}

-- What `if !f()` says of what f ensures.
pub told : {a b : Bool} → a ≡ b → a ≡ true → b ≡ true
told e h = sym e ∙ h

pub denied : {a b : Bool} → a ≡ b → a ≡ false → b ≡ false
denied e h = sym e ∙ h

-- A test whose row is not given passes.
pub passed : (b : Bool) (r : Refusal) → row_if (not b) r ≡ None → b ≡ true
passed b r e = not-false b (row_passed (not b) r e)

both : {a b : Bool} → a ≡ true → b ≡ true → (a && b) ≡ true
both p q = rw (p, q)

-- ---- lengths

pub record Fits (bytes most : ℕ) : Type 0 where
  pub two : 8 ≤ bytes
  pub whole : bytes % word_bytes ≡ 0
  pub fits : bytes ≤ word_bytes * most

length_told : (bytes most : ℕ) → length_ok bytes most ≡ true → Fits bytes most
unfolding length_ok
length_told bytes most e =
    let p = (and-eq-true_iff (leb 8 bytes) (eqb (bytes % word_bytes) 0 && leb bytes (word_bytes * most))).0 e in
    let q = (and-eq-true_iff (eqb (bytes % word_bytes) 0) (leb bytes (word_bytes * most))).0 p.1 in
    record { two = leb-true 8 bytes p.0; whole = eqb-true (bytes % word_bytes) 0 q.0; fits = leb-true bytes (word_bytes * most) q.1 }

length-ok : (bytes most : ℕ) → Fits bytes most → length_ok bytes most ≡ true
unfolding length_ok
length-ok bytes most l = both (le-leb 8 bytes l.two) (both (eq-eqb (bytes % word_bytes) 0 l.whole) (le-leb bytes (word_bytes * most) l.fits))

-- ---- the contents

-- What a file is that passed the rows before 2.
pub record Cut (file : List ℕ) : Type 0 where
  pub long : contents_bytes ≤ length file
  pub is_edition : field file 0 ≡ edition
  pub first_start : field file 1 ≡ contents_bytes
  pub first_fits : Fits (register_bytes file) register_words
  pub second_start : field file 3 ≡ contents_bytes + register_bytes file
  pub second_fits : Fits (ledger_bytes file) ledger_words
  pub whole : length file ≡ length_in file

contents-ok : (file : List ℕ) → Cut file → contents_ok file ≡ true
unfolding contents_ok
contents-ok file a =
    both (eq-eqb (field file 1) contents_bytes a.first_start)
    (both (length-ok (register_bytes file) register_words a.first_fits)
    (both (eq-eqb (field file 3) (contents_bytes + register_bytes file) a.second_start) (length-ok (ledger_bytes file) ledger_words a.second_fits)))

pub cut_passes : (file : List ℕ) → Cut file → first_given (contents_rows file) ≡ None
unfolding first_given
cut_passes file a =
    rw (
      le-ltb (length file) contents_bytes a.long,
      eq-eqb (field file 0) edition a.is_edition,
      contents-ok file a,
      eq-eqb (length file) (length_in file) a.whole,
    )

pub cut : (file : List ℕ) → first_given (contents_rows file) ≡ None → Cut file
unfolding contents_ok
cut file e =
    let row = accepted_none (contents_rows file) e in
    let l₁ = length_ok (register_bytes file) register_words in
    let l₂ = length_ok (ledger_bytes file) ledger_words in
    let s = eqb (field file 3) (contents_bytes + register_bytes file) in
    let c₁ = (and-eq-true_iff (eqb (field file 1) contents_bytes) (l₁ && (s && l₂))).0 (passed (contents_ok file) Contents (row 2)) in
    let c₂ = (and-eq-true_iff l₁ (s && l₂)).0 c₁.1 in
    let c₃ = (and-eq-true_iff s l₂).0 c₂.1 in
    record {
      long = ltb-false (length file) contents_bytes (row_passed (ltb (length file) contents_bytes) SnapshotLength (row 0));
      is_edition = eqb-true (field file 0) edition (passed (eqb (field file 0) edition) Edition (row 1));
      first_start = eqb-true (field file 1) contents_bytes c₁.0;
      first_fits = length_told (register_bytes file) register_words c₂.0;
      second_start = eqb-true (field file 3) (contents_bytes + register_bytes file) c₃.0;
      second_fits = length_told (ledger_bytes file) ledger_words c₃.1;
      whole = eqb-true (length file) (length_in file) (passed (eqb (length file) (length_in file)) SnapshotLength (row 3));
    }

-- ---- the whole file

-- What an accepted file is.
pub record Accepted (file : List ℕ) : Type 0 where
  pub parts : Cut file
  pub register-ok : register_ok (register_in file) ≡ true
  pub register_used : used_bytes record_width (register_in file) ≡ register_bytes file
  pub ledger-ok : ledger_ok (ledger_in file) ≡ true
  pub ledger_used : used_bytes route_width (ledger_in file) ≡ ledger_bytes file

body_passes : (file : List ℕ) → Accepted file → first_given (body_rows file) ≡ None
unfolding first_given
body_passes file a =
    rw (
      a.register-ok,
      eq-eqb (used_bytes record_width (register_in file)) (register_bytes file) a.register_used,
      a.ledger-ok,
      eq-eqb (used_bytes route_width (ledger_in file)) (ledger_bytes file) a.ledger_used,
    )

body_told : (file : List ℕ) → Cut file → first_given (body_rows file) ≡ None → Accepted file
body_told file p e =
    let row = accepted_none (body_rows file) e in
    let r = (and-eq-true_iff (register_ok (register_in file)) (eqb (used_bytes record_width (register_in file)) (register_bytes file))).0
    (passed (register_in_ok file) RegisterMalformed (row 0)) in
    let l = (and-eq-true_iff (ledger_ok (ledger_in file)) (eqb (used_bytes route_width (ledger_in file)) (ledger_bytes file))).0
    (passed (ledger_in_ok file) RoutesMalformed (row 1)) in
    record {
      parts = p;
      register-ok = r.0;
      register_used = eqb-true (used_bytes record_width (register_in file)) (register_bytes file) r.1;
      ledger-ok = l.0;
      ledger_used = eqb-true (used_bytes route_width (ledger_in file)) (ledger_bytes file) l.1;
    }

-- ---- all rows of a reading

rows_are : (file reg led : List ℕ)
    → first_given (read_rows file reg led)
    ≡ or_else (length_row register_words reg) (or_else (length_row ledger_words led) (or_else (first_given (contents_rows file)) (first_given (body_rows file))))
unfolding first_given
rows_are file reg led =
    ap (λ o. or_else (length_row register_words reg) (or_else (length_row ledger_words led) o)) (first_append (contents_rows file) (body_rows file))

-- What is left of them for tables of the right lengths.
pub rows_left : (file reg led : List ℕ) → length reg ≡ register_words → length led ≡ ledger_words
    → first_given (read_rows file reg led) ≡ or_else (first_given (contents_rows file)) (first_given (body_rows file))
rows_left file reg led n m = rows_are file reg led ∙ rw (eq-eqb (length reg) register_words n, eq-eqb (length led) ledger_words m)

pub read_passes : (file reg led : List ℕ) → length reg ≡ register_words → length led ≡ ledger_words → Accepted file
    → first_given (read_rows file reg led) ≡ None
read_passes file reg led n m a = rows_left file reg led n m ∙ rw (cut_passes file a.parts, body_passes file a)

neither : (a b : Option Refusal) → or_else a b ≡ None → (a ≡ None) × (b ≡ None)
neither (Some r) b e = some_not_none e
neither None b e = (refl, e)

pub read_passed : (file reg led : List ℕ) → first_given (read_rows file reg led) ≡ None → Accepted file
read_passed file reg led e =
    let p = neither (length_row register_words reg) _ (sym (rows_are file reg led) ∙ e) in
    let q = neither (length_row ledger_words led) _ p.1 in
    let r = neither (first_given (contents_rows file)) (first_given (body_rows file)) q.1 in
    body_told file (cut file r.0) r.1
