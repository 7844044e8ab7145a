-- Reading, step by step: each row refuses in its turn, and what passes is loaded. Assumes nothing.
use Prim.Native.Nat.{ℕ, ◌+◌, ◌-◌, ◌*◌, ◌≤◌}
use mathlib.Core.Path.{◌≡◌, refl, sym, ap, ◌∙◌}
use mathlib.Core.Bool.{true, false}
use mathlib.Core.List.{List}
use native.Mathlib.Omega.{arith}
use lib.Dec.{eqb}
use lib.ListN.{length, take, drop, length-drop}
use lib.Seq.{take_all}
use borrow.Author.Tests.{eq-eqb, ne_eqb}
use Rattle.types.specs.declared.Refusal.{Refusal}
use Rattle.types.specs.declared.Refusal.TheVariants.{TableLength, RegisterMalformed, RoutesMalformed}
use Rattle.types.specs.Rows.{or_else, first_given}
use Rattle.types.proofs.Clashes.{clash}
use Rattle.table.specs.Table.{pad}
use Rattle.register.specs.Register.{register_words, record_width, register_ok}
use Rattle.ledger.specs.Routes.{ledger_words, route_width, ledger_ok}
use Rattle.snapshot.specs.Snapshot.{word_bytes, words_in, contents_bytes, used_bytes, register_bytes, ledger_bytes, register_in, ledger_in, register_in_ok, ledger_in_ok}
use Rattle.snapshot.specs.Calls.{contents_rows, body_rows, read_rows, reading, read_unless, read_effect}
use Rattle.snapshot.specs.Helpers.{answer_by, Loadable}
use Rattle.snapshot.proofs.Accepting.{cut, rows_left}
use Rattle.snapshot.proofs.Parts.{first_part, second_part, long_first_part, long_second_part}
use Rattle.std.specs.Prelude.{Err, None, Ok, Option, Some}

-- ---- the rows

module _ (file reg led : List ℕ) where
  refuses : (x : Refusal) → first_given (read_rows file reg led) ≡ Some x → reading (Err x) reg led ≡ read_effect file reg led
  unfolding read_effect
  refuses x e = rw e

  pub register_length_wrong : (length reg ≡ register_words → ⊥) → reading (Err TableLength) reg led ≡ read_effect file reg led
  unfolding first_given
  register_length_wrong h = refuses TableLength (rw (ne_eqb (length reg) register_words h))

  module _ (n : length reg ≡ register_words) where
    pub ledger_length_wrong : (length led ≡ ledger_words → ⊥) → reading (Err TableLength) reg led ≡ read_effect file reg led
    unfolding first_given
    ledger_length_wrong h = refuses TableLength (rw (eq-eqb (length reg) register_words n, ne_eqb (length led) ledger_words h))

    module _ (m : length led ≡ ledger_words) where
      -- What the check of the contents says.
      pub contents_refused : (x : Refusal) → Err x ≡ answer_by (first_given (contents_rows file))
          → reading (Err x) reg led ≡ read_effect file reg led
      contents_refused x e = refuses x (rows_left file reg led n m ∙ go (first_given (contents_rows file)) e)
        where
          go : (o : Option Refusal) → Err x ≡ answer_by o → or_else o (first_given (body_rows file)) ≡ Some x
          go (Some y) h = cc
          go None h = clash (cc)

      pub loadable : Ok tt ≡ answer_by (first_given (contents_rows file)) → Loadable file reg led
      loadable e = go (first_given (contents_rows file)) refl e
        where
          go : (o : Option Refusal) → first_given (contents_rows file) ≡ o → Ok tt ≡ answer_by o → Loadable file reg led
          go (Some y) q h = clash (cc)
          go None q h = record { register_long = n; ledger_long = m; passed = q }

  module _ (l : Loadable file reg led) where
    body_left : first_given (read_rows file reg led) ≡ first_given (body_rows file)
    body_left = rows_left file reg led l.register_long l.ledger_long ∙ ap (λ o. or_else o (first_given (body_rows file))) l.passed

    pub register_wrong : register_in_ok file ≡ false → reading (Err RegisterMalformed) reg led ≡ read_effect file reg led
    unfolding first_given
    register_wrong h = refuses RegisterMalformed (body_left ∙ rw h)

    module _ (k : register_in_ok file ≡ true) where
      pub ledger_wrong : ledger_in_ok file ≡ false → reading (Err RoutesMalformed) reg led ≡ read_effect file reg led
      unfolding first_given
      ledger_wrong h = refuses RoutesMalformed (body_left ∙ rw (k, h))

      pub loaded : ledger_in_ok file ≡ true → {reg' led' : List ℕ} → reg' ≡ register_in file → led' ≡ ledger_in file
          → reading (Ok tt) reg' led' ≡ read_effect file reg led
      unfolding read_effect first_given
      loaded h e f =
          let p : first_given (read_rows file reg led) ≡ None = body_left ∙ rw (k, h) in
          (λ i. reading (Ok tt) (e i) (f i)) ∙ ap (λ o. read_unless o file reg led) (sym p)

-- ---- the tables of a file, as the code cuts and unpacks them

module _ (file : List ℕ) (q : first_given (contents_rows file) ≡ None) (r : ℕ) (f : r ≡ register_bytes file) where
  pub first_cut : take (contents_bytes + r - contents_bytes) (drop contents_bytes file) ≡ first_part file
  first_cut = let e : contents_bytes + r - contents_bytes ≡ register_bytes file = omega arith in ap (λ n. take n (drop contents_bytes file)) e

  pub second_cut : take (length file - (contents_bytes + r)) (drop (contents_bytes + r) file) ≡ second_part file
  second_cut = take_all (length file - (contents_bytes + r)) (drop (contents_bytes + r) file) (simp length-drop (omega arith)) ∙ ap (λ n. drop (contents_bytes + n) file) f

  -- The register's bytes fit its table, and unpacked they are the file's register.
  pub first_fits : length (take (contents_bytes + r - contents_bytes) (drop contents_bytes file)) ≤ word_bytes * register_words
  first_fits = omega (arith, ap length first_cut, long_first_part file (cut file q), (cut file q).first_fits.fits)

  pub register_unpacked : {table : List ℕ} → table ≡ pad register_words (words_in (take (contents_bytes + r - contents_bytes) (drop contents_bytes file)))
      → table ≡ register_in file
  unfolding register_in
  register_unpacked e = e ∙ ap (λ part. pad register_words (words_in part)) first_cut

  -- Row 2, as the code tests it.
  module _ {table : List ℕ} (e : table ≡ register_in file) where
    pub register_unformed : register_ok table ≡ false → register_in_ok file ≡ false
    register_unformed h = rw (← e, h)

    pub register_other : register_ok table ≡ true → eqb (used_bytes record_width table) r ≡ false → register_in_ok file ≡ false
    register_other h k = rw (← e, ← f, h, k)

    pub register_passes : register_ok table ≡ true → eqb (used_bytes record_width table) r ≡ true → register_in_ok file ≡ true
    register_passes h k = rw (← e, ← f, h, k)

  -- Likewise the ledger's.
  pub second_fits : length (take (length file - (contents_bytes + r)) (drop (contents_bytes + r) file)) ≤ word_bytes * ledger_words
  second_fits = omega (arith, ap length second_cut, long_second_part file (cut file q), (cut file q).second_fits.fits)

  pub ledger_unpacked : {table : List ℕ} → table ≡ pad ledger_words (words_in (take (length file - (contents_bytes + r)) (drop (contents_bytes + r) file)))
      → table ≡ ledger_in file
  unfolding ledger_in
  ledger_unpacked e = e ∙ ap (λ part. pad ledger_words (words_in part)) second_cut

  -- Row 3.
  module _ {table : List ℕ} (e : table ≡ ledger_in file) where
    pub ledger_unformed : ledger_ok table ≡ false → ledger_in_ok file ≡ false
    ledger_unformed h = rw (← e, h)

    module _ {l : ℕ} (u : l ≡ ledger_bytes file) where
      pub ledger_other : ledger_ok table ≡ true → eqb (used_bytes route_width table) l ≡ false → ledger_in_ok file ≡ false
      ledger_other h k = rw (← e, ← u, h, k)

      pub ledger_passes : ledger_ok table ≡ true → eqb (used_bytes route_width table) l ≡ true → ledger_in_ok file ≡ true
      ledger_passes h k = rw (← e, ← u, h, k)
