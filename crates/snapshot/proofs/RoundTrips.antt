-- Writing and reading undo each other. Assumes nothing.
use Prim.Native.Nat.{ℕ, ◌+◌, ◌*◌}
use mathlib.Core.Path.{◌≡◌, refl, sym, ap, ◌∙◌}
use mathlib.Core.List.{List, [], ◌∷◌, ◌++◌}
use native.Mathlib.Omega.{arith}
use lib.ListN.{length, take, drop, get_or, length-append, take-append-drop}
use lib.Seq.{take_at, drop_at, drop-drop}
use Rattle.table.specs.Table.{pad}
use Rattle.register.specs.Register.{register_words, record_width}
use Rattle.ledger.specs.Routes.{ledger_words, route_width}
use Rattle.snapshot.specs.Snapshot.{FormedTables, word_bytes, bytes_of, words_in, Bytes, contents_bytes, used_count, used_bytes, used, contents_of, snapshot_of, field, register_bytes, ledger_bytes, register_in, ledger_in}
use Rattle.snapshot.specs.Calls.{reading, read_unless, read_effect}
use Rattle.snapshot.proofs.Bytewise.{words_bytes, bytes_words, length_bytes, length_words, bytes_take, bytes_drop}
use Rattle.snapshot.proofs.Padding.{Filled, take_pad, register_filled, ledger_filled}
use Rattle.snapshot.proofs.Parts.{head_part, first_part, second_part, long_head_part, long_first_part, long_second_part, words_first, words_second, register_long, ledger_long}
use Rattle.snapshot.proofs.Accepting.{Accepted, read_passes}
use Rattle.std.specs.Prelude.{Ok}

-- ---- a file that was written

pub length_contents : (r l : ℕ) → length (bytes_of (contents_of r l)) ≡ contents_bytes
length_contents r l = length_bytes (contents_of r l)

-- The three parts of a snapshot.
abbrev pub head : List ℕ → List ℕ → List ℕ
head reg led = contents_of (used_bytes record_width reg) (used_bytes route_width led)

abbrev pub register_part : List ℕ → List ℕ
register_part reg = bytes_of (used record_width reg)

abbrev pub ledger_part : List ℕ → List ℕ
ledger_part led = bytes_of (used route_width led)

module _ (reg led : List ℕ) (t : FormedTables reg led) where
  pub first : Filled record_width reg
  first = register_filled reg t.register-ok

  pub second : Filled route_width led
  second = ledger_filled led t.ledger-ok

  pub long_first : length (register_part reg) ≡ used_bytes record_width reg
  long_first = length_bytes (used record_width reg) ∙ ap (λ n. word_bytes * n) first.long

  pub long_second : length (ledger_part led) ≡ used_bytes route_width led
  long_second = length_bytes (used route_width led) ∙ ap (λ n. word_bytes * n) second.long

  pub long : length (snapshot_of reg led) ≡ contents_bytes + used_bytes record_width reg + used_bytes route_width led
  unfolding snapshot_of
  long =
      omega (
        arith,
        length-append (bytes_of (head reg led)) (register_part reg ++ ledger_part led),
        length-append (register_part reg) (ledger_part led),
        length_contents (used_bytes record_width reg) (used_bytes route_width led),
        long_first,
        long_second,
      )

  field_is : (i : ℕ) → field (snapshot_of reg led) i ≡ get_or (head reg led) i 0
  unfolding field snapshot_of
  field_is i =
      ap (λ l. get_or (words_in l) i 0)
      (take_at (bytes_of (head reg led)) (register_part reg ++ ledger_part led) contents_bytes (length_contents (used_bytes record_width reg) (used_bytes route_width led)))
      ∙ ap (λ l. get_or l i 0) (words_bytes (head reg led))

  behind : drop contents_bytes (snapshot_of reg led) ≡ register_part reg ++ ledger_part led
  unfolding snapshot_of
  behind = drop_at (bytes_of (head reg led)) _ contents_bytes (length_contents (used_bytes record_width reg) (used_bytes route_width led))

  -- The file holds the register, all of it, and the ledger.
  register_back : register_in (snapshot_of reg led) ≡ reg
  unfolding register_in
  register_back =
      (λ i. pad register_words (words_in (take (field_is 2 i) (behind i))))
      ∙ ap (λ l. pad register_words (words_in l)) (take_at (register_part reg) (ledger_part led) (used_bytes record_width reg) long_first)
      ∙ (λ i. pad (sym t.register_long i) (words_bytes (used record_width reg) i))
      ∙ first.whole

  ledger_back : ledger_in (snapshot_of reg led) ≡ led
  unfolding ledger_in
  ledger_back =
      (λ i. pad ledger_words (words_in (drop (contents_bytes + field_is 2 i) (snapshot_of reg led))))
      ∙ ap (λ l. pad ledger_words (words_in l))
      (sym (drop-drop (used_bytes record_width reg) contents_bytes (snapshot_of reg led))
      ∙ ap (drop (used_bytes record_width reg)) behind
      ∙ drop_at (register_part reg) (ledger_part led) (used_bytes record_width reg) long_first)
      ∙ (λ i. pad (sym t.ledger_long i) (words_bytes (used route_width led) i))
      ∙ second.whole

  written_accepted : Accepted (snapshot_of reg led)
  written_accepted =
      let f₂ : register_bytes (snapshot_of reg led) ≡ used_bytes record_width reg = field_is 2 in
      let f₄ : ledger_bytes (snapshot_of reg led) ≡ used_bytes route_width led = field_is 4 in
      record {
        parts =
            record {
              long = omega (arith, long);
              is_edition = field_is 0;
              first_start = field_is 1;
              first_fits = rw f₂ (record { two = omega (arith, first.two); whole = omega arith; fits = omega (arith, first.within, t.register_long) });
              second_start = field_is 3 ∙ ap (λ n. contents_bytes + n) (sym f₂);
              second_fits = rw f₄ (record { two = omega (arith, second.two); whole = omega arith; fits = omega (arith, second.within, t.ledger_long) });
              whole = long ∙ (λ i. contents_bytes + sym f₂ i + sym f₄ i);
            };
        register-ok = rw register_back t.register-ok;
        register_used = (rw register_back (sym f₂));
        ledger-ok = rw ledger_back t.ledger-ok;
        ledger_used = (rw ledger_back (sym f₄));
      }

  pub written_again : (reg₀ led₀ : List ℕ) → length reg₀ ≡ register_words → length led₀ ≡ ledger_words
      → read_effect (snapshot_of reg led) reg₀ led₀ ≡ reading (Ok tt) reg led
  unfolding read_effect
  written_again reg₀ led₀ e f =
      ap (λ o. read_unless o (snapshot_of reg led) reg₀ led₀) (read_passes (snapshot_of reg led) reg₀ led₀ e f written_accepted)
      ∙ (λ i. reading (Ok tt) (register_back i) (ledger_back i))

-- ---- a file that was read

five : (ws : List ℕ) → length ws ≡ 5 → ws ≡ get_or ws 0 0 ∷ (get_or ws 1 0 ∷ (get_or ws 2 0 ∷ (get_or ws 3 0 ∷ (get_or ws 4 0 ∷ []))))
five [] e = absurd (omega arith)
five (a ∷ []) e = absurd (omega arith)
five (a ∷ (b ∷ [])) e = absurd (omega arith)
five (a ∷ (b ∷ (c ∷ []))) e = absurd (omega arith)
five (a ∷ (b ∷ (c ∷ (d ∷ [])))) e = absurd (omega arith)
five (a ∷ (b ∷ (c ∷ (d ∷ (x ∷ []))))) e = refl
five (a ∷ (b ∷ (c ∷ (d ∷ (x ∷ (y ∷ ws)))))) e = absurd (omega arith)

module _ (file : List ℕ) (a : Accepted file) where
  parts : head_part file ++ (first_part file ++ second_part file) ≡ file
  parts =
      ap (λ l. head_part file ++ (first_part file ++ l)) (sym (drop-drop (register_bytes file) contents_bytes file))
      ∙ ap (λ l. head_part file ++ l) (take-append-drop (register_bytes file) (drop contents_bytes file))
      ∙ take-append-drop contents_bytes file

  used_first : used record_width (register_in file) ≡ words_in (first_part file)
  unfolding register_in
  used_first = take_pad register_words (words_in (first_part file)) (used_count record_width (register_in file)) (omega (arith, words_first file a.parts, a.register_used))

  used_second : used route_width (ledger_in file) ≡ words_in (second_part file)
  unfolding ledger_in
  used_second = take_pad ledger_words (words_in (second_part file)) (used_count route_width (ledger_in file)) (omega (arith, words_second file a.parts, a.ledger_used))

  pub read_tables : FormedTables (register_in file) (ledger_in file)
  read_tables = record {
    register_long = register_long file a.parts;
    register-ok = a.register-ok;
    ledger_long = ledger_long file a.parts;
    ledger-ok = a.ledger-ok;
  }

  contents_are : head (register_in file) (ledger_in file) ≡ words_in (head_part file)
  unfolding field
  contents_are =
      let w : List ℕ = words_in (head_part file) in
      let l : word_bytes * length w ≡ contents_bytes = length_words (head_part file) (rw (long_head_part file a.parts) refl) ∙ long_head_part file a.parts in
      (λ i. sym a.parts.is_edition i
      ∷ (sym a.parts.first_start i
      ∷ (a.register_used i
      ∷ ((ap (λ n. contents_bytes + n) a.register_used ∙ sym a.parts.second_start) i ∷ (a.ledger_used i ∷ [])))))
      ∙ sym (five w (omega arith))

  pub written_back : Bytes file → snapshot_of (register_in file) (ledger_in file) ≡ file
  unfolding snapshot_of
  written_back h =
      (λ i. bytes_of (contents_are i) ++ (bytes_of (used_first i) ++ bytes_of (used_second i)))
      ∙ (λ i. bytes_words (head_part file) (rw (long_head_part file a.parts) refl) (bytes_take file contents_bytes h) i
      ++ (bytes_words (first_part file) (rw (long_first_part file a.parts) a.parts.first_fits.whole) (bytes_take (drop contents_bytes file) (register_bytes file) (bytes_drop file contents_bytes h)) i
      ++ bytes_words (second_part file) (rw (long_second_part file a.parts) a.parts.second_fits.whole) (bytes_drop file (contents_bytes + register_bytes file) h) i))
      ∙ parts
