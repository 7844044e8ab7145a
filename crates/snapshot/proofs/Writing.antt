-- Writing: the file is put together in the output, and each row refuses in its turn. Assumes nothing.
use Prim.Native.Nat.{ℕ, ◌+◌, ◌*◌, ◌≤◌, ◌<◌}
use mathlib.Core.Path.{◌≡◌, refl, sym, ap, ◌∙◌}
use mathlib.Core.Bool.{true, false}
use mathlib.Core.List.{List, ◌++◌, append_assoc}
use native.Mathlib.Omega.{arith}
use lib.ListN.{length, take, drop, length-append}
use lib.Seq.{drop-drop}
use borrow.Author.Tests.{eq-eqb, ne_eqb, lt-ltb, le-ltb}
use Rattle.types.specs.declared.Refusal.{Refusal}
use Rattle.types.specs.declared.Refusal.TheVariants.{TableLength, RegisterMalformed, RoutesMalformed, OutputLength}
use Rattle.types.specs.Rows.{first_given, effect, unless_refused}
use Rattle.register.specs.Register.{register_words, record_width, register_ok}
use Rattle.ledger.specs.Routes.{ledger_words, route_width, ledger_ok}
use Rattle.snapshot.specs.Snapshot.{FormedTables, word_bytes, bytes_of, contents_bytes, used_count, contents_of, snapshot_of}
use Rattle.snapshot.specs.Calls.{write_rows, over, write_effect}
use Rattle.snapshot.specs.Helpers.{file_of}
use Rattle.snapshot.proofs.Bytewise.{length_bytes}
use Rattle.snapshot.proofs.RoundTrips.{first, second, long}
use Rattle.std.specs.Prelude.{Err, None, Ok, Some}

-- ---- the file in the output

-- Three parts that are written one behind the other are the file.
pub emitted :
    (reg led out : List ℕ) {head first second rest : List ℕ}
    → head ≡ bytes_of (contents_of (word_bytes * length reg) (word_bytes * length led)) → first ≡ bytes_of reg → second ≡ bytes_of led
    → rest ≡ drop (word_bytes * length reg) (drop contents_bytes out)
    → head ++ (first ++ (second ++ drop (word_bytes * length led) rest)) ≡ over (file_of reg led) out
unfolding file_of
emitted reg led out a b c e =
    (λ i. a i ++ (b i ++ (c i ++ drop (word_bytes * length led) (e i))))
    ∙ ap (λ t. head ++ (bytes_of reg ++ (bytes_of led ++ t))) behind
    ∙ sym (append_assoc head (bytes_of reg ++ bytes_of led) _ ∙ ap (λ t. head ++ t) (append_assoc (bytes_of reg) (bytes_of led) _))
  where
    head : List ℕ
    head = bytes_of (contents_of (word_bytes * length reg) (word_bytes * length led))

    long : word_bytes * length reg + word_bytes * length led + contents_bytes ≡ length (head ++ (bytes_of reg ++ bytes_of led))
    long =
        omega (
          arith,
          length-append head (bytes_of reg ++ bytes_of led),
          length-append (bytes_of reg) (bytes_of led),
          length_bytes (contents_of (word_bytes * length reg) (word_bytes * length led)),
          length_bytes reg,
          length_bytes led,
        )

    behind :
        drop (word_bytes * length led) (drop (word_bytes * length reg) (drop contents_bytes out))
        ≡ drop (length (head ++ (bytes_of reg ++ bytes_of led))) out
    behind =
        drop-drop (word_bytes * length led) (word_bytes * length reg) (drop contents_bytes out)
        ∙ drop-drop (word_bytes * length reg + word_bytes * length led) contents_bytes out
        ∙ ap (λ n. drop n out) (omega (arith, long))

-- ---- the rows

module _ (reg led out : List ℕ) where
  refuses : (x : Refusal) → first_given (write_rows reg led out) ≡ Some x → effect (Err x) out ≡ write_effect reg led out
  unfolding write_effect
  refuses x e = rw e

  pub register_length_wrong : (length reg ≡ register_words → ⊥) → effect (Err TableLength) out ≡ write_effect reg led out
  unfolding first_given
  register_length_wrong h = refuses TableLength (rw (ne_eqb (length reg) register_words h))

  module _ (n : length reg ≡ register_words) where
    pub ledger_length_wrong : (length led ≡ ledger_words → ⊥) → effect (Err TableLength) out ≡ write_effect reg led out
    unfolding first_given
    ledger_length_wrong h = refuses TableLength (rw (eq-eqb (length reg) register_words n, ne_eqb (length led) ledger_words h))

    module _ (m : length led ≡ ledger_words) where
      pub register_wrong : register_ok reg ≡ false → effect (Err RegisterMalformed) out ≡ write_effect reg led out
      unfolding first_given
      register_wrong h = refuses RegisterMalformed (rw (eq-eqb (length reg) register_words n, eq-eqb (length led) ledger_words m, h))

      pub ledger_wrong : register_ok reg ≡ true → ledger_ok led ≡ false → effect (Err RoutesMalformed) out ≡ write_effect reg led out
      unfolding first_given
      ledger_wrong k h = refuses RoutesMalformed (rw (eq-eqb (length reg) register_words n, eq-eqb (length led) ledger_words m, k, h))

module _ (reg led out : List ℕ) (t : FormedTables reg led) where
  no_row : length (snapshot_of reg led) ≤ length out → first_given (write_rows reg led out) ≡ None
  unfolding first_given
  no_row h =
      rw (
        eq-eqb (length reg) register_words t.register_long,
        eq-eqb (length led) ledger_words t.ledger_long,
        t.register-ok,
        t.ledger-ok,
        le-ltb (length out) (length (snapshot_of reg led)) h,
      )

  pub short_row : length out < length (snapshot_of reg led) → first_given (write_rows reg led out) ≡ Some OutputLength
  unfolding first_given
  short_row h =
      rw (
        eq-eqb (length reg) register_words t.register_long,
        eq-eqb (length led) ledger_words t.ledger_long,
        t.register-ok,
        t.ledger-ok,
        lt-ltb (length out) (length (snapshot_of reg led)) h,
      )

  pub write_accepted : length (snapshot_of reg led) ≤ length out
      → write_effect reg led out ≡ effect (Ok (length (snapshot_of reg led))) (over (snapshot_of reg led) out)
  unfolding write_effect
  write_accepted h =
      ap
      (λ o. unless_refused o out (effect (Ok (length (snapshot_of reg led))) (over (snapshot_of reg led) out)))
      (no_row h)

  -- With r and l used words, as the code counts them.
  module _ {r l : ℕ} (e : r ≡ used_count record_width reg) (f : l ≡ used_count route_width led) where
    same : file_of (take r reg) (take l led) ≡ snapshot_of reg led
    unfolding file_of snapshot_of
    same = (λ i. file_of (take (e i) reg) (take (f i) led)) ∙ rw ((first reg led t).long, (second reg led t).long) refl

    bytes : contents_bytes + word_bytes * (r + l) ≡ length (snapshot_of reg led)
    bytes = omega (arith, long reg led t)

    pub short : length out < contents_bytes + word_bytes * (r + l) → effect (Err OutputLength) out ≡ write_effect reg led out
    short h = refuses reg led out OutputLength (short_row (omega (arith, bytes)))

    pub written_whole : contents_bytes + word_bytes * (r + l) ≤ length out → (out' : List ℕ) → out' ≡ over (file_of (take r reg) (take l led)) out
        → effect (Ok (contents_bytes + word_bytes * (r + l))) out' ≡ write_effect reg led out
    written_whole h out' g = (λ i. effect (Ok (bytes i)) ((g ∙ ap (λ file. over file out) same) i)) ∙ sym (write_accepted (omega (arith, bytes)))

pub tables : (reg led : List ℕ) → length reg ≡ register_words → length led ≡ ledger_words → register_ok reg ≡ true → ledger_ok led ≡ true → FormedTables reg led
tables reg led a b c d = record { register_long = a; register-ok = c; ledger_long = b; ledger-ok = d }
