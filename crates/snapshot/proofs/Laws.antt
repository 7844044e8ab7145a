-- What writing and reading promise together. Assumes nothing.
use Prim.Native.Nat.{ℕ, ◌≤◌, ◌<◌}
use mathlib.Core.Path.{◌≡◌, refl, sym, ap, ◌∙◌}
use mathlib.Core.Bool.{Bool, true, false, not}
use mathlib.Core.List.{List}
use mathlib.Core.Logic.{◌↔◌}
use native.Mathlib.Omega.{arith}
use lib.Dec.{ltb, eqb}
use lib.ListN.{length, take, drop, get_or}
use lib.Seq.{take_at, drop_at}
use borrow.Author.Tests.{eqb-true, ltb-true, ltb-false}
use Rattle.types.specs.declared.Refusal.{Refusal}
use Rattle.types.specs.declared.Refusal.TheVariants.{TableLength, RegisterMalformed, RoutesMalformed, OutputLength, Edition, Contents, SnapshotLength}
use Rattle.types.specs.Rows.{first_given, FirstAt, effect, unless_refused}
use Rattle.types.proofs.Clashes.{clash}
use Rattle.types.proofs.Refusing.{refusal_same, refused_first, first_refuses, accepted_none, none_accepted, answers_first, refusal_leaves, numbered}
use Rattle.register.specs.Register.{register_words, register_ok}
use Rattle.ledger.specs.Routes.{ledger_words, ledger_ok}
use Rattle.snapshot.specs.Snapshot.{FormedTables, bytes_of, contents_bytes, edition, snapshot_of, field, contents_ok, length_in, register_in, ledger_in, register_in_ok, ledger_in_ok}
use Rattle.snapshot.specs.Calls.{write_rows, over, write_effect, read_rows, reading, read_unless, read_effect}
use Rattle.snapshot.specs.Laws.{FullTables, RoundTrips, WriteLaws, ReadLaws, SnapshotLaws}
use Rattle.snapshot.proofs.Padding.{register_limits, ledger_limits}
use Rattle.snapshot.proofs.Accepting.{passed, Accepted, read_passed}
use Rattle.snapshot.proofs.RoundTrips.{first, second, long, written_again, read_tables, written_back}
use Rattle.snapshot.proofs.Writing.{short_row, write_accepted}
use Rattle.std.specs.Prelude.{Err, None, Ok, Option, Some}

-- ---- Write

-- An accepted writing passed every row.
pub record Wrote (reg led out : List ℕ) (n : ℕ) : Type 0 where
  pub tables : FormedTables reg led
  pub count : n ≡ length (snapshot_of reg led)
  pub bytes : (write_effect reg led out).words ≡ over (snapshot_of reg led) out

formed : (reg led out : List ℕ) → first_given (write_rows reg led out) ≡ None → FormedTables reg led
formed reg led out e =
    let row = accepted_none (write_rows reg led out) e in
    record {
      register_long = eqb-true (length reg) register_words (passed (eqb (length reg) register_words) TableLength (row 0));
      register-ok = passed (register_ok reg) RegisterMalformed (row 2);
      ledger_long = eqb-true (length led) ledger_words (passed (eqb (length led) ledger_words) TableLength (row 1));
      ledger-ok = passed (ledger_ok led) RoutesMalformed (row 3);
    }

wrote : (reg led out : List ℕ) (n : ℕ) → (write_effect reg led out).answer ≡ Ok n → Wrote reg led out n
unfolding write_effect
wrote reg led out n = go (first_given (write_rows reg led out)) refl
  where
    go : (o : Option Refusal) → first_given (write_rows reg led out) ≡ o
        → (unless_refused o out (effect (Ok (length (snapshot_of reg led))) (over (snapshot_of reg led) out))).answer ≡ Ok n
        → Wrote reg led out n
    go (Some r) e h = clash (cc)
    go None e h = record { tables = formed reg led out e; count = cc; bytes = rw e }

write_refused_first : (reg led out : List ℕ) (r : Refusal)
    → ((write_effect reg led out).answer ≡ Err r) ↔ ((i : ℕ) × FirstAt (write_rows reg led out) i r)
unfolding write_effect
write_refused_first reg led out r = answers_first (write_rows reg led out) out _ _ r

write_accepted_none : (reg led out : List ℕ)
    → ((write_effect reg led out).answer ≡ Ok (length (snapshot_of reg led))) ↔ ((i : ℕ) → get_or (write_rows reg led out) i None ≡ None)
unfolding write_effect
write_accepted_none reg led out = (λ h. accepted_none (write_rows reg led out) (to (first_given (write_rows reg led out)) h), λ h. rw (none_accepted (write_rows reg led out) h))
  where
    to : (o : Option Refusal)
        → (unless_refused o out (effect (Ok (length (snapshot_of reg led))) (over (snapshot_of reg led) out))).answer
        ≡ Ok (length (snapshot_of reg led))
        → o ≡ None
    to (Some r) h = clash (cc)
    to None h = refl

write_refused_leaves : (reg led out : List ℕ) (r : Refusal) → (write_effect reg led out).answer ≡ Err r → (write_effect reg led out).words ≡ out
unfolding write_effect
write_refused_leaves reg led out r h = refusal_leaves (write_rows reg led out) out _ _ r h

accepted_bytes : (reg led out : List ℕ) (n : ℕ) → (write_effect reg led out).answer ≡ Ok n
    → (take n (write_effect reg led out).words ≡ snapshot_of reg led) × (drop n (write_effect reg led out).words ≡ drop n out)
accepted_bytes reg led out n h =
    let w = wrote reg led out n h in
    let file : List ℕ = snapshot_of reg led in (
      ap (take n) w.bytes ∙ take_at file (drop (length file) out) n (sym w.count),
      ap (drop n) w.bytes ∙ drop_at file (drop (length file) out) n (sym w.count) ∙ ap (λ k. drop k out) (sym w.count),
    )

too_short : (reg led out : List ℕ) → FormedTables reg led
    → ((write_effect reg led out).answer ≡ Err OutputLength) ↔ (length out < length (snapshot_of reg led))
unfolding write_effect
too_short reg led out t = (to (ltb (length out) (length (snapshot_of reg led))) refl, λ h. rw (short_row reg led out t h))
  where
    fits : length (snapshot_of reg led) ≤ length out → (write_effect reg led out).answer ≡ Err OutputLength → length out < length (snapshot_of reg led)
    fits h e = let z = ap (λ s. s.answer) (write_accepted reg led out t h) in clash (cc)

    to : (b : Bool) → ltb (length out) (length (snapshot_of reg led)) ≡ b → (write_effect reg led out).answer ≡ Err OutputLength
        → length out < length (snapshot_of reg led)
    to true q e = ltb-true (length out) (length (snapshot_of reg led)) q
    to false q e = fits (ltb-false (length out) (length (snapshot_of reg led)) q) e

full : (reg led : List ℕ) → FormedTables reg led → (length (snapshot_of reg led) ≡ 100388) ↔ FullTables reg led
full reg led t = (to, λ f. omega (arith, long reg led t, f.records, f.listed, f.routes, f.path-words))
  where
    to : length (snapshot_of reg led) ≡ 100388 → FullTables reg led
    to e =
        let r = register_limits reg t.register-ok in
        let l = ledger_limits led t.ledger-ok in
        record {
          records = omega (arith, e, long reg led t, r.0, r.1, l.0, l.1);
          listed = omega (arith, e, long reg led t, r.0, r.1, l.0, l.1);
          routes = omega (arith, e, long reg led t, r.0, r.1, l.0, l.1);
          path-words = omega (arith, e, long reg led t, r.0, r.1, l.0, l.1);
        }

write_laws : WriteLaws
unfolding snapshot_of bytes_of
write_laws = record {
  refused_first = write_refused_first;
  accepted_none = write_accepted_none;
  accepted_formed = λ reg led out n h. ((wrote reg led out n h).tables, (wrote reg led out n h).count);
  rows_numbered =
      λ reg led out. (
        numbered (not (eqb (length reg) register_words)) TableLength,
        (
          numbered (not (eqb (length led) ledger_words)) TableLength,
          (
            numbered (not (register_ok reg)) RegisterMalformed,
            (numbered (not (ledger_ok led)) RoutesMalformed, (numbered (ltb (length out) (length (snapshot_of reg led))) OutputLength, tt)),
          ),
        ),
      );
  refused_leaves = write_refused_leaves;
  accepted_bytes = accepted_bytes;
  too_short = too_short;
  enough = λ reg led out t h. ap (λ s. s.answer) (write_accepted reg led out t h);
  long = long;
  empty = refl;
  least = λ reg led t. omega (arith, long reg led t, (first reg led t).two, (second reg led t).two);
  full = full;
  most = λ reg led t. omega (arith, long reg led t, (first reg led t).within, (second reg led t).within, t.register_long, t.ledger_long);
  most_words = refl;
}

-- ---- Read

-- An accepted reading passed every row.
read_done : (file reg led : List ℕ) → (read_effect file reg led).answer ≡ Ok tt
    → Accepted file × (read_effect file reg led ≡ reading (Ok tt) (register_in file) (ledger_in file))
unfolding read_effect
read_done file reg led = go (first_given (read_rows file reg led)) refl
  where
    go : (o : Option Refusal) → first_given (read_rows file reg led) ≡ o → (read_unless o file reg led).answer ≡ Ok tt
        → Accepted file × (read_unless o file reg led ≡ reading (Ok tt) (register_in file) (ledger_in file))
    go (Some r) e h = clash (cc)
    go None e h = (read_passed file reg led e, refl)

read_refused_first : (file reg led : List ℕ) (r : Refusal)
    → ((read_effect file reg led).answer ≡ Err r) ↔ ((i : ℕ) × FirstAt (read_rows file reg led) i r)
unfolding read_effect
read_refused_first file reg led r = (to (first_given (read_rows file reg led)) refl, λ p. rw (first_refuses (read_rows file reg led) p.0 r p.1))
  where
    to : (o : Option Refusal) → first_given (read_rows file reg led) ≡ o → (read_unless o file reg led).answer ≡ Err r
        → (i : ℕ) × FirstAt (read_rows file reg led) i r
    to (Some s) e h = refused_first (read_rows file reg led) r (e ∙ ap Some (refusal_same s r h))
    to None e h = clash (cc)

read_accepted_none : (file reg led : List ℕ) → ((read_effect file reg led).answer ≡ Ok tt) ↔ ((i : ℕ) → get_or (read_rows file reg led) i None ≡ None)
unfolding read_effect
read_accepted_none file reg led =
    (λ h. accepted_none (read_rows file reg led) (to (first_given (read_rows file reg led)) h), λ h. rw (none_accepted (read_rows file reg led) h))
  where
    to : (o : Option Refusal) → (read_unless o file reg led).answer ≡ Ok tt → o ≡ None
    to (Some r) h = clash (cc)
    to None h = refl

read_refused_leaves : (file reg led : List ℕ) (r : Refusal) → (read_effect file reg led).answer ≡ Err r
    → read_effect file reg led ≡ reading (Err r) reg led
unfolding read_effect
read_refused_leaves file reg led r = go (first_given (read_rows file reg led))
  where
    go : (o : Option Refusal) → (read_unless o file reg led).answer ≡ Err r → read_unless o file reg led ≡ reading (Err r) reg led
    go (Some s) h = λ i. reading (h i) reg led
    go None h = clash (cc)

same_answer : (file reg led reg' led' : List ℕ) → length reg ≡ length reg' → length led ≡ length led'
    → (read_effect file reg led).answer ≡ (read_effect file reg' led').answer
unfolding read_effect
same_answer file reg led reg' led' e f = rw (e, f) (go (first_given (read_rows file reg' led')))
  where
    go : (o : Option Refusal) → (read_unless o file reg led).answer ≡ (read_unless o file reg' led').answer
    go (Some r) = refl
    go None = refl

read_laws : ReadLaws
unfolding field contents_ok
read_laws = record {
  refused_first = read_refused_first;
  accepted_none = read_accepted_none;
  rows_numbered =
      λ file reg led. (
        numbered (not (eqb (length reg) register_words)) TableLength,
        (
          numbered (not (eqb (length led) ledger_words)) TableLength,
          (
            numbered (ltb (length file) contents_bytes) SnapshotLength,
            (
              numbered (not (eqb (field file 0) edition)) Edition,
              (
                numbered (not (contents_ok file)) Contents,
                (
                  numbered (not (eqb (length file) (length_in file))) SnapshotLength,
                  (numbered (not (register_in_ok file)) RegisterMalformed, (numbered (not (ledger_in_ok file)) RoutesMalformed, tt)),
                ),
              ),
            ),
          ),
        ),
      );
  contents_alone = λ file file' e. (rw e, rw e);
  refused_leaves = read_refused_leaves;
  same_answer = same_answer;
  same_tables = λ file reg led reg' led' h k. (read_done file reg led h).1 ∙ sym (read_done file reg' led' k).1;
}

-- ---- both

round_trips : RoundTrips
round_trips = record {
  written_read =
      λ reg led out reg₀ led₀ n h e f.
      ap (λ l. read_effect l reg₀ led₀) (accepted_bytes reg led out n h).0 ∙ written_again reg led (wrote reg led out n h).tables reg₀ led₀ e f;
  read_written =
      λ file reg led out b h l.
      let d = read_done file reg led h in
      let e : snapshot_of (register_in file) (ledger_in file) ≡ file = written_back file d.0 b in
      (λ i. write_effect (d.1 i).register (d.1 i).ledger out)
      ∙ write_accepted (register_in file) (ledger_in file) out (read_tables file d.0) (rw e l)
      ∙ (λ i. effect (Ok (length (e i))) (over (e i) out));
  read_formed = λ file reg led h. let d = read_done file reg led h in rw d.1 (read_tables file d.0);
}

pub snapshot_laws : SnapshotLaws
snapshot_laws = record { round_trips = round_trips; write = write_laws; read = read_laws }
