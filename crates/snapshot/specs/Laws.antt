-- What writing and reading promise together. proofs/Laws.antt has the proof.
use Rattle.std.specs.Prelude.{ℕ, ◌+◌, ◌*◌, ◌≤◌, ◌<◌, ◌≡◌, List, [], ◌∷◌, ◌↔◌, length, take, drop, get_or, replicate, Err, None, Ok}
use Rattle.types.specs.declared.Refusal.{Refusal}
use Rattle.types.specs.declared.Refusal.TheVariants.{OutputLength}
use Rattle.types.specs.Rows.{FirstAt, Numbered, effect}
use Rattle.register.specs.Register.{register_words, record_width, most_records, most_listed}
use Rattle.ledger.specs.Routes.{ledger_words, route_width, most_routes, most_path_words}
use Rattle.snapshot.specs.Snapshot.{Bytes, word_bytes, contents_bytes, FormedTables, used_bytes, snapshot_of}
use Rattle.snapshot.specs.Calls.{write_rows, write_effect, over, contents_rows, read_rows, reading, read_effect}

-- Two tables whose counts are all at their limits.
pub record FullTables (reg led : List ℕ) : Type 0 where
  pub records : get_or reg 0 0 ≡ most_records
  pub listed : get_or reg 1 0 ≡ most_listed
  pub routes : get_or led 0 0 ≡ most_routes
  pub path-words : get_or led 1 0 ≡ most_path_words

pub record RoundTrips : Type 0 where
  -- Reading what was written gives the same words, all of them, into any tables of the right lengths.
  pub written_read : (reg led out reg₀ led₀ : List ℕ) (n : ℕ) → (write_effect reg led out).answer ≡ Ok n
      → length reg₀ ≡ register_words → length led₀ ≡ ledger_words
      → read_effect (take n (write_effect reg led out).words) reg₀ led₀ ≡ reading (Ok tt) reg led
  -- An accepted file is the one that writing the yielded tables gives, into any output that is long enough.
  pub read_written : (file reg led out : List ℕ) → Bytes file → (read_effect file reg led).answer ≡ Ok tt → length file ≤ length out
      → write_effect (read_effect file reg led).register (read_effect file reg led).ledger out ≡ effect (Ok (length file)) (over file out)
  -- The tables that an accepted reading yields are well formed.
  pub read_formed : (file reg led : List ℕ) → (read_effect file reg led).answer ≡ Ok tt
      → FormedTables (read_effect file reg led).register (read_effect file reg led).ledger

pub record WriteLaws : Type 0 where
  -- Write is refused exactly by the first of its rows that is given, and accepted exactly when none is.
  pub refused_first : (reg led out : List ℕ) (r : Refusal)
      → ((write_effect reg led out).answer ≡ Err r) ↔ ((i : ℕ) × FirstAt (write_rows reg led out) i r)
  pub accepted_none : (reg led out : List ℕ)
      → ((write_effect reg led out).answer ≡ Ok (length (snapshot_of reg led))) ↔ ((i : ℕ) → get_or (write_rows reg led out) i None ≡ None)
  -- An accepted Write was lent well-formed tables, and answers the length of their file.
  pub accepted_formed : (reg led out : List ℕ) (n : ℕ) → (write_effect reg led out).answer ≡ Ok n
      → FormedTables reg led × (n ≡ length (snapshot_of reg led))
  -- Its rows, in their order.
  pub rows_numbered : (reg led out : List ℕ) → Numbered (write_rows reg led out) (1 ∷ 1 ∷ 2 ∷ 3 ∷ 21 ∷ [])
  -- A refused Write leaves the output; an accepted one puts the file at its start and leaves the bytes behind it.
  pub refused_leaves : (reg led out : List ℕ) (r : Refusal) → (write_effect reg led out).answer ≡ Err r → (write_effect reg led out).words ≡ out
  pub accepted_bytes : (reg led out : List ℕ) (n : ℕ) → (write_effect reg led out).answer ≡ Ok n
      → (take n (write_effect reg led out).words ≡ snapshot_of reg led) × (drop n (write_effect reg led out).words ≡ drop n out)
  -- Of well-formed tables, 21 is given exactly when the file does not fit; so an output of the file's length is enough.
  pub too_short : (reg led out : List ℕ) → FormedTables reg led
      → ((write_effect reg led out).answer ≡ Err OutputLength) ↔ (length out < length (snapshot_of reg led))
  pub enough : (reg led out : List ℕ) → FormedTables reg led → length (snapshot_of reg led) ≤ length out
      → (write_effect reg led out).answer ≡ Ok (length (snapshot_of reg led))
  -- How long the file is: of empty tables 36 bytes, the least, and of full ones, and no others, 100,388, the most.
  pub long : (reg led : List ℕ) → FormedTables reg led
      → length (snapshot_of reg led) ≡ contents_bytes + used_bytes record_width reg + used_bytes route_width led
  pub empty : length (snapshot_of (replicate register_words 0) (replicate ledger_words 0)) ≡ 36
  pub least : (reg led : List ℕ) → FormedTables reg led → 36 ≤ length (snapshot_of reg led)
  pub full : (reg led : List ℕ) → FormedTables reg led → (length (snapshot_of reg led) ≡ 100388) ↔ FullTables reg led
  pub most : (reg led : List ℕ) → FormedTables reg led → length (snapshot_of reg led) ≤ 100388
  pub most_words : contents_bytes + word_bytes * (register_words + ledger_words) ≡ 100388

pub record ReadLaws : Type 0 where
  -- Read is refused exactly by the first of its rows that is given, and accepted exactly when none is.
  pub refused_first : (file reg led : List ℕ) (r : Refusal)
      → ((read_effect file reg led).answer ≡ Err r) ↔ ((i : ℕ) × FirstAt (read_rows file reg led) i r)
  pub accepted_none : (file reg led : List ℕ)
      → ((read_effect file reg led).answer ≡ Ok tt) ↔ ((i : ℕ) → get_or (read_rows file reg led) i None ≡ None)
  -- Its rows, in their order.
  pub rows_numbered : (file reg led : List ℕ) → Numbered (read_rows file reg led) (1 ∷ 1 ∷ 24 ∷ 22 ∷ 23 ∷ 24 ∷ 2 ∷ 3 ∷ [])
  -- Rows 22 and 23 go by the first 20 bytes alone.
  pub contents_alone : (file file' : List ℕ) → take contents_bytes file ≡ take contents_bytes file'
      → (get_or (contents_rows file) 1 None ≡ get_or (contents_rows file') 1 None) × (get_or (contents_rows file) 2 None ≡ get_or (contents_rows file') 2 None)
  -- A refused Read leaves both tables.
  pub refused_leaves : (file reg led : List ℕ) (r : Refusal) → (read_effect file reg led).answer ≡ Err r
      → read_effect file reg led ≡ reading (Err r) reg led
  -- The tables' earlier words are not looked at: what is answered, and what is yielded, is the same for all tables of the same lengths.
  pub same_answer : (file reg led reg' led' : List ℕ) → length reg ≡ length reg' → length led ≡ length led'
      → (read_effect file reg led).answer ≡ (read_effect file reg' led').answer
  pub same_tables : (file reg led reg' led' : List ℕ) → (read_effect file reg led).answer ≡ Ok tt
      → (read_effect file reg' led').answer ≡ Ok tt → read_effect file reg led ≡ read_effect file reg' led'

-- All of it.
pub record SnapshotLaws : Type 0 where
  pub round_trips : RoundTrips
  pub write : WriteLaws
  pub read : ReadLaws
