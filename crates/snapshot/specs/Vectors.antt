-- Snapshots and refusals, byte by byte: by computation from the definitions.
use Rattle.std.specs.Prelude.{ℕ, zero, suc, ◌-◌, ◌≡◌, refl, List, [], ◌∷◌, ◌++◌, replicate, Err, Ok, Result}
use Rattle.std.proofs.Common.{arith}
use Rattle.types.specs.declared.Refusal.TheVariants.{RegisterMalformed, RoutesMalformed, Edition, Contents, SnapshotLength}
use Rattle.types.specs.Rows.{first_given}
use Rattle.table.specs.Table.{bodies, pad, decode_slots, decode, slots_ok, all_zero, well_formed}
use Rattle.keyed.specs.Keyed.{ascends, ascends_from, every}
use Rattle.rules.specs.Records.{is_in}
use Rattle.register.specs.Register.{register_words, records_of, listed, records_ok, register_ok}
use Rattle.register.specs.Register as register
use Rattle.ledger.specs.Routes.{ledger_words, routes_of, path_words, route_ok, routes_ok, ledger_ok}
use Rattle.ledger.specs.Routes as ledger
use Rattle.snapshot.specs.Snapshot.{bytes_of, words_in, Bytes, snapshot_of, field, length_ok, contents_ok, register_in, ledger_in}
use Rattle.snapshot.specs.Calls.{read_effect}
use Rattle.types.specs.declared.Refusal.{Refusal}

abbrev zeros : ℕ → List ℕ
zeros n = replicate n 0

-- The contents of the empty tables' file.
abbrev empty_contents : List ℕ
empty_contents = 0 ∷ 0 ∷ 0 ∷ 1 ∷ 0 ∷ 0 ∷ 0 ∷ 20 ∷ 0 ∷ 0 ∷ 0 ∷ 8 ∷ 0 ∷ 0 ∷ 0 ∷ 28 ∷ 0 ∷ 0 ∷ 0 ∷ 8 ∷ []

-- 36 bytes.
pub empty_file : snapshot_of (zeros register_words) (zeros ledger_words) ≡ empty_contents ++ zeros 16
unfolding bytes_of snapshot_of
empty_file = refl

-- Customer 65010 with provider 65001 under source 2, and no route.
pub one_record :
    snapshot_of ((1 ∷ 1 ∷ 65010 ∷ 2 ∷ 0 ∷ 1 ∷ 65001 ∷ []) ++ zeros (register_words - 7)) (zeros ledger_words)
    ≡ (0 ∷ 0 ∷ 0 ∷ 1 ∷ 0 ∷ 0 ∷ 0 ∷ 20 ∷ 0 ∷ 0 ∷ 0 ∷ 28 ∷ 0 ∷ 0 ∷ 0 ∷ 48 ∷ 0 ∷ 0 ∷ 0 ∷ 8 ∷ [])
    ++ (0 ∷ 0 ∷ 0 ∷ 1 ∷ 0 ∷ 0 ∷ 0 ∷ 1 ∷ 0 ∷ 0 ∷ 253 ∷ 242 ∷ 0 ∷ 0 ∷ 0 ∷ 2 ∷ 0 ∷ 0 ∷ 0 ∷ 0 ∷ 0 ∷ 0 ∷ 0 ∷ 1 ∷ 0 ∷ 0 ∷ 253 ∷ 233 ∷ [])
    ++ zeros 8
unfolding bytes_of snapshot_of
one_record = refl

-- 255 is a byte.
pub top_byte : Bytes (255 ∷ [])
top_byte zero = omega arith
top_byte (suc i) = omega arith

-- ---- refusals

-- What reading into two tables of zeros answers.
abbrev read : List ℕ → Result Unit Refusal
read file = (read_effect file (zeros register_words) (zeros ledger_words)).answer

-- Four bytes that show edition 2 are 24, not 22.
pub short_file : read (0 ∷ 0 ∷ 0 ∷ 2 ∷ []) ≡ Err SnapshotLength
unfolding read_effect first_given
short_file = refl

-- Twenty bytes of edition 2 are 22, whatever else is wrong.
pub unknown_edition : read (0 ∷ 0 ∷ 0 ∷ 2 ∷ zeros 16) ≡ Err Edition
unfolding read_effect first_given field words_in
unknown_edition = refl

-- A length that says more than its table holds is 23, whatever follows: 4,294,967,292 bytes of register.
pub wrong_contents :
    read (0 ∷ 0 ∷ 0 ∷ 1 ∷ 0 ∷ 0 ∷ 0 ∷ 20 ∷ 255 ∷ 255 ∷ 255 ∷ 252 ∷ 0 ∷ 0 ∷ 0 ∷ 16 ∷ 0 ∷ 0 ∷ 0 ∷ 8 ∷ []) ≡ Err Contents
unfolding read_effect first_given field words_in contents_ok length_ok
wrong_contents = refl

-- A byte more than the contents say.
pub longer_file : read (empty_contents ++ zeros 17) ≡ Err SnapshotLength
unfolding read_effect first_given field words_in contents_ok length_ok
longer_file = refl

-- A register that is one word longer than its two counts make it, a zero.
pub longer_register :
    read ((0 ∷ 0 ∷ 0 ∷ 1 ∷ 0 ∷ 0 ∷ 0 ∷ 20 ∷ 0 ∷ 0 ∷ 0 ∷ 12 ∷ 0 ∷ 0 ∷ 0 ∷ 32 ∷ 0 ∷ 0 ∷ 0 ∷ 8 ∷ []) ++ zeros 20) ≡ Err RegisterMalformed
unfolding read_effect first_given field words_in contents_ok length_ok register_in pad decode_slots decode slots_ok all_zero well_formed every ascends records_of listed records_ok register.room_for register_ok
longer_register = refl

-- A register whose one list holds its own customer: the file of an earlier version may have it.
pub own_customer :
    read
    ((0 ∷ 0 ∷ 0 ∷ 1 ∷ 0 ∷ 0 ∷ 0 ∷ 20 ∷ 0 ∷ 0 ∷ 0 ∷ 28 ∷ 0 ∷ 0 ∷ 0 ∷ 48 ∷ 0 ∷ 0 ∷ 0 ∷ 8 ∷ [])
    ++ (0 ∷ 0 ∷ 0 ∷ 1 ∷ 0 ∷ 0 ∷ 0 ∷ 1 ∷ 0 ∷ 0 ∷ 253 ∷ 242 ∷ 0 ∷ 0 ∷ 0 ∷ 2 ∷ 0 ∷ 0 ∷ 0 ∷ 0 ∷ 0 ∷ 0 ∷ 0 ∷ 1 ∷ 0 ∷ 0 ∷ 253 ∷ 242 ∷ [])
    ++ zeros 8)
    ≡ Err RegisterMalformed
unfolding read_effect first_given field words_in contents_ok length_ok register_in pad decode_slots decode slots_ok all_zero well_formed every ascends ascends_from records_of listed records_ok register.room_for register_ok bodies register.rises_from register.rises is_in register.list_ok register.record_ok
own_customer = refl

-- A ledger that says a route and has none.
pub no_route :
    read (empty_contents ++ (zeros 11 ++ (1 ∷ zeros 4))) ≡ Err RoutesMalformed
unfolding read_effect first_given field words_in contents_ok length_ok register_in ledger_in pad decode_slots decode slots_ok all_zero well_formed every ascends records_of listed records_ok register.room_for register_ok ledger_ok routes_ok ledger.room_for routes_of path_words bodies route_ok
no_route = refl

-- An empty register, and a ledger with route 7 from customer 20 on a path of three numbers: edition, starts and lengths, words.
abbrev kept : ℕ → ℕ → ℕ → List ℕ
kept x y z = bytes_of (1 ∷ 20 ∷ 8 ∷ 28 ∷ 56 ∷ 0 ∷ 0 ∷ 1 ∷ 3 ∷ 7 ∷ 1 ∷ 20 ∷ 0 ∷ 1 ∷ 3 ∷ 0 ∷ 0 ∷ 3 ∷ x ∷ y ∷ z ∷ [])

-- Two equal numbers side by side: the file of an earlier version may have them. Apart they are read.
pub side_by_side : read (kept 20 20 10) ≡ Err RoutesMalformed
unfolding read_effect first_given bytes_of field words_in contents_ok length_ok register_in ledger_in pad decode_slots decode slots_ok all_zero well_formed every ascends ascends_from bodies records_of listed records_ok register.room_for register_ok routes_of path_words ledger.no_zero ledger.no_repeat ledger.no_runs ledger.path_ok route_ok routes_ok ledger.room_for ledger_ok
side_by_side = refl

pub apart : read (kept 20 10 20) ≡ Ok tt
unfolding read_effect first_given bytes_of field words_in contents_ok length_ok register_in ledger_in pad decode_slots decode slots_ok all_zero well_formed every ascends ascends_from bodies records_of listed records_ok register.room_for register_ok routes_of path_words ledger.no_zero ledger.no_repeat ledger.no_runs ledger.path_ok route_ok routes_ok ledger.room_for ledger_ok
apart = refl

-- The empty tables' file is read.
pub empty_read : (read_effect (empty_contents ++ zeros 16) (zeros register_words) (zeros ledger_words)).answer ≡ Ok tt
unfolding read_effect first_given field words_in contents_ok length_ok register_in ledger_in pad decode_slots decode slots_ok all_zero well_formed every ascends bodies records_of listed records_ok register.room_for register_ok routes_of path_words routes_ok ledger.room_for ledger_ok
empty_read = refl

-- Where both tables are malformed, the register's row is given.
pub both_malformed : read (empty_contents ++ (zeros 3 ++ (1 ∷ (zeros 7 ++ (1 ∷ zeros 4))))) ≡ Err RegisterMalformed
unfolding read_effect first_given field words_in contents_ok length_ok register_in pad decode_slots decode slots_ok all_zero well_formed every ascends records_of listed records_ok register.room_for register_ok bodies register.record_ok
both_malformed = refl
