-- The snapshot of a register and a ledger ("The snapshot"): one file of bytes. A word is four of them, high byte first. Five words are the contents,
-- and behind them stand the used words of both tables.
use Rattle.std.specs.Prelude.{ℕ, ◌+◌, ◌*◌, ◌/◌, ◌%◌, ◌<◌, ◌≡◌, Bool, true, ◌&&◌, List, [], ◌∷◌, ◌++◌, leb, eqb, length, take, drop, get_or}
use Rattle.table.specs.Table.{counters, pad}
use Rattle.register.specs.Register.{register_words, record_width, register_ok}
use Rattle.ledger.specs.Routes.{ledger_words, route_width, ledger_ok}

-- ---- words and bytes

abbrev pub word_bytes : ℕ
word_bytes = 4

-- The bytes of words below 2^32.
unfoldable pub bytes_of : List ℕ → List ℕ
bytes_of [] = []
bytes_of (w ∷ ws) = w / 16777216 ∷ (w / 65536 % 256 ∷ (w / 256 % 256 ∷ (w % 256 ∷ bytes_of ws)))

-- The words of bytes; fewer than four that are left over make none.
unfoldable pub words_in : List ℕ → List ℕ
words_in [] = []
words_in (a ∷ []) = []
words_in (a ∷ (b ∷ [])) = []
words_in (a ∷ (b ∷ (c ∷ []))) = []
words_in (a ∷ (b ∷ (c ∷ (d ∷ bs)))) = (a * 16777216 + b * 65536 + c * 256 + d) ∷ words_in bs

-- Every number is a byte.
abbrev pub Bytes : List ℕ → Type 0
Bytes bs = (i : ℕ) → get_or bs i 0 < 256

-- ---- the file of two tables

-- Two tables of the right lengths that keep their word rules.
pub record FormedTables (reg led : List ℕ) : Type 0 where
  pub register_long : length reg ≡ register_words
  pub register-ok : register_ok reg ≡ true
  pub ledger_long : length led ≡ ledger_words
  pub ledger-ok : ledger_ok led ≡ true

abbrev pub edition : ℕ
edition = 1

-- The bytes of the contents. The register's words start behind them.
abbrev pub contents_bytes : ℕ
contents_bytes = 20

-- How many words of a table are used, by its own two counts, where a slot has so many words: those up to the last body word.
abbrev pub used_count : ℕ → List ℕ → ℕ
used_count slot ws = counters + get_or ws 0 0 * slot + get_or ws 1 0

abbrev pub used_bytes : ℕ → List ℕ → ℕ
used_bytes slot ws = word_bytes * used_count slot ws

abbrev pub used : ℕ → List ℕ → List ℕ
used slot ws = take (used_count slot ws) ws

-- Edition, start and length in bytes of the register's used words, then of the ledger's, with no gap between.
abbrev pub contents_of : ℕ → ℕ → List ℕ
contents_of r l = edition ∷ (contents_bytes ∷ (r ∷ ((contents_bytes + r) ∷ (l ∷ []))))

unfoldable pub snapshot_of : List ℕ → List ℕ → List ℕ
snapshot_of reg led =
    bytes_of (contents_of (used_bytes record_width reg) (used_bytes route_width led)) ++ (bytes_of (used record_width reg) ++ bytes_of (used route_width led))

-- ---- what a file says

-- Word i of the contents.
unfoldable pub field : List ℕ → ℕ → ℕ
field file i = get_or (words_in (take contents_bytes file)) i 0

abbrev pub register_bytes : List ℕ → ℕ
register_bytes file = field file 2

abbrev pub ledger_bytes : List ℕ → ℕ
ledger_bytes file = field file 4

-- A length in bytes: two counts at least, no part of a word, no longer than its table.
unfoldable pub length_ok : ℕ → ℕ → Bool
length_ok bytes most = leb (word_bytes * counters) bytes && (eqb (bytes % word_bytes) 0 && leb bytes (word_bytes * most))

-- Two starts and two lengths, with no gap. They are judged by themselves, whatever follows them.
unfoldable pub contents_ok : List ℕ → Bool
contents_ok file =
    eqb (field file 1) contents_bytes
    && (length_ok (register_bytes file) register_words
    && (eqb (field file 3) (contents_bytes + register_bytes file)
    && length_ok (ledger_bytes file) ledger_words))

-- The length that the contents say.
abbrev pub length_in : List ℕ → ℕ
length_in file = contents_bytes + register_bytes file + ledger_bytes file

-- The tables that the file's words make, with zeros behind them.
unfoldable pub register_in : List ℕ → List ℕ
register_in file = pad register_words (words_in (take (register_bytes file) (drop contents_bytes file)))

unfoldable pub ledger_in : List ℕ → List ℕ
ledger_in file = pad ledger_words (words_in (drop (contents_bytes + register_bytes file) file))

-- The word rules, and a length that is the one which the table's own two counts make.
abbrev pub register_in_ok : List ℕ → Bool
register_in_ok file = register_ok (register_in file) && eqb (used_bytes record_width (register_in file)) (register_bytes file)

abbrev pub ledger_in_ok : List ℕ → Bool
ledger_in_ok file = ledger_ok (ledger_in file) && eqb (used_bytes route_width (ledger_in file)) (ledger_bytes file)
