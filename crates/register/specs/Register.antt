-- The register ("Tables"): provider records in a packed table with two head words, customer and source, and no tail.
use Rattle.std.specs.Prelude.{ℕ, ◌+◌, ◌*◌, Bool, ◌&&◌, List, [], ◌∷◌, map, leb, length, get_or}
use Rattle.table.specs.Table.{Entry, counters, width, encode, decode, well_formed}
use Rattle.keyed.specs.Keyed.{same_pair, before_pair, ascends, rank, every}
use Rattle.rules.specs.Records.{Record}
-- Which lists may stand in a register.
pub use Rattle.providers.specs.Lists.{most_providers}
unfoldable pub use Rattle.providers.specs.Lists.{rises_from, rises, list_ok}

-- ---- limits

abbrev pub most_records : ℕ
most_records = 1024

-- The numbers in all lists together.
abbrev pub most_listed : ℕ
most_listed = 8192

abbrev pub last_source : ℕ
last_source = 7

-- ---- layout

-- A record's slot: customer, source, where its list starts among the bodies, and how many numbers it has. The first two are its head.
abbrev pub record_head : ℕ
record_head = 2

abbrev pub record_tail : ℕ
record_tail = 0

abbrev pub record_width : ℕ
record_width = width record_head record_tail

abbrev pub customer_word : ℕ
customer_word = 0

abbrev pub source_word : ℕ
source_word = 1

abbrev pub start_word : ℕ
start_word = record_head

abbrev pub count_word : ℕ
count_word = record_head + 1

-- The words of a register: two counts, and room for as many records and numbers as there may be.
abbrev pub register_words : ℕ
register_words = counters + most_records * record_width + most_listed

-- ---- records

abbrev pub record_of : Entry → Record
record_of e = record { customer = get_or e.head customer_word 0; source = get_or e.head source_word 0; providers = e.body }

abbrev pub entry_of : Record → Entry
entry_of r = record { head = r.customer ∷ (r.source ∷ []); body = r.providers; tail = [] }

-- The records that a register's words hold, and the words that hold records.
unfoldable pub records_of : List ℕ → List Record
records_of ws = map record_of (decode record_head record_tail ws)

unfoldable pub register_of : List Record → List ℕ
register_of rs = encode register_words (map entry_of rs)

-- A record's key: first the customer, then the source.
abbrev pub key_of : Record → ℕ × ℕ
key_of r = (r.customer, r.source)

-- Record i; past the end, one that no register holds.
abbrev pub record_at : List Record → ℕ → Record
record_at rs i = get_or rs i (record { customer = 0; source = 0; providers = [] })

-- Where the record of a customer and a source stands, or would: how many come before it.
unfoldable pub position_of : ℕ → ℕ → List Record → ℕ
position_of customer source rs = rank key_of same_pair before_pair (customer, source) rs

-- How many numbers the lists hold together.
unfoldable pub listed : List Record → ℕ
listed [] = 0
listed (r ∷ rs) = length r.providers + listed rs

-- ---- the column rules

unfoldable pub record_ok : Record → Bool
record_ok r = leb 1 r.customer && (leb r.source last_source && list_ok r.customer r.providers)

-- The register fits its two limits (row 8).
unfoldable pub room_for : List Record → Bool
room_for rs = leb (length rs) most_records && leb (listed rs) most_listed

unfoldable pub records_ok : List Record → Bool
records_ok rs = room_for rs && (every record_ok rs && ascends key_of same_pair before_pair rs)

-- The word rules of a register (row 2); its length is row 1's.
unfoldable pub register_ok : List ℕ → Bool
register_ok ws = well_formed record_head record_tail ws && records_ok (records_of ws)
