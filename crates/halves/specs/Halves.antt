-- Search by halves ("P3"): where the entries of a key begin, or would, in a table whose entries ascend by their keys.
use Rattle.std.specs.Prelude.{ℕ, zero, suc, ◌+◌, ◌-◌, ◌*◌, ◌/◌, ◌≤◌, ◌<◌, ◌≡◌, Bool, true, false, cond, List, leb, ltb, get_or}
use Rattle.table.specs.Table.{counters}
use Rattle.keyed.specs.Keyed.{before_pair}
use Rattle.halves.specs.declared.Key.{Key}
use Rattle.halves.specs.declared.Range.{Range}

-- ---- keys

abbrev pub key_of : Key → ℕ × ℕ
key_of k = (k.first, k.second)

-- The key of the entry at position i, the first two words of its slot.
abbrev pub key_at : ℕ → List ℕ → ℕ → ℕ × ℕ
key_at width ws i = (get_or ws (counters + i * width) 0, get_or ws (counters + i * width + 1) 0)

-- The entry at position i of a table stands before a key.
abbrev pub before_in : ℕ → List ℕ → ℕ × ℕ → ℕ → Bool
before_in width ws key i = before_pair (key_at width ws i) key

-- Where the entries of a key begin, or would, among n entries of which a test says whether they stand before it: at position p, if those
-- below p do and those from p on do not.
pub record Begins (before : ℕ → Bool) (n p : ℕ) : Type 0 where
  pub within : p ≤ n
  pub below : (i : ℕ) → i < p → before i ≡ true
  pub behind : (i : ℕ) → p ≤ i → i < n → before i ≡ false

-- ---- a step

-- How many entries are left.
abbrev pub size : Range → ℕ
size r = r.high - r.low

-- The entry that a step looks at.
abbrev pub middle : Range → ℕ
middle r = r.low + size r / 2

-- A position is in a range or at its end.
abbrev pub In : Range → ℕ → Type 0
In r p = (r.low ≤ p) × (p ≤ r.high)

-- The step: what is left is behind the entry in the middle, if that stands before the key, and otherwise below it.
unfoldable pub stepped : Range → Bool → Range
stepped r before =
    cond before
    (record { low = middle r + 1; high = r.high; steps = r.steps + 1 })
    (record { low = r.low; high = middle r; steps = r.steps + 1 })

-- What is left after a step is a part of the range, at most half of it, rounded down. Only one entry was looked at, the one in the middle:
-- whatever the others are, the position where the entries of the key begin, or would, is still in the range or at its end.
pub record Narrows (old : Range) (entry key : ℕ × ℕ) (left : Range) : Type 0 where
  pub part : (old.low ≤ left.low) × (left.high ≤ old.high)
  pub half : size left ≤ size old / 2
  pub keeps : (before : ℕ → Bool) (n p : ℕ) → Begins before n p → before (middle old) ≡ before_pair entry key → old.high ≤ n → In old p → In left p
  pub counted : left.steps ≡ old.steps + 1

-- ---- the search

-- Steps until nothing is left. (`most` ends the recursion: there are no more steps than entries.)
unfoldable pub searched : (ℕ → Bool) → ℕ → Range → Range
searched before zero r = r
searched before (suc most) r = cond (ltb r.low r.high) (searched before most (stepped r (before (middle r)))) r

-- The search among n entries, from a position on.
abbrev pub searched_from : (ℕ → Bool) → ℕ → ℕ → Range
searched_from before n from = searched before n (record { low = from; high = n; steps = 0 })

-- How often n can be halved, rounded down, until 1 is left. (`most` ends the recursion: n halvings are more than enough.)
unfoldable pub halvings_in : ℕ → ℕ → ℕ
halvings_in zero n = 0
halvings_in (suc most) n = cond (leb n 1) 0 (suc (halvings_in most (n / 2)))

unfoldable pub halvings : ℕ → ℕ
halvings n = halvings_in n n
