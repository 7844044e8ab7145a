-- What the table's own functions ask of each other, and the tables' crates of them; and what inner functions leave in the slots. No call's promise
-- speaks of it.
use Rattle.std.specs.Prelude.{◌≡◌, cond, List, [], ◌∷◌, ◌++◌, ℕ, zero, suc, ◌+◌, ◌*◌, ◌≤◌, ◌<◌, ◌^◌, eqb, length, take, drop, get_or}
use Rattle.table.specs.Table.{Entry, counters, span, width, bodies, decode, Sound, staying_entries}

-- ---- what is asked

-- An entry may go in at i.
pub record Insertable (h t : ℕ) (ws : List ℕ) (i : ℕ) (e : Entry) : Type 0 where
  pub sound : Sound h t ws
  pub within : i ≤ length (decode h t ws)
  pub head : length e.head ≡ h
  pub tail : length e.tail ≡ t
  pub room : counters + (length (decode h t ws) + 1) * width h t + length (bodies (decode h t ws)) + length e.body ≤ length ws
  pub small : length ws < 2 ^ 32

-- The entry at i may go out.
pub record Removable (h t : ℕ) (ws : List ℕ) (i : ℕ) : Type 0 where
  pub sound : Sound h t ws
  pub within : i < length (decode h t ws)
  pub small : length ws < 2 ^ 32

-- The entries with a value in a column may go out.
pub record Clearable (h t : ℕ) (ws : List ℕ) (column : ℕ) : Type 0 where
  pub sound : Sound h t ws
  pub within : column < h
  pub small : length ws < 2 ^ 32

-- ---- slots

-- The m slots that begin xs, with their starts counted anew from o.
unfoldable pub restarted : ℕ → ℕ → ℕ → ℕ → List ℕ → List ℕ
restarted h t zero o xs = xs
restarted h t (suc m) o xs =
    let c = get_or xs (h + 1) 0 in
    take h xs ++ (o ∷ (c ∷ (take t (drop (h + span) xs) ++ restarted h t m (o + c) (drop (width h t) xs))))

-- The sum of the counts of the m slots that begin xs.
unfoldable pub counts : ℕ → ℕ → ℕ → List ℕ → ℕ
counts h t zero xs = 0
counts h t (suc m) xs = get_or xs (h + 1) 0 + counts h t m (drop (width h t) xs)

-- Those that stay on words: of the m slots that begin xs, the slots kept, with their starts counted anew from o.
unfoldable pub staying_slots : ℕ → ℕ → ℕ → ℕ → ℕ → ℕ → List ℕ → List ℕ
staying_slots h t column value zero o xs = []
staying_slots h t column value (suc m) o xs =
    let c = get_or xs (h + 1) 0 in
    cond (eqb (get_or xs column 0) value) (staying_slots h t column value m o (drop (width h t) xs))
    (take h xs ++ (o ∷ (c ∷ (take t (drop (h + span) xs) ++ staying_slots h t column value m (o + c) (drop (width h t) xs)))))

-- The bodies and the slots that stay, of a table's words.
abbrev pub bodies_left : ℕ → ℕ → List ℕ → ℕ → ℕ → List ℕ
bodies_left h t ws column value = bodies (staying_entries column value (decode h t ws))

abbrev pub slots_left : ℕ → ℕ → List ℕ → ℕ → ℕ → List ℕ
slots_left h t ws column value = staying_slots h t column value (get_or ws 0 0) 0 (drop counters ws)
