-- What is stated of packed tables, for any head and tail words.
use Rattle.std.specs.Prelude.{◌≡◌, true, List, ℕ, ◌+◌, ◌*◌, ◌≤◌, ◌<◌, length, take, drop, get_or}
use Rattle.table.specs.Table.{Entry, entry_at, counters, span, width, bodies, encode, decode, start_of, well_formed, Wide, Sound}

-- The check is exact: it passes words exactly when they are the table of the entries that they hold, these fit, and each slot has its widths.
pub record ExactCheck (h t : ℕ) : Type 0 where
  pub passed_sound : (ws : List ℕ) → well_formed h t ws ≡ true → Sound h t ws
  pub sound_passes : (ws : List ℕ) → Sound h t ws → well_formed h t ws ≡ true

-- Entries of the right widths that fit are read back as they were written, from a table of the size asked for that passes the check.
pub record WrittenTable (h t size : ℕ) (es : List Entry) : Type 0 where
  pub read_back : decode h t (encode size es) ≡ es
  pub long : length (encode size es) ≡ size
  pub passes : well_formed h t (encode size es) ≡ true

-- What each word of a table says that passes the check.
pub record TableWords (h t : ℕ) (ws : List ℕ) : Type 0 where
  -- Word 0 counts the entries, word 1 the words of their bodies.
  pub entries : get_or ws 0 0 ≡ length (decode h t ws)
  pub body_words : get_or ws 1 0 ≡ length (bodies (decode h t ws))
  -- A slot: the head words, where the body starts among the bodies, how long it is, the tail words.
  pub head : (i : ℕ) → i < length (decode h t ws) → (j : ℕ) → j < h
      → get_or ws (counters + i * width h t + j) 0 ≡ get_or (entry_at (decode h t ws) i).head j 0
  pub start : (i : ℕ) → i < length (decode h t ws) → get_or ws (counters + i * width h t + h) 0 ≡ start_of i (decode h t ws)
  pub count : (i : ℕ) → i < length (decode h t ws) → get_or ws (counters + i * width h t + h + 1) 0 ≡ length (entry_at (decode h t ws) i).body
  pub tail : (i : ℕ) → i < length (decode h t ws) → (j : ℕ) → j < t
      → get_or ws (counters + i * width h t + h + span + j) 0 ≡ get_or (entry_at (decode h t ws) i).tail j 0
  -- The bodies stand behind the slots.
  pub body : (i : ℕ) → i < length (decode h t ws)
      → take (length (entry_at (decode h t ws) i).body) (drop (counters + length (decode h t ws) * width h t + start_of i (decode h t ws)) ws)
      ≡ (entry_at (decode h t ws) i).body

-- All of it.
pub record TableLaws : Type 0 where
  pub exact : (h t : ℕ) → ExactCheck h t
  pub written : (h t size : ℕ) (es : List Entry) → Wide h t es
      → counters + length es * width h t + length (bodies es) ≤ size → WrittenTable h t size es
  pub says : (h t : ℕ) (ws : List ℕ) → well_formed h t ws ≡ true → TableWords h t ws
