-- Text that grows in a lent buffer.
use Rattle.std.specs.Prelude.{ℕ, ◌≡◌, ◌+◌, ◌≤◌, List, length}
use Rattle.std.proofs.lemmas.List.Edits.{sets}
use Rattle.text.specs.declared.Text.{Text}

-- There is room for so many bytes behind the text.
abbrev pub Room : Text → ℕ → Type 0
Room text n = text.end + n ≤ length text.buffer.now

-- Bytes were written behind the text; the rest of the buffer, and which buffer it is, stayed.
pub record Wrote (old new : Text) (bytes : List ℕ) : Type 0 where
  pub same : new.buffer.ghost_name ≡ old.buffer.ghost_name
  pub end : new.end ≡ old.end + length bytes
  pub written : new.buffer.now ≡ sets old.buffer.now old.end bytes
  -- So there is as much of it as before.
  pub room : length new.buffer.now ≡ length old.buffer.now
