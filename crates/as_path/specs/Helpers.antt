-- What the reader's own functions promise each other. No call's promise speaks of it.
use Rattle.std.specs.Prelude.{ℕ, ◌+◌, ◌≡◌, List, [], ◌∷◌, length}
use Rattle.std.proofs.lemmas.List.Edits.{sets}

-- `list` is stored in a buffer from index `from` on, as far as the buffer goes, and `to` is the index after it.
pub record Stored (before : List ℕ) (from : ℕ) (list after : List ℕ) (to : ℕ) : Type 0 where
  pub buffer : after ≡ sets before from list
  pub index : to ≡ from + length list

-- The last number of a list that stands after the number x.
unfoldable pub last_after : ℕ → List ℕ → ℕ
last_after x [] = x
last_after x (y ∷ l) = last_after y l
