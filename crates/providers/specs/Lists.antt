-- A list of provider numbers ("Tables"; row 6; P2).
use Rattle.std.specs.Prelude.{ℕ, Bool, true, not, ◌&&◌, List, [], ◌∷◌, leb, ltb, length}
use Rattle.rules.specs.Records.{is_in}

-- The numbers in one list.
abbrev pub most_providers : ℕ
most_providers = 256

-- A list ascends strictly.
unfoldable pub rises_from : ℕ → List ℕ → Bool
rises_from x [] = true
rises_from x (y ∷ l) = ltb x y && rises_from y l

unfoldable pub rises : List ℕ → Bool
rises [] = true
rises (x ∷ l) = rises_from x l

-- A list that may be filed for a customer (row 6): one number or more, not too many, ascending, and the customer not among them.
unfoldable pub list_ok : ℕ → List ℕ → Bool
list_ok customer l = leb 1 (length l) && (leb (length l) most_providers && (rises l && not (is_in customer l)))
