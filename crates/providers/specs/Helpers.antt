-- What the check of lists that stand one behind the other goes by. No call's promise speaks of it.
use Rattle.std.specs.Prelude.{ℕ, ◌+◌, cond, List, [], ◌∷◌, ltb, take, drop}

-- How often a number of a list does not stand above the one before it.
unfoldable pub descents_from : ℕ → List ℕ → ℕ
descents_from x [] = 0
descents_from x (y ∷ l) = cond (ltb x y) (descents_from y l) (descents_from y l + 1)

unfoldable pub descents_in : List ℕ → ℕ
descents_in [] = 0
descents_in (x ∷ l) = descents_from x l

-- The list of `count` numbers that begins at a word.
abbrev pub list_at : List ℕ → ℕ → ℕ → List ℕ
list_at ws from count = take count (drop from ws)
