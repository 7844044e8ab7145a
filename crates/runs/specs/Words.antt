-- A list of words after a run of them was moved, zeroed or written.
use Rattle.std.specs.Prelude.{List, ◌++◌, ℕ, ◌+◌, ◌-◌, length, take, drop, replicate}

-- The words at..used also stand k places higher, over what stood there.
unfoldable pub opened : List ℕ → ℕ → ℕ → ℕ → List ℕ
opened s at k used = take (at + k) s ++ (drop at (take used s) ++ drop (used + k) s)

-- Zeros at..end.
unfoldable pub zeroed : List ℕ → ℕ → ℕ → List ℕ
zeroed s at end = take at s ++ (replicate (end - at) 0 ++ drop end s)

-- Without the words at..at + k; those up to used move down, and k zeros stand behind them.
unfoldable pub closed : List ℕ → ℕ → ℕ → ℕ → List ℕ
closed s at k used = take at s ++ (drop (at + k) (take used s) ++ (replicate k 0 ++ drop used s))

-- All of src from index at on.
unfoldable pub pasted : List ℕ → ℕ → List ℕ → List ℕ
pasted s at src = take at s ++ (src ++ drop (at + length src) s)

-- With all of src put in at index at; the words at..used move up, over the words behind used.
unfoldable pub spliced : List ℕ → ℕ → ℕ → List ℕ → List ℕ
spliced s at used src = take at s ++ (src ++ (drop at (take used s) ++ drop (used + length src) s))
