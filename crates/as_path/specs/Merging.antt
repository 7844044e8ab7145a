-- The merged path ("Reading the attribute"; P4): the numbers of all segments, read as one list, each run of one number merged to one.
use Rattle.std.specs.Prelude.{ℕ, List, [], ◌∷◌, ◌++◌, cond, eqb}
use Rattle.as_path.specs.Segments.{Segment}

-- The numbers of segments, unmerged.
unfoldable pub numbers_in : List Segment → List ℕ
numbers_in [] = []
numbers_in (s ∷ ss) = s.numbers ++ numbers_in ss

-- What is left of a list that stands after the number x.
unfoldable pub runs_after : ℕ → List ℕ → List ℕ
runs_after x [] = []
runs_after x (y ∷ l) = cond (eqb y x) (runs_after x l) (y ∷ runs_after y l)

unfoldable pub merge_runs : List ℕ → List ℕ
merge_runs [] = []
merge_runs (x ∷ l) = x ∷ runs_after x l

-- A run goes on over a segment's end.
unfoldable pub merged_path : List Segment → List ℕ
merged_path ss = merge_runs (numbers_in ss)
