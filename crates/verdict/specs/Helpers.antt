-- What the functions of a verdict ask of each other.
use Rattle.std.specs.Prelude.{ℕ, ◌+◌, ◌≤◌, ◌≡◌, true, List, length}
use Rattle.types.specs.declared.Origins.{Origins}
use Rattle.types.specs.declared.Origins.TheVariants.{Two}
use Rattle.rules.specs.Hops.{HopFunction, is_not_plus, origin_of, up, down}

-- The longest path that is judged: longer than any that is read, and short enough that indices and their sums and differences fit.
abbrev pub longest_path : ℕ
longest_path = 65535

-- A path of one number or more.
abbrev pub Judgeable : List ℕ → Type 0
Judgeable path = (1 ≤ length path) × (length path ≤ longest_path)

-- Two hops of a path that are Not Provider+, upward to AS(u) and downward to AS(v), where u is at most v.
pub record Refused (hop : HopFunction) (path : List ℕ) (u v : ℕ) : Type 0 where
  pub low : 2 ≤ u
  pub order : u ≤ v
  pub high : v + 1 ≤ length path
  pub upward : is_not_plus (up hop path u) ≡ true
  pub downward : is_not_plus (down hop path v) ≡ true

-- Their registers.
abbrev pub refused_origins : HopFunction → List ℕ → ℕ → ℕ → Origins
refused_origins hop path u v = Two (origin_of (up hop path u)) (origin_of (down hop path v))
