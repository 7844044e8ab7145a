-- Lines in their buffer, bytes added to them, and their commands. Assumes nothing.
use Prim.Native.Nat.{ℕ, ◌+◌, ◌-◌, ◌≤◌, ◌<◌}
use mathlib.Core.Path.{◌≡◌, refl, sym, ap, ◌∙◌}
use mathlib.Core.List.{List, ◌++◌}
use native.Mathlib.Omega.{arith}
use borrow.Author.Tests.{lt-ltb, le-ltb}
use lib.ListN.{length, take, drop, length-append}
use lib.Seq.{sets, sets-eq, length-take-le, take_at}
use Rattle.protocol.specs.Feeding.{joined, command_in, line_in, line_stored}
use Rattle.lines.specs.Words.{words_of}
use Rattle.calls.specs.Commands.{bad, most_line}
use Rattle.commands.specs.Commands.{command_of}
use Rattle.std.specs.Prelude.{None, Some}

pub line_too_long : (n : ℕ) (line : List ℕ) → most_line < n → line_in n line ≡ None
unfolding line_in
line_too_long n line h = rw (lt-ltb most_line n h) refl

pub line_is : (n : ℕ) (line : List ℕ) → n ≤ most_line → line_in n line ≡ Some (take n line)
unfolding line_in
line_is n line h = rw (le-ltb most_line n h) refl

-- ---- bytes added to a line

pub joined_none : (line part : List ℕ) → most_line < length line + length part → joined (Some line) part ≡ None
unfolding joined
joined_none line part h = rw (lt-ltb most_line (length line + length part) h) refl

pub joined_some : (line part : List ℕ) → length line + length part ≤ most_line → joined (Some line) part ≡ Some (line ++ part)
unfolding joined
joined_some line part h = rw (le-ltb most_line (length line + length part) h) refl

pub joined_too_long : (part : List ℕ) → joined None part ≡ None
unfolding joined
joined_too_long part = refl

stays : (n : ℕ) (line part : List ℕ) → most_line < n + length part → line ≡ line_stored n line part
unfolding line_stored
stays n line part h = rw (lt-ltb most_line (n + length part) h) refl

module _ (n : ℕ) (line part : List ℕ) (size : length line ≡ most_line) where
  pub joins_none : length line < n → (line_in n line ≡ joined (line_in n line) part) × (line ≡ line_stored n line part)
  joins_none h =
      let e : line_in n line ≡ None = line_too_long n line (omega arith) in
      (rw e (sym (joined_too_long part)), stays n line part (omega arith))

  pub joins_too_long : n ≤ length line → length line - n < length part
      → (line_in (length line + 1) line ≡ joined (line_in n line) part) × (line ≡ line_stored n line part)
  joins_too_long l h =
      let e : line_in (length line + 1) line ≡ None = line_too_long (length line + 1) line (omega arith) in
      let f : line_in n line ≡ Some (take n line) = line_is n line (omega arith) in
      let g : most_line < length (take n line) + length part = omega (arith, length-take-le n line l) in
      (rw (e, f) (sym (joined_none (take n line) part g)), stays n line part (omega arith))

  pub joins : {r : ℕ} {line' : List ℕ} → n ≤ length line → length part ≤ length line - n → r ≡ n + length part → line' ≡ sets line n part
      → (line_in r line' ≡ joined (line_in n line) part) × (line' ≡ line_stored n line part)
  unfolding line_stored
  joins {r = r} {line' = line'} l h e f =
      let k : length (take n line) ≡ n = length-take-le n line l in
      let g : length (take n line) + length part ≤ most_line = omega arith in
      let taken : take r line' ≡ take n line ++ part =
      ap (take r) (f ∙ sets-eq part line n (omega arith)) ∙ take_at (take n line ++ part) (drop (n + length part) line) r (omega (arith, length-append (take n line) part)) in (
        line_is r line' (omega arith) ∙ ap Some taken
            ∙ sym (ap (λ l. joined l part) (line_is n line (omega arith)) ∙ joined_some (take n line) part g),
        f ∙ sym (rw (le-ltb most_line (n + length part) (omega arith)) refl),
      )

-- ---- the command of a line

pub command_too_long : (n : ℕ) (line : List ℕ) → most_line < n → command_in (line_in n line) ≡ bad
unfolding command_in
command_too_long n line h = rw (line_too_long n line h) refl

pub command_is : (n : ℕ) (line : List ℕ) → n ≤ most_line → command_in (line_in n line) ≡ command_of (words_of (take n line))
unfolding command_in
command_is n line h = rw (line_is n line h) refl
