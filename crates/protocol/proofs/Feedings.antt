-- A line that is answered, and pieces of the input. Assumes nothing.
use Prim.Native.Nat.{ℕ, ◌+◌, ◌≤◌, ◌<◌}
use mathlib.Core.Path.{◌≡◌, refl, sym, ap, ◌∙◌}
use mathlib.Core.Bool.{Bool, true, false, cond}
use mathlib.Core.List.{List, []}
use native.Mathlib.Omega.{arith}
use borrow.Author.Tests.{lt-ltb, le-ltb, ne_eqb, ltb-true, ltb-false}
use lib.Dec.{ltb}
use lib.ListN.{length, take}
use lib.Seq.{length-take-le}
use Rattle.lines.specs.Words.{before}
use Rattle.lines.proofs.Marks.{before_taken}
use Rattle.text.specs.declared.Text.{Text}
use Rattle.text.specs.Wrote.{Wrote}
use Rattle.history.specs.Calls.{Tables}
use Rattle.calls.specs.declared.Reply.{Reply}
use Rattle.calls.specs.Commands.{Command, most_line}
use Rattle.calls.specs.Performing.{Result, after, reply_to, performed}
use Rattle.replies.specs.Texts.{reply_text}
use Rattle.protocol.specs.Feeding.{answer_line, joined, command_in, Session, grown, fed, fed_text, fed_bytes, is_blank, finished, last_text, line_in}
use Rattle.protocol.proofs.Joining.{line_is, line_too_long}
use Rattle.std.specs.Prelude.{Option, Some}

-- The text of a command's reply.
pub replied :
    (t : Tables) (c : Command) (t' : Tables) (reply : Reply) {first last : Text}
    → record { reply = reply; tables = t' } ≡ performed t c
    → Wrote first last (reply_text t' reply) → Wrote first last (reply_text (after t c) (reply_to t c))
replied t c t' reply p w =
    let text : reply_text t' reply ≡ reply_text (after t c) (reply_to t c) = ap (λ (x : Result). reply_text x.tables x.reply) p in
    rw text at w

-- ---- the bytes up to a newline

pub part_is : (piece : List ℕ) (to : ℕ) → to ≡ 0 + length (before 10 piece) → take to piece ≡ before 10 piece
part_is piece to e =
    let z : to ≡ length (before 10 piece) = omega arith in
    ap (λ k. take k piece) z ∙ before_taken 10 piece

module _ (s : Session) (piece : List ℕ) (to : ℕ) (line : Option (List ℕ)) (e : to ≡ 0 + length (before 10 piece)) (j : line ≡ joined s.line (take to piece)) where
  grown_is : line ≡ grown s piece
  grown_is = j ∙ ap (joined s.line) (part_is piece to e)

  module _ (h : to < length piece) where
    ends : ltb (length (before 10 piece)) (length piece) ≡ true
    ends = lt-ltb (length (before 10 piece)) (length piece) (omega arith)

    -- The line ends, and is answered.
    pub line_ends :
        {tables : Tables} {next : Option (List ℕ)} → tables ≡ after s.tables (command_in line) → next ≡ Some []
        → (record { tables = tables; line = next } ≡ fed s piece) × (answer_line s.tables (command_in line) ≡ fed_text s piece) × (to + 1 ≡ fed_bytes piece)
    unfolding fed fed_text fed_bytes
    line_ends a b =
        rw ends (
          (λ i. record { tables = (a ∙ ap (λ l. after s.tables (command_in l)) grown_is) i; line = b i }),
          ap (λ l. answer_line s.tables (command_in l)) grown_is,
          omega arith,
        )

  module _ (h : length piece ≤ to) where
    goes_on : ltb (length (before 10 piece)) (length piece) ≡ false
    goes_on = le-ltb (length (before 10 piece)) (length piece) (omega arith)

    -- The line goes on, and nothing is answered.
    pub line_goes_on : to ≤ length piece → (record { tables = s.tables; line = line } ≡ fed s piece) × ([] ≡ fed_text s piece) × (to ≡ fed_bytes piece)
    unfolding fed fed_text fed_bytes
    line_goes_on l = rw goes_on ((λ i. record { tables = s.tables; line = grown_is i }), refl, omega arith)

-- A piece that has bytes loses some.
pub some_used : (piece : List ℕ) → 0 < length piece → (0 < fed_bytes piece) × (fed_bytes piece ≤ length piece)
unfolding fed_bytes
some_used piece h = go (ltb (length (before 10 piece)) (length piece)) refl
  where
    go :
        (b : Bool) → ltb (length (before 10 piece)) (length piece) ≡ b
        → (0 < cond b (length (before 10 piece) + 1) (length piece)) × (cond b (length (before 10 piece) + 1) (length piece) ≤ length piece)
    go true e =
        let l : length (before 10 piece) < length piece = ltb-true _ _ e in
        (omega arith, omega arith)
    go false e = (h, omega arith)

-- ---- the end

pub no_line : (n : ℕ) (line : List ℕ) → n ≡ 0 → line_in n line ≡ Some []
no_line n line e = line_is n line (omega arith) ∙ ap (λ k. Some (take k line)) e

pub blank_line : (n : ℕ) (line : List ℕ) → n ≡ 0 → is_blank (line_in n line) ≡ true
blank_line n line e = ap is_blank (no_line n line e)

pub not_blank : (n : ℕ) (line : List ℕ) → length line ≡ most_line → (n ≡ 0 → ⊥) → is_blank (line_in n line) ≡ false
not_blank n line l h = go (ltb most_line n) refl
  where
    go : (b : Bool) → ltb most_line n ≡ b → is_blank (line_in n line) ≡ false
    go true e = ap is_blank (line_too_long n line (ltb-true most_line n e))
    go false e =
        let k : n ≤ most_line = ltb-false most_line n e in
        let z : length (take n line) ≡ n = length-take-le n line (omega arith) in
        ap is_blank (line_is n line k) ∙ ne_eqb (length (take n line)) 0 (λ y. h (sym z ∙ y))

module _ (s : Session) where
  pub finishes_blank : is_blank s.line ≡ true → (s ≡ finished s) × ([] ≡ last_text s)
  unfolding finished last_text
  finishes_blank e = rw e (refl, refl)

  pub finishes :
      is_blank s.line ≡ false
      → (record { tables = after s.tables (command_in s.line); line = Some [] } ≡ finished s) × (answer_line s.tables (command_in s.line) ≡ last_text s)
  unfolding finished last_text
  finishes e = rw e (refl, refl)
