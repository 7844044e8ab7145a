-- A command read part by part, and what it does. Assumes nothing.
use Prim.Native.Nat.{ℕ, ◌≤◌, ◌<◌}
use mathlib.Core.Path.{◌≡◌, refl, sym, ap, ◌∙◌}
use mathlib.Core.Bool.{true, false}
use mathlib.Core.List.{List, []}
use borrow.Author.Tests.{lt-ltb, le-ltb, eq-eqb, ne_eqb}
use lib.ListN.{length, get_or, take, drop}
use Rattle.std.specs.Prelude as prelude
use Rattle.std.specs.Prelude.{Option, Some, None}
use Rattle.text.specs.Numbers.{number_of}
use Rattle.text.specs.Bytes.{bytes_of, bytes_in, if_bytes, bytes_stored, read_count}
use Rattle.lines.specs.Words.{all_numbers, numbers_in}
use Rattle.lines.proofs.Readings.{read_bytes_in}
use Rattle.types.specs.declared.Answer.{Answer}
use Rattle.types.specs.declared.Refusal.{Refusal}
use Rattle.types.specs.Rows.{effect}
use Rattle.registers.specs.Registers.{lent}
use Rattle.effects.specs.Calls.{judge_answer, keeping, keep_effect}
use Rattle.calls.specs.declared.Reply.TheVariants.{Error, Judged}
use Rattle.calls.specs.Commands.{Command, call, judge, bad, of_words, with_number, with_bytes, with_numbers, up_to, judge_command, keep_command}
use Rattle.calls.specs.Performing.{Result, tables_of, result_of, performed}
use Rattle.history.specs.Calls.{keep}

-- ---- the parts

module _ (ws : List (List ℕ)) (n : ℕ) (command : Command) where
  pub other_count : (length ws ≡ n → ⊥) → of_words ws n command ≡ bad
  other_count h = rw (ne_eqb (length ws) n h) refl

  pub right_count : length ws ≡ n → of_words ws n command ≡ command
  right_count h = rw (eq-eqb (length ws) n h) refl

module _ (ws : List (List ℕ)) (k : ℕ) (f : ℕ → Command) where
  pub number_is : {x : ℕ} → number_of (get_or ws k []) ≡ Some x → with_number ws k f ≡ f x
  number_is e = rw e refl

  pub no_number : number_of (get_or ws k []) ≡ None → with_number ws k f ≡ bad
  no_number e = rw e refl

module _ (ws : List (List ℕ)) (k : ℕ) (f : List ℕ → Command) where
  pub bytes_are : {n : ℕ} → bytes_of (get_or ws k []) ≡ Some n → with_bytes ws k f ≡ f (bytes_in (get_or ws k []))
  bytes_are e = ap (λ r. if_bytes r (f (bytes_in (get_or ws k []))) bad) e

  pub no_bytes : bytes_of (get_or ws k []) ≡ None → with_bytes ws k f ≡ bad
  no_bytes e = ap (λ r. if_bytes r (f (bytes_in (get_or ws k []))) bad) e

  pub numbers_are : all_numbers (drop k ws) ≡ true → with_numbers ws k f ≡ f (numbers_in (drop k ws))
  numbers_are e = rw e refl

  pub no_numbers : all_numbers (drop k ws) ≡ false → with_numbers ws k f ≡ bad
  no_numbers e = rw e refl

module _ (most n : ℕ) (command : Command) where
  pub too_many : most < n → up_to most n command ≡ bad
  too_many h = rw (lt-ltb most n h) refl

  pub not_too_many : n ≤ most → up_to most n command ≡ command
  not_too_many h = rw (le-ltb most n h) refl

-- ---- what is done

module _ (reg overrides led : List ℕ) (c : Command) where
  -- A command that is read as another does what that one does.
  pub does : {o : Result} {d : Command} → c ≡ d → o ≡ performed (tables_of reg overrides led) d → o ≡ performed (tables_of reg overrides led) c
  does e p = p ∙ ap (performed (tables_of reg overrides led)) (sym e)

  -- What is no command changes nothing.
  pub does_nothing : c ≡ bad → result_of Error reg overrides led ≡ performed (tables_of reg overrides led) c
  does_nothing e = does e refl

-- ---- a call whose last argument was read into a buffer

-- The bytes of word w, read into a buffer.
pub record Buffered (w after : List ℕ) (k : ℕ) : Type 0 where
  pub length_read : bytes_of w ≡ Some k
  pub bytes_read : take k after ≡ bytes_in w

pub bytes_given :
    (word into : List ℕ) {after : List ℕ} {k : ℕ} {r : Option ℕ} → r ≡ bytes_of word → after ≡ bytes_stored into word → read_count r ≤ length into
    → r ≡ Some k → take k after ≡ bytes_in word
bytes_given word into {k = k} p q l e =
    ap (take k) q ∙ read_bytes_in word into k (sym p ∙ e) (rw (ap read_count e) at l)

pub buffered :
    (w into : List ℕ) {after : List ℕ} {k : ℕ} {r : Option ℕ} → r ≡ bytes_of w → after ≡ bytes_stored into w → read_count r ≤ length into
    → r ≡ Some k → Buffered w after k
buffered w into p q l e = record { length_read = sym p ∙ e; bytes_read = bytes_given w into p q l e }

module _ (reg overrides led : List ℕ) (ws : List (List ℕ)) {after : List ℕ} {k : ℕ} {role neighbour : ℕ} {j : prelude.Result Answer Refusal} where
  pub judges :
      length ws ≡ 4 → number_of (get_or ws 1 []) ≡ Some role → number_of (get_or ws 2 []) ≡ Some neighbour → Buffered (get_or ws 3 []) after k
      → j ≡ judge_answer (lent reg overrides) role neighbour (take k after) → result_of (Judged j) reg overrides led ≡ performed (tables_of reg overrides led) (judge_command ws)
  judges l r n a e =
      does reg overrides led (judge_command ws)
      (right_count ws 4 _ l ∙ number_is ws 1 _ r ∙ number_is ws 2 _ n ∙ bytes_are ws 3 (λ attribute. judge role neighbour attribute) a.length_read)
      (λ i. result_of (Judged ((e ∙ ap (judge_answer (lent reg overrides) role neighbour) a.bytes_read) i)) reg overrides led)

  pub keeps :
      {route : ℕ} {led' : List ℕ} → length ws ≡ 5 → number_of (get_or ws 1 []) ≡ Some route → number_of (get_or ws 2 []) ≡ Some role
      → number_of (get_or ws 3 []) ≡ Some neighbour → Buffered (get_or ws 4 []) after k
      → effect j led' ≡ keep_effect (lent reg overrides) led (keeping route role neighbour (take k after))
      → result_of (Judged j) reg overrides led' ≡ performed (tables_of reg overrides led) (keep_command ws)
  keeps {route = route} l m r n a e =
      let left = e ∙ ap (λ b. keep_effect (lent reg overrides) led (keeping route role neighbour b)) a.bytes_read in
      does reg overrides led (keep_command ws)
      (right_count ws 5 _ l ∙ number_is ws 1 _ m ∙ number_is ws 2 _ r ∙ number_is ws 3 _ n
      ∙ bytes_are ws 4 (λ attribute. call (keep (keeping route role neighbour attribute))) a.length_read)
      (λ i. result_of (Judged (left i).answer) reg overrides (left i).words)
