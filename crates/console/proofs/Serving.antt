-- A state that is ready for the next piece. Assumes nothing.
use Prim.Native.Nat.{ℕ, zero, suc, ◌+◌, ◌-◌, ◌≤◌, ◌<◌}
use mathlib.Core.Path.{◌≡◌, refl, sym, ap, ◌∙◌}
use mathlib.Core.List.{List, []}
use native.Mathlib.Omega.{arith}
use borrow.Author.Tests.{ne_eqb}
use lib.ListN.{length, take, drop, length-drop, drop_of_length-le, replicate}
use lib.Seq.{take_all, drop-drop}
use Rattle.register.specs.Register.{register_words}
use Rattle.ledger.specs.Routes.{ledger_words}
use Rattle.calls.specs.Commands.{most_lent}
use Rattle.protocol.specs.declared.Console.{Console}
use Rattle.protocol.specs.Feeding.{Session, fed, fed_bytes, HeldAll, SameBuffers}
use Rattle.protocol.specs.Sessions.{fed_all}
use Rattle.protocol.proofs.Feedings.{some_used}
use Rattle.protocol.proofs.Holding.{lends_zeros}

-- The buffers stay.
pub same_still : (c : Console) → SameBuffers c c
same_still c = record { tables = record { register = refl; overrides = refl; ledger = refl }; line = refl; out = refl }

pub same_then : {a b c : Console} → SameBuffers a b → SameBuffers b c → SameBuffers a c
same_then p q =
    record {
      tables = record {
        register = q.tables.register ∙ p.tables.register;
        overrides = q.tables.overrides ∙ p.tables.overrides;
        ledger = q.tables.ledger ∙ p.tables.ledger;
      };
      line = q.line ∙ p.line;
      out = q.out ∙ p.out;
    }

-- ---- a piece, from index from on

pub rest_is : (piece : List ℕ) (from : ℕ) → take (length piece - from) (drop from piece) ≡ drop from piece
rest_is piece from = take_all (length piece - from) (drop from piece) (omega (arith, length-drop from piece))

-- What is used of the rest is something, and no more than the rest.
pub rest_used :
    (piece : List ℕ) (from : ℕ) → from < length piece → (0 < fed_bytes (drop from piece)) × (from + fed_bytes (drop from piece) ≤ length piece)
rest_used piece from h =
    let u = some_used (drop from piece) (omega (arith, length-drop from piece)) in
    (u.0, omega (arith, u.1, length-drop from piece))

-- The bytes up to from are used; feeding the rest ends where feeding the whole piece does.
pub record Taking (piece : List ℕ) (first now : Session) (from : ℕ) : Type 0 where
  pub within : from ≤ length piece
  pub most : ℕ
  pub enough : length piece ≤ from + most
  pub rest : fed_all most now (drop from piece) ≡ fed_all (length piece) first piece

pub takes : (piece : List ℕ) (s : Session) → Taking piece s s 0
takes piece s = record { within = omega arith; most = length piece; enough = omega arith; rest = refl }

fed_more : (most : ℕ) (s : Session) (piece : List ℕ) → 0 < length piece → fed_all (suc most) s piece ≡ fed_all most (fed s piece) (drop (fed_bytes piece) piece)
unfolding fed_all
fed_more most s piece h = rw (ne_eqb (length piece) 0 (λ e. absurd (omega arith))) refl

fed_none : (most : ℕ) (s : Session) → fed_all most s [] ≡ s
unfolding fed_all
fed_none zero s = refl
fed_none (suc most) s = refl

module _ {piece : List ℕ} {first now : Session} {from : ℕ} (g : Taking piece first now from) where
  pub takes_on :
      {next : Session} {to : ℕ} → from < length piece → next ≡ fed now (drop from piece) → to ≡ from + fed_bytes (drop from piece)
      → Taking piece first next to
  takes_on {next = next} {to = to} h e f =
      let u = rest_used piece from h in
      let z : suc (g.most - 1) ≡ g.most = omega (arith, g.enough) in
      let r : fed_all (suc (g.most - 1)) now (drop from piece) ≡ fed_all (length piece) first piece = rw z g.rest in
      record {
        within = omega (arith, u.1);
        most = g.most - 1;
        enough = omega (arith, u.0, g.enough);
        rest =
            (λ i. fed_all (g.most - 1) (e i) (drop (f i) piece))
            ∙ ap (fed_all (g.most - 1) (fed now (drop from piece))) (sym (drop-drop (fed_bytes (drop from piece)) from piece))
            ∙ sym (fed_more (g.most - 1) now (drop from piece) (omega (arith, length-drop from piece)))
            ∙ r;
      }

  pub all_taken : length piece ≤ from → now ≡ fed_all (length piece) first piece
  all_taken h =
      let e : drop from piece ≡ [] = drop_of_length-le piece {i = from} h in
      sym (fed_none g.most now) ∙ ap (fed_all g.most now) (sym e) ∙ g.rest

-- All three tables empty, of their full lengths.
pub starts :
    {reg overrides led : List ℕ}
    → reg ≡ replicate most_lent 0 → overrides ≡ replicate most_lent 0 → led ≡ replicate most_lent 0
    → HeldAll (record { register = register_words; overrides = register_words; ledger = ledger_words }) reg overrides led
starts {reg = reg} {overrides = overrides} {led = led} e o f =
    record {
      register_held = (lends_zeros register_words reg (omega arith) e).held;
      overrides_held = (lends_zeros register_words overrides (omega arith) o).held;
      ledger_held = (lends_zeros ledger_words led (omega arith) f).held;
    }
