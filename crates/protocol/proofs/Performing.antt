-- What a command does with the tables in their buffers. Assumes nothing.
use Prim.Native.Nat.{ℕ}
use mathlib.Core.Path.{◌≡◌, refl, sym, ap, ◌∙◌}
use mathlib.Core.List.{List}
use lib.ListN.{take, replicate}
use Rattle.register.specs.Register.{register_words}
use Rattle.ledger.specs.Routes.{ledger_words}
use Rattle.history.specs.Calls.{Tables, blank}
use Rattle.protocol.specs.declared.Lending.{Lending}
use Rattle.calls.specs.declared.Reply.{Reply}
use Rattle.calls.specs.declared.Reply.TheVariants.{Done, Error}
use Rattle.calls.specs.Commands.{Command, empty, bad}
use Rattle.calls.specs.Performing.{result_of, performed}
use Rattle.protocol.specs.Feeding.{Held, HeldIn, lent_in, SameTables, Carries}
use Rattle.protocol.proofs.Holding.{Lends}

-- The words that each table is lent with, after a command.
pub carries :
    (old new : Lending) (reply : Reply) (c : Command) {d : Command} {xs ys zs : List ℕ}
    → SameTables old new
    → Lends new.lent.register new.tables.register.now xs → Lends new.lent.overrides new.tables.overrides.now ys → Lends new.lent.ledger new.tables.ledger.now zs
    → c ≡ d → result_of reply xs ys zs ≡ performed (lent_in old) d
    → Carries old new reply c
carries old new reply c s g o h e p =
    record {
      same = s;
      result = (λ i. result_of reply (g.words_are i) (o.words_are i) (h.words_are i)) ∙ p ∙ ap (performed (lent_in old)) (sym e);
      held = record { register_held = g.held; overrides_held = o.held; ledger_held = h.held };
    }

-- What is no command changes nothing.
pub carries_nothing : (l : Lending) (c : Command) → HeldIn l → c ≡ bad → Carries l l Error c
carries_nothing l c h e =
    record {
      same = record { register = refl; overrides = refl; ledger = refl };
      result = ap (performed (lent_in l)) (sym e);
      held = h;
    }

-- A table that stays.
pub lends_same : (n : ℕ) (table : List ℕ) → Held n table → Lends n table (take n table)
lends_same n table h = record { held = h; words_are = refl }

pub empties : (t : Tables) → result_of Done (replicate register_words 0) (replicate register_words 0) (replicate ledger_words 0) ≡ performed t empty
unfolding blank
empties t = refl
