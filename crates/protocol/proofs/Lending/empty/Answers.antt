-- `protocol::Lending::empty` meets its contract. Assumes nothing.
use mathlib.Core.Path.{refl, sym, ◌∙◌}
use native.Mathlib.Omega.{arith}
use Rattle.protocol.specs.Feeding.{lent_in}
use Rattle.protocol.proofs.Holding.{lends_zeros, all_cut}
use Rattle.protocol.proofs.Performing.{carries, empties}
use Rattle.calls.proofs.Parsing.{right_count}
use Rattle.register.specs.Register.{register_words}
use Rattle.ledger.specs.Routes.{ledger_words}
use Rattle.protocol.proofs.Lending.empty.Goals as goal

pub returns : goal.returns
returns c =
    let held = c.requires in
    carries _ _ _ _ (record { register = refl; overrides = refl; ledger = refl })
    (lends_zeros register_words _ (omega arith) (all_cut _ _ held.register_held c.cut.ensures))
    (lends_zeros register_words _ (omega arith) (all_cut _ _ held.overrides_held c.cut-2.ensures))
    (lends_zeros ledger_words _ (omega arith) (all_cut _ _ held.ledger_held c.cut-3.ensures))
    (right_count _ 1 _ (sym c.args.line.counted ∙ c.if-line-ne1.false)) (empties (lent_in c.args.self.now))
