-- `protocol::Lending::resize_named` meets its contract. Assumes nothing.
use mathlib.Core.Path.{refl, ap}
use Rattle.calls.specs.Commands.{resize}
use Rattle.protocol.proofs.Holding.{lends_resized}
use Rattle.protocol.proofs.Performing.{carries, lends_same}
use Rattle.protocol.proofs.Lending.resize_named.Goals as goal

pub returns-in-Register : goal.returns-in-Register
returns-in-Register c =
    let to = c.requires.0 in
    let held = c.requires.1 in
    carries _ _ _ _ (record { register = refl; overrides = refl; ledger = refl }) (lends_resized _ _ _ held.register_held to c.cut.ensures)
    (lends_same _ _ held.overrides_held) (lends_same _ _ held.ledger_held) (ap (λ t. resize t c.args.to) c.in-Register.is) refl

pub returns-in-Overrides : goal.returns-in-Overrides
returns-in-Overrides c =
    let to = c.requires.0 in
    let held = c.requires.1 in
    carries _ _ _ _ (record { register = refl; overrides = refl; ledger = refl }) (lends_same _ _ held.register_held)
    (lends_resized _ _ _ held.overrides_held to c.cut-in-Overrides.ensures) (lends_same _ _ held.ledger_held)
    (ap (λ t. resize t c.args.to) c.in-Overrides.is) refl

pub returns-in-Ledger : goal.returns-in-Ledger
returns-in-Ledger c =
    let to = c.requires.0 in
    let held = c.requires.1 in
    carries _ _ _ _ (record { register = refl; overrides = refl; ledger = refl }) (lends_same _ _ held.register_held)
    (lends_same _ _ held.overrides_held) (lends_resized _ _ _ held.ledger_held to c.cut-in-Ledger.ensures)
    (ap (λ t. resize t c.args.to) c.in-Ledger.is) refl
