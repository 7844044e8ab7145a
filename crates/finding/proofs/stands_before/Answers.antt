-- `stands_before` meets its contract.
use Rattle.std.proofs.Common.{◌≡◌, sym, ◌∙◌}
use Rattle.keyed.specs.Keyed.{before_pair}
use Rattle.register.specs.Register.{records_of, record_at, key_of}
use Rattle.register.proofs.Holding.{ordered}
use Rattle.register.proofs.Looking.{begins}
use Rattle.halves.proofs.Positions.{over}
use Rattle.finding.proofs.stands_before.Goals as goal

pub returns-clause-within : goal.returns-clause-within
returns-clause-within c =
    let r = c.args.register in
    let b = begins (records_of r.words.now) (ordered _ r.well_formed) c.args.customer.0 c.args.source in
    let e : c.is_before.result ≡ before_pair (key_of (record_at (records_of r.words.now) c.args.i)) (c.args.customer.0, c.args.source) = cc in
    (λ t. over b _ c.requires (sym e ∙ t), λ h. e ∙ b.below _ h)
