-- `filter::hop` meets its contract. Assumes nothing.
use Rattle.std.proofs.Common.{◌≡◌, ◌∙◌, ap}
use Rattle.std.proofs.lemmas.Result.{err_from_is_err_and}
use Rattle.registers.specs.Registers.{lent}
use Rattle.registers.specs.Registers.{hop_in}
use Rattle.effects.proofs.Looking.{hop_length, hop_malformed, hop_answered}
use Rattle.filter.proofs.hop.Goals as goal

pub returns-in_err-check_lengths : goal.returns-in_err-check_lengths
returns-in_err-check_lengths c =
    let a = c.args in
    let p = err_from_is_err_and c.from_residual.result c.from_residual.ensures.1 in
    let q = c.in_err-check_lengths.ensures in
    rw (p.1, p.2, q.0) (hop_length (lent a.public.now a.overrides.now) a.x.0 a.y.0 q.1)

pub returns-in_err-registers : goal.returns-in_err-registers
returns-in_err-registers c =
    let a = c.args in
    let p = err_from_is_err_and c.from_residual-in_err-registers.result c.from_residual-in_err-registers.ensures.1 in
    let q = c.in_err-registers.ensures in
    rw (p.1, p.2, q.0) (hop_malformed (lent a.public.now a.overrides.now) a.x.0 a.y.0 c.in_ok-check_lengths.ensures q.1)

pub returns : goal.returns
returns c =
    let a = c.args in
    let q = c.in_ok-registers.ensures in
    hop_answered (lent a.public.now a.overrides.now) a.x.0 a.y.0 c.in_ok-check_lengths.ensures q.1
    (c.hop_between.ensures ∙ ap (λ r. hop_in r a.x.0 a.y.0) q.0)
