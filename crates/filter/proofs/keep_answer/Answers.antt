-- `filter::keep_answer` meets its contract. Assumes nothing.
use Rattle.std.proofs.Common.{◌≡◌, ◌∙◌, ap}
use Rattle.std.proofs.lemmas.Result.{err_from_is_err_and}
use Rattle.types.specs.declared.Verdict.{Verdict}
use Rattle.types.specs.Numbers.{role_number, verdict_of}
use Rattle.ledger.specs.Routes.{Route}
use Rattle.ledger.specs.Calls.{route_for, store_effect}
use Rattle.effects.proofs.Keepings.{stored_done, stored_refused}
use Rattle.filter.proofs.keep_answer.Goals as goal

pub returns-in_err-store : goal.returns-in_err-store
returns-in_err-store c =
    let a = c.args in
    let r : Verdict → Route = λ v. route_for a.number.0 (role_number a.neighbour.role) a.neighbour.number.0 v a.path.now in
    let p = err_from_is_err_and c.from_residual.result c.from_residual.ensures.1 in
    rw (p.1, p.2)
    (stored_refused a.led.now (r (verdict_of a.answer)) a.answer
    (c.store.ensures ∙ ap (λ v. store_effect a.led.now (r v)) c.verdict.ensures) c.in_err-store.was)

pub returns : goal.returns
returns c =
    let a = c.args in
    let r : Verdict → Route = λ v. route_for a.number.0 (role_number a.neighbour.role) a.neighbour.number.0 v a.path.now in
    stored_done a.led.now (r (verdict_of a.answer)) a.answer
    (c.store.ensures ∙ ap (λ v. store_effect a.led.now (r v)) c.verdict.ensures) c.in_ok-store.was
