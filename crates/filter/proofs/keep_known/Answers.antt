-- `filter::keep_known` meets its contract. Assumes nothing.
use Rattle.std.proofs.Common.{◌≡◌, sym, ◌∙◌, ap}
use Rattle.std.proofs.lemmas.Result.{err_from_is_err_and}
use Rattle.std.specs.Prelude.{Ok}
use lib.Dec.{lit≤}
use lib.ListN.{replicate}
use native.Mathlib.Omega.{arith}
use Rattle.types.specs.Numbers.{role_number, verdict_of}
use Rattle.as_path.specs.Reading.{most_numbers, content_of}
use Rattle.rules.specs.Verdicts.{judged}
use Rattle.registers.specs.Registers.{hop_in}
use Rattle.registers.specs.Words.{words_of}
use Rattle.ledger.specs.Calls.{route_for}
use Rattle.effects.specs.Helpers.{stored_effect}
use Rattle.effects.proofs.Judgings.{read_path, some_numbers, in_buffer}
use Rattle.effects.proofs.Keepings.{keep_faulty, keep_ground, keep_path}
use Rattle.filter.proofs.keep_known.Goals as goal

pub returns-in_err-ground : goal.returns-in_err-ground
returns-in_err-ground c =
    let p = err_from_is_err_and c.from_residual.result c.from_residual.ensures.1 in
    rw (p.1, p.2) (keep_faulty c.args.number.0 c.requires (sym c.read.ensures.0 ∙ c.in_err-ground.was))

pub judge-answer-requires : goal.judge-answer-requires
judge-answer-requires c =
    let a = c.args in
    let role = role_number a.neighbour.role in
    let number = a.neighbour.number.0 in
    let p = read_path (content_of role number a.attribute.now) _ (sym c.read.ensures.0 ∙ c.in_ok-ground.was ∙ ap Ok c.in-Path.is) in
    rw (in_buffer role number a.attribute.now p (replicate most_numbers 0) _ (lit≤ tt) c.read.ensures.1, p.long)
    (some_numbers role number a.attribute.now p, omega (arith, p.few))

pub returns-in-OnGround : goal.returns-in-OnGround
returns-in-OnGround c =
    c.keep_answer.ensures
    ∙ keep_ground c.args.number.0 c.requires (sym c.read.ensures.0 ∙ c.in_ok-ground.was ∙ ap Ok c.in-OnGround.is)

pub returns-in-Path : goal.returns-in-Path
returns-in-Path c =
    let a = c.args in
    let role = role_number a.neighbour.role in
    let number = a.neighbour.number.0 in
    let p = read_path (content_of role number a.attribute.now) _ (sym c.read.ensures.0 ∙ c.in_ok-ground.was ∙ ap Ok c.in-Path.is) in
    let e = in_buffer role number a.attribute.now p (replicate most_numbers 0) _ (lit≤ tt) c.read.ensures.1 in
    let j = c.judge-answer.ensures ∙ ap (λ l. judged (hop_in (words_of a.registers)) l role) e in
    c.keep_answer-in-Path.ensures
    ∙ (λ i. stored_effect a.led.now (route_for a.number.0 role number (verdict_of (j i)) (e i)) (j i))
    ∙ keep_path a.number.0 c.requires p
