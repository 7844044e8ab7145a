-- `filter::judge` meets its contract. Assumes nothing.
use Rattle.std.proofs.Common.{◌≡◌, sym, ◌∙◌, ap}
use Rattle.std.proofs.lemmas.Result.{err_from_is_err_and}
use Rattle.registers.specs.Registers.{lent}
use Rattle.rules.specs.Judging.{answer_to}
use Rattle.as_path.specs.Reading.{content_of}
use Rattle.registers.specs.Registers.{hop_in}
use Rattle.types.specs.Numbers.{role_number}
use Rattle.effects.proofs.Judgings.{judge_length, judge_malformed, judge_answers}
use Rattle.filter.proofs.Knowing.{judged_refused, judged_known}
use Rattle.filter.proofs.judge.Goals as goal

pub returns-in_err-check_lengths : goal.returns-in_err-check_lengths
returns-in_err-check_lengths c =
    let a = c.args in
    let p = err_from_is_err_and c.from_residual.result c.from_residual.ensures.1 in
    let q = c.in_err-check_lengths.ensures in
    rw (p.1, p.2, q.0) (judge_length (lent a.public.now a.overrides.now) a.role a.neighbour.0 a.attribute.now q.1)

pub returns-in_err-registers : goal.returns-in_err-registers
returns-in_err-registers c =
    let a = c.args in
    let p = err_from_is_err_and c.from_residual-in_err-registers.result c.from_residual-in_err-registers.ensures.1 in
    let q = c.in_err-registers.ensures in
    rw (p.1, p.2, q.0) (judge_malformed (lent a.public.now a.overrides.now) a.role a.neighbour.0 a.attribute.now c.in_ok-check_lengths.ensures q.1)

pub returns-in_err-neighbour : goal.returns-in_err-neighbour
returns-in_err-neighbour c =
    let a = c.args in
    let reg = lent a.public.now a.overrides.now in
    let p = err_from_is_err_and c.from_residual-in_err-neighbour.result c.from_residual-in_err-neighbour.ensures.1 in
    rw (p.1, p.2)
    (sym (judge_answers reg a.role a.neighbour.0 a.attribute.now c.in_ok-check_lengths.ensures c.in_ok-registers.ensures.1
    ∙ judged_refused (hop_in reg) a.role a.neighbour.0 a.attribute.now _ (sym c.in_err-neighbour.ensures)))

pub returns : goal.returns
returns c =
    let a = c.args in
    let reg = lent a.public.now a.overrides.now in
    let k = c.in_ok-neighbour.neighbour in
    c.judge_known.ensures
    ∙ ap (λ r. answer_to (hop_in r) (role_number k.role) (content_of (role_number k.role) k.number.0 a.attribute.now)) c.in_ok-registers.ensures.0
    ∙ sym (judge_answers reg a.role a.neighbour.0 a.attribute.now c.in_ok-check_lengths.ensures c.in_ok-registers.ensures.1
    ∙ judged_known (hop_in reg) a.role a.neighbour.0 a.attribute.now k (sym c.in_ok-neighbour.ensures))
