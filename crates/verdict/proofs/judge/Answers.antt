-- `verdict::judge` meets its contract. Assumes nothing.
use mathlib.Core.Path.{sym, ◌∙◌, ap}
use Rattle.types.specs.Numbers.{role_number}
use Rattle.rules.specs.Verdicts.{judged}
use Rattle.registers.specs.Words.{words_of}
use Rattle.registers.proofs.Choosing.{hops_alone}
use Rattle.verdict.proofs.judge.Goals as goal

pub returns-then-count-eq0 : goal.returns-then-count-eq0
returns-then-count-eq0 c =
    let none = sym c.count.ensures.exact ∙ c.if-count-eq0.true in
    c.judge_by.ensures ∙ ap (λ hop. judged hop c.args.path.now (role_number c.args.role)) (sym (hops_alone (words_of c.args.registers) none))
