-- `filter::judge_known` meets its contract. Assumes nothing.
use Rattle.std.proofs.Common.{◌≡◌, sym, ◌∙◌, ap}
use Rattle.std.specs.Prelude.{Ok}
use lib.Dec.{lit≤}
use lib.ListN.{replicate}
use native.Mathlib.Omega.{arith}
use Rattle.types.specs.Numbers.{role_number}
use Rattle.as_path.specs.Reading.{most_numbers, content_of}
use Rattle.rules.specs.Verdicts.{judged}
use Rattle.registers.specs.Registers.{hop_in}
use Rattle.registers.specs.Words.{words_of}
use Rattle.effects.proofs.Judgings.{read_path, some_numbers, in_buffer, path_judged}
use Rattle.filter.proofs.judge_known.Goals as goal

pub judge-requires : goal.judge-requires
judge-requires c =
    let a = c.args in
    let role = role_number a.neighbour.role in
    let number = a.neighbour.number.0 in
    let p = read_path (content_of role number a.attribute.now) _ (sym c.read.ensures.0 ∙ c.in_ok-ground.was ∙ ap Ok c.in-Path.is) in
    rw (in_buffer role number a.attribute.now p (replicate most_numbers 0) _ (lit≤ tt) c.read.ensures.1, p.long)
    (some_numbers role number a.attribute.now p, omega (arith, p.few))

pub returns-in-Path : goal.returns-in-Path
returns-in-Path c =
    let a = c.args in
    let role = role_number a.neighbour.role in
    let number = a.neighbour.number.0 in
    let hop = hop_in (words_of a.registers) in
    let p = read_path (content_of role number a.attribute.now) _ (sym c.read.ensures.0 ∙ c.in_ok-ground.was ∙ ap Ok c.in-Path.is) in
    let e = in_buffer role number a.attribute.now p (replicate most_numbers 0) _ (lit≤ tt) c.read.ensures.1 in
    ap Ok (c.judge.ensures ∙ ap (λ l. judged hop l role) e) ∙ path_judged role number a.attribute.now p hop
