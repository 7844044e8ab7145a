-- `lines::Line::word` meets its contract. Assumes nothing.
use Rattle.std.proofs.Common.{rules, refl}
use Rattle.std.proofs.lemmas.Iterator.Consumers.{nth_from_yields_List}
use Rattle.std.proofs.lemmas.Iterator.Splits.{YieldsList-from_slice_split}
use borrow.Author.Tests.{tests}
use lib.Dec.{eqb}
use Rattle.lines.proofs.Words.{looked_up, within}
use Rattle.lines.proofs.Line.word.Goals as goal

pub returns : goal.returns
returns c =
    let e =
    nth_from_yields_List _ _ _ c.nth.ensures.ran
    (YieldsList-from_slice_split _ (λ b. eqb b 32) _ c.split.ensures.rest c.split.ensures.done c.split.ensures.closure
    (λ x b q k. search (rules, tests))) in
    let v = looked_up c.args.self.bytes.now c.args.k _ _ e refl in
    record { value = rw c.unwrap_or.ensures v; len = rw (c.unwrap_or.ensures, v) (within c.args.self.bytes.now c.args.k) }
