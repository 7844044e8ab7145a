-- `lines::find` meets its contract. Assumes nothing.
use Rattle.std.proofs.Common.{rules}
use Rattle.std.proofs.lemmas.Iterator.{YieldsList-from_slice}
use Rattle.std.proofs.lemmas.Iterator.Search.{position_from_yields_List}
use Rattle.std.proofs.lemmas.Option.{MatchOption-at_some, MatchOption-at_none}
use borrow.Author.Tests.{tests}
use lib.Dec.{eqb}
use Rattle.lines.proofs.Marks.{finds}
use Rattle.lines.proofs.find.Goals as goal

pub returns-in-Some : goal.returns-in-Some
returns-in-Some c =
    let e =
    position_from_yields_List (λ b. eqb b c.args.mark) _ _ _ c.position.ensures.ran (YieldsList-from_slice _ c.iter.ensures.rest)
    (λ x b q k. search (rules, tests)) in
    MatchOption-at_some _ _ c.in-Some.k c.in-Some.is (finds c.args.bytes.now c.args.from c.args.mark c.requires e)

pub returns-in-None : goal.returns-in-None
returns-in-None c =
    let e =
    position_from_yields_List (λ b. eqb b c.args.mark) _ _ _ c.position.ensures.ran (YieldsList-from_slice _ c.iter.ensures.rest)
    (λ x b q k. search (rules, tests)) in
    MatchOption-at_none _ _ c.in-None.is (finds c.args.bytes.now c.args.from c.args.mark c.requires e)
