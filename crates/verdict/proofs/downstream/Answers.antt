-- `verdict::downstream` meets its contract. Assumes nothing.
use Rattle.verdict.proofs.Naming.{refused}
use Rattle.verdict.proofs.Judgements.{judged_invalid, judged_valid, judged_unknown}
use Rattle.verdict.proofs.downstream.Goals as goal

pub origins-origins-requires-clause-refused : goal.origins-origins-requires-clause-refused
origins-origins-requires-clause-refused g c = refused c.find_ramps-u.ensures c.if-u-v.true

pub returns-then-u-v : goal.returns-then-u-v
returns-then-u-v g c =
    judged_invalid c.find_ramps-u.ensures (record { sfits = c.gap-gap.type_inv }) c.gap-gap.ensures c.if-u-v.true c.origins-origins.ensures

pub returns-then-l-k : goal.returns-then-l-k
returns-then-l-k g c =
    judged_valid c.find_ramps-u.ensures (record { sfits = c.gap-gap.type_inv }) c.gap-gap.ensures c.if-u-v.false c.if-l-k.true

pub returns-else-l-k : goal.returns-else-l-k
returns-else-l-k g c =
    judged_unknown c.find_ramps-u.ensures (record { sfits = c.gap-gap.type_inv }) c.gap-gap.ensures c.if-u-v.false c.if-l-k.false
