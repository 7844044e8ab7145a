-- `table::slots_ok` meets its contract.
use Rattle.std.proofs.Common.{◌∙◌, arith}
use Rattle.table.proofs.Checking.{ok_start, ok_count, ok_step, ok_done}
use Rattle.table.proofs.slots_ok.Goals as goal
use Rattle.table.proofs.slots_ok.Goals.{then-slot-layout-via-then-slot-layout, then-slot-layout-via-else-slot-layout+then-b-next}

pub returns-then-slot-layout : goal.returns-then-slot-layout
returns-then-slot-layout c =
    let given = c.loop-slot.invariant in
    let came = c.in-Some.ensures.steps.1 in
    let wide = came.1 ∙ given.wide in
    elim c.then-slot-layout.branch [
      | then-slot-layout-via-then-slot-layout w ↦ ok_start _ _ _ _ _ _ _ came.0 wide w.if-slot-layout.true ∙ given.same
      | then-slot-layout-via-else-slot-layout+then-b-next w ↦ ok_count _ _ _ _ _ _ _ came.0 wide w.if-slot-layout.false w.if-b-next.true ∙ given.same
    ]

pub loop-slot-preserved : goal.loop-slot-preserved
loop-slot-preserved c =
    let given = c.loop-slot.invariant in
    let came = c.in-Some.ensures.steps.1 in
    record {
      wide = c.in-Some.ensures.steps.0 ∙ given.wide;
      within = omega arith;
      same = ok_step _ _ _ _ _ _ _ came.0 (came.1 ∙ given.wide) c.if-slot-layout.false c.if-b-next.false ∙ given.same;
    }

pub returns : goal.returns
returns c = ok_done _ _ _ _ _ (omega (arith, c.in-None.ensures.steps.1.0, c.loop-slot.invariant.wide)) ∙ c.loop-slot.invariant.same
