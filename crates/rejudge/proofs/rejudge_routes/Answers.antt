-- `rejudge::rejudge_routes` meets its contract. Assumes nothing.
use Rattle.rejudge.proofs.Turns.{turns, turned_all, may_turn, turns_changed, turns_same}
use Rattle.rejudge.proofs.rejudge_routes.Goals as goal
use Rattle.rejudge.proofs.rejudge_routes.Goals.{then-rejudge_route, else-rejudge_route}

pub loop-i-init : goal.loop-i-init
loop-i-init c = turns _ _ c.requires.0 c.requires.1 c.count-n.ensures.0

pub rejudge_route-requires : goal.rejudge_route-requires
rejudge_route-requires c = may_turn c.loop-i.invariant c.loop-i-test.true

pub loop-i-preserved : goal.loop-i-preserved
loop-i-preserved c =
    let i = c.loop-i.invariant in
    let h = c.loop-i-test.true in
    elim c.if-rejudge_route.branch [
      | then-rejudge_route w ↦ rw w.changed-is (turns_changed i h c.rejudge_route.ensures w.if-rejudge_route.true)
      | else-rejudge_route w ↦ rw w.changed-is (turns_same i h c.rejudge_route.ensures w.if-rejudge_route.false)
    ]

pub returns : goal.returns
returns c = turned_all c.loop-i.invariant c.loop-i-test.false
