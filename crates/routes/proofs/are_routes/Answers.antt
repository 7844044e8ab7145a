-- `routes::are_routes` meets its contract. Assumes nothing.
use mathlib.Core.Path.{sym, ◌∙◌}
use native.Mathlib.Omega.{arith}
use Rattle.ledger.proofs.Checking.{path_inside, part_is}
use Rattle.routes.proofs.Checking.{formed_sound, formed_long, checks, all_checked, no_order, its_path, no_route, checks_on}
use Rattle.routes.proofs.are_routes.Goals as goal
use Rattle.routes.proofs.are_routes.Goals.{then-not-is_behind-via-then-not-is_behind, then-not-is_behind-via-else-not-is_behind+then-not-is_route}

pub word-n-requires : goal.word-n-requires
word-n-requires c = omega (arith, formed_long _ c.requires)

pub loop-i-init : goal.loop-i-init
loop-i-init c = checks (formed_sound _ c.requires) c.word-n.ensures.0

pub overflow_add-to : goal.overflow_add-to
overflow_add-to c = omega (arith, path_inside (its_path c.loop-i.invariant c.loop-i-test.true c.path_length.ensures))

pub offset_bounds-led-from : goal.offset_bounds-led-from
offset_bounds-led-from c = omega (arith, path_inside (its_path c.loop-i.invariant c.loop-i-test.true c.path_length.ensures))

pub slice_bounds-is_route-end : goal.slice_bounds-is_route-end
slice_bounds-is_route-end c = path_inside (its_path c.loop-i.invariant c.loop-i-test.true c.path_length.ensures)

pub is_route-requires-clause-its_path : goal.is_route-requires-clause-its_path
is_route-requires-clause-its_path c = part_is (its_path c.loop-i.invariant c.loop-i-test.true c.path_length.ensures)

pub returns-then-not-is_behind : goal.returns-then-not-is_behind
returns-then-not-is_behind c =
    elim c.then-not-is_behind.branch [
      | then-not-is_behind-via-then-not-is_behind w ↦
          no_order c.loop-i.invariant c.loop-i-test.true (sym c.is_behind.ensures ∙ w.if-not-is_behind.true)
      | then-not-is_behind-via-else-not-is_behind+then-not-is_route w ↦
          no_route c.loop-i.invariant c.loop-i-test.true c.path_length.ensures
          (sym c.is_behind.ensures ∙ w.if-not-is_behind.false) (sym w.is_route.ensures ∙ w.if-not-is_route.true)
    ]

pub loop-i-preserved : goal.loop-i-preserved
loop-i-preserved c =
    checks_on c.loop-i.invariant c.loop-i-test.true c.path_length.ensures
    (sym c.is_behind.ensures ∙ c.if-not-is_behind.false) (sym c.is_route.ensures ∙ c.if-not-is_route.false)

pub returns : goal.returns
returns c = all_checked c.loop-i.invariant c.loop-i-test.false
