-- `table::restart` meets its contract.
use Rattle.std.proofs.Common.{◌≡◌, ◌+◌, ◌-◌, ◌*◌, ◌<◌, ◌≤◌, ℕ, length, sym, ◌∙◌, arith}
use Rattle.table.specs.Table.{width}
use Rattle.table.proofs.Laws.{restart_step, counts_step, restart_done}
use Rattle.table.proofs.Sounds.{less_mul}
use Rattle.table.proofs.restart.Goals as goal

pub overflow_add-next : goal.overflow_add-next
overflow_add-next c =
    let l = c.loop-i in
    let a = c.args in
    let some : 0 < a.m - l.i = omega arith in
    rw c.width.ensures (omega (arith, counts_step l.s a.layout.head a.layout.tail (a.at + l.i * width a.layout.head a.layout.tail) (a.m - l.i) l.next some))

pub loop-i-preserved : goal.loop-i-preserved
loop-i-preserved c =
    let l = c.loop-i in
    let a = c.args in
    let w : ℕ = width a.layout.head a.layout.tail in
    let slot : ℕ = a.at + l.i * w in
    let some : 0 < a.m - l.i = omega arith in
    let turn : a.at + (l.i + 1) * w ≡ slot + w = omega arith in
    let fewer : a.m - (l.i + 1) ≡ a.m - l.i - 1 = omega arith in
    let room : slot + w ≤ length l.s = omega (arith, less_mul l.i a.m w c.loop-i-test.true) in
    record {
      counted = rw (c.width.ensures, turn, fewer) (omega (arith, counts_step l.s a.layout.head a.layout.tail slot (a.m - l.i) l.next some));
      same = rw (c.width.ensures, turn, fewer) (restart_step l.s a.layout.head a.layout.tail slot (a.m - l.i) l.next some room ∙ l.invariant.same);
    }

pub returns : goal.returns
returns c =
    let l = c.loop-i in
    let none : c.args.m - l.i ≤ 0 = omega arith in
    sym (restart_done _ _ _ _ _ l.next none) ∙ l.invariant.same
