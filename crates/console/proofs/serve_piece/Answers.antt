-- `console::serve_piece` meets its contract. Assumes nothing.
use Rattle.std.proofs.Common.{rules}
use native.Mathlib.Omega.{arith}
use Rattle.console.proofs.Serving.{rest_used, takes, takes_on, all_taken, same_still, same_then}
use Rattle.console.proofs.serve_piece.Goals as goal

pub loop-from-init : goal.loop-from-init
loop-from-init c = record { taking = takes _ _; same = same_still _; ready = c.requires }

pub loop-from-smaller : goal.loop-from-smaller
loop-from-smaller c =
    let u = rest_used c.args.piece.now c.loop-from.from c.loop-from-test.true in
    omega (arith, c.in_ok-from.ensures.to, u.0, u.1)

pub loop-from-preserved : goal.loop-from-preserved
loop-from-preserved c =
    let before = c.loop-from.invariant in
    let line = c.serve_line.ensures in
    record {
      taking = takes_on before.taking c.loop-from-test.true line.session c.in_ok-from.ensures.to;
      same = same_then before.same line.same;
      ready = line.ready;
    }

pub returns-clause-session : goal.returns-clause-session
returns-clause-session c =
    let all = all_taken c.loop-from.invariant.taking c.loop-from-test.false in
    search (rules, all)
