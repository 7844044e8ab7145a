-- `reading::first_fault` meets its contract. Assumes nothing.
use native.Mathlib.Omega.{arith}
use Rattle.as_path.specs.Segments.{number_bytes}
use Rattle.as_path.proofs.Scanning.{start, ends, found, here, goes_on}
use Rattle.reading.proofs.first_fault.Goals as goal

pub loop-at-init : goal.loop-at-init
loop-at-init c = start number_bytes c.args.attr.now

pub returns-in-Some : goal.returns-in-Some
returns-in-Some c = found c.loop-at.invariant c.loop-at-test.true c.in-Some.ensures

pub segment_end-at-requires : goal.segment_end-at-requires
segment_end-at-requires c = omega (arith, (here c.loop-at.invariant c.loop-at-test.true c.in_default.ensures).head)

pub loop-at-preserved : goal.loop-at-preserved
loop-at-preserved c = goes_on c.loop-at.invariant c.loop-at-test.true c.in_default.ensures c.segment_end-at.ensures

pub returns : goal.returns
returns c = ends c.loop-at.invariant c.loop-at-test.false
