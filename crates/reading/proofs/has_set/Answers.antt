-- `reading::has_set` meets its contract. Assumes nothing.
use native.Mathlib.Omega.{arith}
use Rattle.as_path.specs.Segments.{number_bytes}
use Rattle.as_path.proofs.Grounding.{seeks, not_found, here, found, goes_on}
use Rattle.reading.proofs.has_set.Goals as goal

pub loop-at-init : goal.loop-at-init
loop-at-init c = seeks number_bytes _ c.requires

pub returns-then-attr-at-eq-AS_SET : goal.returns-then-attr-at-eq-AS_SET
returns-then-attr-at-eq-AS_SET c = found c.loop-at.invariant c.loop-at-test.true c.if-attr-at-eq-AS_SET.true

pub segment_end-at-requires : goal.segment_end-at-requires
segment_end-at-requires c = omega (arith, (here c.loop-at.invariant c.loop-at-test.true).head)

pub loop-at-preserved : goal.loop-at-preserved
loop-at-preserved c = goes_on c.loop-at.invariant c.loop-at-test.true c.if-attr-at-eq-AS_SET.false c.segment_end-at.ensures

pub returns : goal.returns
returns c = not_found c.loop-at.invariant c.loop-at-test.false
