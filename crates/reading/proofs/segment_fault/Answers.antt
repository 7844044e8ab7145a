-- `reading::segment_fault` meets its contract. Assumes nothing.
use mathlib.Core.Path.{sym, ◌∙◌}
use native.Mathlib.Omega.{arith}
use borrow.Author.Tests.{eq-eqb, ne_eqb}
use Rattle.as_path.specs.Segments.{number_bytes}
use Rattle.as_path.proofs.Scanning.{segment_count, segment_number, number_decides, none_decides}
use Rattle.reading.proofs.segment_fault.Goals as goal

pub returns-then-from_be_bytes-eq0 : goal.returns-then-from_be_bytes-eq0
returns-then-from_be_bytes-eq0 c =
    let n = segment_count _ _ c.segment_end-end.ensures c.if-attr-end.false c.as_chunks.ensures.front_len in
    let e = segment_number _ _ _ c.segment_end-end.ensures c.if-attr-end.false c.as_chunks.ensures.front n c.loop-k-test.true c.from_be_bytes.ensures in
    sym (c.loop-k.invariant ∙ number_decides number_bytes _ _ _ _ _ (omega (arith, n)) ∙ rw (eq-eqb _ 0 (sym e ∙ c.if-from_be_bytes-eq0.true)))

pub loop-k-preserved : goal.loop-k-preserved
loop-k-preserved c =
    let n = segment_count _ _ c.segment_end-end.ensures c.if-attr-end.false c.as_chunks.ensures.front_len in
    let e = segment_number _ _ _ c.segment_end-end.ensures c.if-attr-end.false c.as_chunks.ensures.front n c.loop-k-test.true c.from_be_bytes.ensures in
    c.loop-k.invariant ∙ number_decides number_bytes _ _ _ _ _ (omega (arith, n)) ∙ rw (ne_eqb _ 0 (λ z. c.if-from_be_bytes-eq0.false (e ∙ z)))

pub returns : goal.returns
returns c =
    let n = segment_count _ _ c.segment_end-end.ensures c.if-attr-end.false c.as_chunks.ensures.front_len in
    sym (c.loop-k.invariant ∙ none_decides number_bytes _ _ _ _ _ (omega (arith, n)))
