-- `text::read_hex` meets its contract. Assumes nothing.
use Rattle.std.proofs.Common.{arith, ◌∙◌, ◌≡◌, ◌<◌, length, sym}
use Rattle.std.proofs.lemmas.Bool.Decides.{nat_tests}
use Rattle.text.proofs.Pairs.{read, lengths, alone, stops, goes_on, ends}
use Rattle.text.proofs.read_hex.Goals as goal

pub returns-in_err-into : goal.returns-in_err-into
returns-in_err-into c =
    let r = read c.args.word.now c.as_chunks.ensures.front c.as_chunks.ensures.front_len c.loop-n-test.true in
    rw c.from_residual.ensures (stops c.loop-n.invariant r.0 (r.1 ∙ c.in_err-into.ensures) (omega arith))

pub loop-n-preserved : goal.loop-n-preserved
loop-n-preserved c =
    let r = read c.args.word.now c.as_chunks.ensures.front c.as_chunks.ensures.front_len c.loop-n-test.true in
    goes_on c.loop-n.invariant r.0 (r.1 ∙ sym c.in_ok-into.ensures.0) (omega (arith, c.in_ok-into.ensures))

pub returns-then-is_empty : goal.returns-then-is_empty
returns-then-is_empty c =
    let l = lengths c.args.word.now c.as_chunks.ensures.front_len c.as_chunks.ensures.back_len in
    let z : length c.as_chunks.result.1.now ≡ 0 = grind (arith, nat_tests) in
    let n : c.loop-n.n ≡ length c.as_chunks.result.0.now = omega arith in
    rw (← n) (ends c.loop-n.invariant (omega arith) (omega arith))

pub returns-else-is_empty : goal.returns-else-is_empty
returns-else-is_empty c =
    let l = lengths c.args.word.now c.as_chunks.ensures.front_len c.as_chunks.ensures.back_len in
    let z : 0 < length c.as_chunks.result.1.now = grind (arith, nat_tests) in
    stops c.loop-n.invariant (omega arith) (alone c.args.word.now c.loop-n.n (omega arith)) (omega arith)
