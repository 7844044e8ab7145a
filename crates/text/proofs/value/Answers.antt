-- `text::value` meets its contract. Assumes nothing.
use Rattle.std.proofs.Common.{arith, ◌∙◌}
use Rattle.text.proofs.Digits.{no_digit, past, goes_on, ends}
use Rattle.text.proofs.value.Goals as goal

pub returns-then-not-is_ascii_digit : goal.returns-then-not-is_ascii_digit
returns-then-not-is_ascii_digit c = no_digit c.loop-b.invariant c.loop-b-test.true c.is_ascii_digit.ensures.value c.if-not-is_ascii_digit.true

pub returns-in_err-checked_mul : goal.returns-in_err-checked_mul
returns-in_err-checked_mul c =
    c.from_residual.ensures
    ∙ past c.loop-b.invariant c.loop-b-test.true c.is_ascii_digit.ensures.value c.if-not-is_ascii_digit.false (omega (arith, c.in_err-checked_mul.ensures))

pub returns-in_err-sum : goal.returns-in_err-sum
returns-in_err-sum c =
    c.from_residual-in_err-sum.ensures
    ∙ past c.loop-b.invariant c.loop-b-test.true c.is_ascii_digit.ensures.value c.if-not-is_ascii_digit.false
    (omega (arith, c.in_err-sum.ensures, c.in_ok-checked_mul.ensures))

pub loop-b-preserved : goal.loop-b-preserved
loop-b-preserved c =
    goes_on c.loop-b.invariant c.loop-b-test.true c.is_ascii_digit.ensures.value c.if-not-is_ascii_digit.false
    (omega (arith, c.in_ok-sum.ensures, c.in_ok-checked_mul.ensures)) (omega (arith, c.in_ok-sum.ensures))

pub returns : goal.returns
returns c = ends c.loop-b.invariant (omega arith)
