use mathlib.Core.Path.{refl}
use native.Mathlib.Omega.{arith}
use Rattle.numerals.proofs.Numbers.{digits_more, digits_low, digits_high, digits_end}
use Rattle.numerals.proofs.digits_at.Goals as goal

pub returns-then-b-lt48 : goal.returns-then-b-lt48
returns-then-b-lt48 c = digits_low c.loop-end.invariant c.loop-end-test.true c.if-b-lt48.true

pub returns-then-b-gt57 : goal.returns-then-b-gt57
returns-then-b-gt57 c = digits_high c.loop-end.invariant c.loop-end-test.true c.if-b-gt57.true

pub loop-end-preserved : goal.loop-end-preserved
loop-end-preserved c =
    rw c.grown-value.ensures (digits_more c.loop-end.invariant _ c.loop-end-test.true refl (omega arith) (omega arith))

pub returns : goal.returns
returns c = digits_end c.loop-end.invariant c.max.ensures c.loop-end.auto.end-end c.loop-end-test.false
