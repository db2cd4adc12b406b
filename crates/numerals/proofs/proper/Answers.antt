-- `proper` meets its contract: digits that are one alone, or begin with no 0.
use native.Mathlib.Omega.{arith}
use Rattle.numerals.proofs.Numbers.{no_zero, numeral_one, numeral_other}
use Rattle.numerals.proofs.proper.Goals as goal

pub returns-then-at-digits : goal.returns-then-at-digits
returns-then-at-digits c = let a = c.args in
    λ most d some. no_zero a.text.now a.at most d some c.if-text-at-eq48.true c.if-at-digits.true

pub returns-else-at-digits : goal.returns-else-at-digits
returns-else-at-digits c = let a = c.args in
    λ most d some. numeral_one a.text.now a.at most d some (omega arith)

pub returns-else-text-at-eq48 : goal.returns-else-text-at-eq48
returns-else-text-at-eq48 c = let a = c.args in
    λ most d some. numeral_other a.text.now a.at most d some c.if-text-at-eq48.false
