-- `numeral` meets its contract: digits, where there are some.
use native.Mathlib.Omega.{arith}
use Rattle.numerals.proofs.Numbers.{no_digits, digits-within}
use Rattle.numerals.proofs.numeral.Goals as goal

pub returns-then-digits-at : goal.returns-then-digits-at
returns-then-digits-at c = let a = c.args in
    no_digits a.text.now a.at a.most c.digits_at-digits.ensures (omega arith)

pub proper-requires : goal.proper-requires
proper-requires c = let a = c.args in
    digits-within a.text.now a.at a.most c.digits_at-digits.ensures (omega arith)
