-- `digits_at` meets its contract: the digits left and the number so far make those of the whole.
use Rattle.numerals.proofs.Numbers.{DigitsFrom}
use Rattle.numerals.proofs.digits_at.Given as goal

abbrev pub invariant-loop-end : goal.invariant-loop-end
invariant-loop-end l = DigitsFrom l.text l.at l.most l.end l.value
