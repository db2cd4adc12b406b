-- `fill` meets its contract. The loop's invariant: the entries before `at` are `i`, and the lent lists begin with their kinds and
-- operands.
use Rattle.word.proofs.Filling.{Filling}
use Rattle.word.proofs.reading.fill.Given as goal

abbrev pub invariant-loop-i : goal.invariant-loop-i
invariant-loop-i l = Filling l.word l.initial.kinds l.initial.operands l.kinds l.operands l.at l.i
