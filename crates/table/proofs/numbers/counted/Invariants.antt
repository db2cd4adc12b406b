-- `counted` meets its contract. The loop's invariant: the tally is that of the entries passed.
use mathlib.Core.Path.{◌≡◌}
use lib.ListN.{take}
use Rattle.word.specs.Answers.{zipped}
use Rattle.tally.specs.Tallies.{tally_of}
use Rattle.table.proofs.numbers.counted.Given as goal

abbrev pub invariant-loop-i : goal.invariant-loop-i
invariant-loop-i l = l.t ≡ tally_of (take l.i (zipped l.kinds l.operands))
