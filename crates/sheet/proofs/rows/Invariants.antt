-- `rows` meets its contract. The loop's invariant: the lines before `at` are passed, line `n` is next. What is left of the sheet falls.
use Prim.Native.Nat.{◌-◌}
use lib.ListN.{length, take}
use Rattle.sheet.proofs.Along.{Along}
use Rattle.sheet.proofs.rows.Given as goal

abbrev pub invariant-loop-at : goal.invariant-loop-at
invariant-loop-at l = Along l.sheet l.capacities (take l.names.count l.names.columns) l.from l.at l.n

abbrev pub decreases-loop-at : goal.decreases-loop-at
decreases-loop-at l = length l.sheet - l.at
