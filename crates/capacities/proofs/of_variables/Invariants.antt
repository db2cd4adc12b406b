-- `of_variables` meets its contract. The loop's invariant: the capacities of the variables passed are there.
use Rattle.capacities.proofs.Cells.{Found}
use Rattle.capacities.proofs.of_variables.Given as goal

abbrev pub invariant-loop-i : goal.invariant-loop-i
invariant-loop-i l = Found l.capacities l.i l.capacity-items
