-- `offsets` meets its contract. The loop's invariant: the sums up to place `i` are in the table.
use Rattle.layout.proofs.OffsetTable.{Summed}
use Rattle.layout.proofs.offsets.Given as goal

abbrev pub invariant-loop-i : goal.invariant-loop-i
invariant-loop-i l = Summed l.capacities l.i l.end l.places
