-- `all_within` meets its contract: the lengths before place `i` are within their capacities.
use Rattle.registers.proofs.CanHold.{WithinTo}
use Rattle.countable.proofs.all_within.Given as goal

abbrev pub invariant-loop-i : goal.invariant-loop-i
invariant-loop-i l = WithinTo l.capacities l.lengths l.i
