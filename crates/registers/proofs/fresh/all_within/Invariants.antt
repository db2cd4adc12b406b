-- `all_within` meets its contract: the values before place `i` are within their capacities.
use Rattle.registers.proofs.CanHold.{WithinTo}
use Rattle.registers.proofs.fresh.all_within.Given as goal

abbrev pub invariant-loop-i : goal.invariant-loop-i
invariant-loop-i l = WithinTo l.capacities l.values l.i
