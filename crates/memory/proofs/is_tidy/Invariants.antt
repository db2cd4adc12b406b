-- `is_tidy` meets its contract: the lengths after the first and before i are 0.
use Rattle.memory.proofs.Rest.{EmptyTo}
use Rattle.memory.proofs.is_tidy.Given as goal

abbrev pub invariant-loop-i : goal.invariant-loop-i
invariant-loop-i l = EmptyTo l.lengths l.i
