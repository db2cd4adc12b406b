-- `all_ones` meets its contract: the registers before the i-th hold 1s alone.
use Rattle.ones.proofs.Tested.{OnesTo}
use Rattle.ones.proofs.all_ones.Given as goal

abbrev pub invariant-loop-i : goal.invariant-loop-i
invariant-loop-i l = OnesTo l.capacities l.store l.lengths l.from l.i
