-- `passes` meets its contract: before each line what is left to test is what the whole list asks.
use Rattle.capacities.specs.Room.{roomy}
use Rattle.capacities.proofs.Along.{SoFar}
use Rattle.capacities.proofs.passes.Given as goal

abbrev pub invariant-loop-n : goal.invariant-loop-n
invariant-loop-n l = SoFar (roomy l.most l.capacities) l.variables l.list l.n l.deep
