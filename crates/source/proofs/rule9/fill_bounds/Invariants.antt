-- `fill_bounds` sets the capacity of every loop passed. The invariant: those of the loops around the next line are set. Assumes nothing.
use Prim.Native.Nat.{suc}
use Rattle.source.specs.Lines.{Bounded}
use Rattle.source.proofs.rule9.fill_bounds.Given as goal

abbrev pub invariant-loop-n : goal.invariant-loop-n
invariant-loop-n l = Bounded l.list (suc l.n) l.capacities l.bounds
