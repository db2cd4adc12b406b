-- `stretch` meets its contract: between two strides the steps done so far lead from where it began to where it stands.
use Prim.Native.Nat.{◌-◌}
use Rattle.counts.proofs.Stretching.{Stretching}
use Rattle.counts.proofs.stretches.stretch.Given as goal

abbrev pub invariant-loop-lengths : goal.invariant-loop-lengths
invariant-loop-lengths l =
    Stretching l.capacities l.initial.lengths l.kinds l.operands l.from l.left l.lengths l.here l.k

abbrev pub decreases-loop-lengths : goal.decreases-loop-lengths
decreases-loop-lengths l = l.left - l.k
