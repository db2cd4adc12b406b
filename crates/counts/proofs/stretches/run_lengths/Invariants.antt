-- `run_lengths` meets its contract: between two stretches the run of the definition is under way, on the registers that the lengths give.
use Prim.Native.Nat.{◌-◌}
use Rattle.counts.proofs.Counting.{Counting}
use Rattle.counts.proofs.stretches.run_lengths.Given as goal

abbrev pub invariant-loop-left : goal.invariant-loop-left
invariant-loop-left l =
    Counting l.capacities l.initial.lengths l.kinds l.operands l.from l.steps l.budget l.allowed l.lengths l.here l.k

abbrev pub decreases-loop-left : goal.decreases-loop-left
decreases-loop-left l = l.allowed - l.k
