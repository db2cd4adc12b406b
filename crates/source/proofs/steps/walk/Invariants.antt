-- `walk` runs the program: the invariant is that the run is underway, and every way out cites the law of a run of any machine for its end.
-- Assumes nothing.
use Prim.Native.Nat.{◌-◌}
use Rattle.source.specs.Lines.{run_at}
use Rattle.source.proofs.Underway.{Going}
use Rattle.source.proofs.steps.walk.Given as goal

abbrev pub invariant-loop-line : goal.invariant-loop-line
invariant-loop-line l =
    Going l.list l.capacities (run_at l.list l.capacities l.from l.initial.values l.initial.passes l.allowed) l.allowed l.taken l.line l.values l.passes

abbrev pub decreases-loop-line : goal.decreases-loop-line
decreases-loop-line l = l.allowed - l.taken
