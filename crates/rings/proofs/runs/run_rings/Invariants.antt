-- `run_rings` meets its contract: between two steps the run of the definition is under way, and the store holds its registers.
use mathlib.Core.Path.{◌≡◌}
use Prim.Native.Nat.{◌-◌}
use lib.ListN.{length}
use Rattle.rings.proofs.Running.{Running}
use Rattle.rings.proofs.runs.run_rings.Given as goal

abbrev pub invariant-loop-i : goal.invariant-loop-i
invariant-loop-i l =
    Running l.capacities l.initial.store l.initial.lengths l.kinds l.operands l.from l.steps l.budget l.allowed l.store l.lengths l.starts l.here l.k × (length l.starts ≡ length
    l.initial.starts)

abbrev pub decreases-loop-i : goal.decreases-loop-i
decreases-loop-i l =
    l.allowed - l.k
