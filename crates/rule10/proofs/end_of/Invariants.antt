-- `end_of` meets its contract: the sum of the capacities before the index.
use mathlib.Core.Path.{◌≡◌}
use Prim.Native.Nat.{suc, ◌*◌, ◌≤◌}
use lib.ListN.{length}
use Rattle.theory.specs.Machines.{offset}
use Rattle.rule10.proofs.end_of.Given as goal

abbrev pub invariant-loop-capacity : goal.invariant-loop-capacity
invariant-loop-capacity l =
    (l.capacity-index ≤ length l.capacities) × (l.end ≡ offset l.capacities (suc l.capacity-index))
    × (l.end ≤ l.capacity-index * 65535)
