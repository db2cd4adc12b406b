-- `are_limited` meets its contract: the capacities before the index are within the limits, and those from it on decide.
use mathlib.Core.Path.{◌≡◌}
use Prim.Native.Nat.{◌≤◌}
use lib.ListN.{length, drop}
use Rattle.theory.specs.Basics.{all}
use Rattle.theory.specs.Machines.{is_limited}
use Rattle.rule10.proofs.are_limited.Given as goal

abbrev pub invariant-loop-x : goal.invariant-loop-x
invariant-loop-x l =
    (l.x-index ≤ length l.capacities) × (all (is_limited 1024) l.capacities ≡ all (is_limited 1024) (drop l.x-index l.capacities))
