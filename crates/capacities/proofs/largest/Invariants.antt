-- `largest` meets its contract. The loop's invariant: the most is that of the variables passed.
use mathlib.Core.Path.{◌≡◌}
use Rattle.theory.specs.Machines.{capacity_of}
use Rattle.theory.specs.TurnedDown.{largest}
use Rattle.capacities.proofs.largest.Given as goal

abbrev pub invariant-loop-i : goal.invariant-loop-i
invariant-loop-i l = l.most ≡ largest (capacity_of l.capacities) l.i
