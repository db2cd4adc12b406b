-- `are_capacities` tries the capacity of every variable. The invariant: those passed are good. Assumes nothing.
use mathlib.Core.Path.{◌≡◌}
use mathlib.Core.Bool.{true}
use lib.ListN.{get_or}
use Rattle.theory.specs.Basics.{all_below}
use Rattle.theory.specs.Machines.{is_limited}
use Rattle.source.proofs.rule9.are_capacities.Given as goal

abbrev pub invariant-loop-i : goal.invariant-loop-i
invariant-loop-i l = all_below l.i (λ k. is_limited 1024 (get_or l.capacities k 0)) ≡ true
