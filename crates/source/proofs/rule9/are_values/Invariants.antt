-- `are_values` tries every value. The invariant: those passed are good. Assumes nothing.
use mathlib.Core.Path.{◌≡◌}
use mathlib.Core.Bool.{true}
use lib.ListN.{get_or}
use Rattle.theory.specs.Basics.{all_below}
use Rattle.source_state.specs.Numbers.{is_value_within}
use Rattle.source.proofs.rule9.are_values.Given as goal

abbrev pub invariant-loop-i : goal.invariant-loop-i
invariant-loop-i l =
    all_below l.i (λ k. is_value_within (get_or l.capacities k 0) l.variables k (get_or l.values k 0)) ≡ true
