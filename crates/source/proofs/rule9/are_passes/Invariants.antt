-- `are_passes` tries every entry of the passes-left. The invariant: those passed are good. Assumes nothing.
use mathlib.Core.Path.{◌≡◌}
use mathlib.Core.Bool.{true}
use lib.ListN.{get_or}
use Rattle.theory.specs.Basics.{all_below}
use Rattle.source_state.specs.Numbers.{is_passes_within}
use Rattle.source.proofs.rule9.are_passes.Given as goal

abbrev pub invariant-loop-d : goal.invariant-loop-d
invariant-loop-d l =
    all_below l.d (λ k. is_passes_within (get_or l.bounds k 0) l.depth k (get_or l.passes k 0)) ≡ true
