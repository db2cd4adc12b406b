-- A value that is not good fails the test of all, and where each passes the test of all does.
use mathlib.Core.Path.{◌≡◌, sym, ap, ◌∙◌}
use mathlib.Core.Bool.{Bool}
use mathlib.Core.List.{List}
use Prim.Native.Nat.{ℕ}
use native.Mathlib.Omega.{arith}
use lib.ListN.{get_or}
use Rattle.theory.specs.Basics.{all_below}
use Rattle.source_state.specs.Numbers.{is_value_within}
use Rattle.source.specs.Lines.{all_values}
use Rattle.theory.proofs.GoodMemory.{all_below_fails}
use Rattle.source.proofs.rule9.are_values.Goals as goal

-- The test of each
abbrev good : List ℕ → ℕ → List ℕ → ℕ → Bool
good cs K vs k = is_value_within (get_or cs k 0) K k (get_or vs k 0)

pub returns-then-not-is_good_value : goal.returns-then-not-is_good_value
unfolding all_values
returns-then-not-is_good_value c =
    sym
    (all_below_fails 32 (good c.args.capacities.now c.args.variables c.args.values.now) c.loop-i.i (omega arith)
    (sym c.is_good_value.ensures ∙ c.if-not-is_good_value.true))

pub returns : goal.returns
unfolding all_values
returns c =
    let all : 32 ≡ c.loop-i.i = omega arith in
    sym (ap (λ n. all_below n (good c.args.capacities.now c.args.variables c.args.values.now)) all ∙ c.loop-i.invariant)
