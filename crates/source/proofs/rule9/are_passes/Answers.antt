-- An entry that is not good fails the test of all, and where each passes the test of all does.
use mathlib.Core.Path.{◌≡◌, sym, ap, ◌∙◌}
use mathlib.Core.Bool.{Bool}
use mathlib.Core.List.{List}
use Prim.Native.Nat.{ℕ}
use native.Mathlib.Omega.{arith}
use lib.ListN.{get_or}
use Rattle.theory.specs.Basics.{all_below}
use Rattle.source_state.specs.Numbers.{is_passes_within}
use Rattle.source.specs.Lines.{all_passes}
use Rattle.theory.proofs.GoodMemory.{all_below_fails}
use Rattle.source.proofs.rule9.are_passes.Goals as goal

-- The test of each
abbrev good : List ℕ → ℕ → List ℕ → ℕ → Bool
good bs D ps k = is_passes_within (get_or bs k 0) D k (get_or ps k 0)

pub returns-then-not-is_good_passes : goal.returns-then-not-is_good_passes
unfolding all_passes
returns-then-not-is_good_passes c =
    sym
    (all_below_fails 16 (good c.args.bounds.now c.args.depth c.args.passes.now) c.loop-d.d (omega arith)
    (sym c.is_good_passes.ensures ∙ c.if-not-is_good_passes.true))

pub returns : goal.returns
unfolding all_passes
returns c =
    let all : 16 ≡ c.loop-d.d = omega arith in
    sym (ap (λ n. all_below n (good c.args.bounds.now c.args.depth c.args.passes.now)) all ∙ c.loop-d.invariant)
