-- The goals of `stretch`: a stride more is a stretch still.
use mathlib.Core.Path.{sym, ◌∙◌}
use mathlib.Core.List.{List}
use Prim.Native.Nat.{ℕ, ◌+◌, ◌-◌, ◌≤◌, ◌<◌}
use native.Mathlib.Omega.{arith}
use lib.ListN.{length}
use Rattle.std.specs.Prelude.{Some}
use Rattle.underway.proofs.Running.{at_instruction}
use Rattle.counts.specs.declared.steps.Stride.{Stride}
use Rattle.counts.specs.Strides.{Strode}
use Rattle.counts.proofs.Stretching.{Stretching, stretching_start, stretching_to, stretching_goes}
use Rattle.counts.proofs.stretches.stretch.Goals as goal
use Rattle.counts.proofs.stretches.stretch.Goals.{In-loop-lengths}

-- a stretch that goes on stands at an instruction, and has not enough steps
going : (c : In-loop-lengths)
    → let l = c.loop-lengths in
    let a = c.args in
    (1000000 < l.here) × (l.here ≤ 1000000 + length a.kinds.now) × (l.k < a.enough)
going c = at_instruction _ _ _ _ (sym c.goes_on.ensures ∙ c.loop-lengths-test.true)

-- the stretch with one stride more
longer : (c : In-loop-lengths) (m : Stride) (after : List ℕ)
    → let a = c.args in
    let l = c.loop-lengths in
    Strode a.capacities.now l.lengths a.kinds.now a.operands.now l.here (a.left - l.k) (Some m) after
    → Stretching a.capacities.now a.lengths.now a.kinds.now a.operands.now a.from a.left after m.there (l.k + m.steps)
longer c m after h =
    let a = c.args in
    stretching_goes a.capacities.now a.lengths.now a.kinds.now a.operands.now a.from a.left
    c.loop-lengths.invariant (going c).1 m h

pub loop-lengths-init : goal.loop-lengths-init
loop-lengths-init c =
    let a = c.args in
    stretching_start a.capacities.now a.lengths.now a.kinds.now a.operands.now a.from a.left c.requires.0 c.requires.2

pub returns-then-seen-count : goal.returns-then-seen-count
returns-then-seen-count c =
    let a = c.args in
    stretching_to a.capacities.now a.lengths.now a.kinds.now a.operands.now a.from a.left
    (longer (goal.at.returns-then-seen-count c).In-loop-lengths _ _ c.in-Some.ensures) (omega (arith, c.in-Some.ensures.1))

pub loop-lengths-preserved-else-seen-count : goal.loop-lengths-preserved-else-seen-count
loop-lengths-preserved-else-seen-count c =
    longer (goal.at.loop-lengths-preserved-else-seen-count c).In-loop-lengths _ _ c.in-Some.ensures

pub loop-lengths-preserved : goal.loop-lengths-preserved
loop-lengths-preserved c = longer (goal.at.loop-lengths-preserved c).In-loop-lengths _ _ c.in-Some.ensures
