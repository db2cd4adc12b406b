-- Each way out of the loop of steps, and one more turn. In a turn the line is one of the program.
use Prim.Native.Nat.{◌≤◌}
use native.Mathlib.Omega.{arith}
use lib.ListN.{length}
use Rattle.source.proofs.Program.{few_lines}
use Rattle.source.proofs.Underway.{going_start, going_halted, going_spent, going_full, going_on}
use Rattle.theory.specs.ProgramText.{commands}
use Rattle.source.proofs.steps.walk.Goals as goal

pub overflow_cast-last : goal.overflow_cast-last
overflow_cast-last c = omega (arith, few_lines c.args.list.now c.requires.filled.holds)

pub loop-line-init : goal.loop-line-init
loop-line-init c =
    let r : _ = c.requires in
    going_start _ _ _ _ _ _ r.low r.high r.values_are r.passes_are

pub returns-then-taken-allowed : goal.returns-then-taken-allowed
returns-then-taken-allowed c =
    let here : c.loop-line.line ≤ length (commands c.args.list.now) = omega arith in
    going_spent _ _ _ _ _ _ _ _ c.loop-line.invariant here c.if-taken-allowed.true

pub returns-in-None : goal.returns-in-None
returns-in-None c =
    let here : c.loop-line.line ≤ length (commands c.args.list.now) = omega arith in
    going_full _ _ _ _ _ _ _ _ c.loop-line.invariant here c.if-taken-allowed.false c.ranges.allowed.fits _ _ c.in-None.ensures

pub loop-line-preserved : goal.loop-line-preserved
loop-line-preserved c =
    let here : c.loop-line.line ≤ length (commands c.args.list.now) = omega arith in
    going_on _ _ _ _ _ _ _ _ c.loop-line.invariant here c.if-taken-allowed.false c.ranges.allowed.fits _ _ _
    c.in-Some.ensures (omega arith) (omega arith)

pub returns : goal.returns
returns c = going_halted _ _ _ _ _ _ _ _ c.loop-line.invariant (omega arith)
