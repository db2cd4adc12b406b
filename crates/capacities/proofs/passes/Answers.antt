use mathlib.Core.Path.{sym, ◌∙◌}
use Prim.Native.Nat.{◌*◌}
use native.Mathlib.Omega.{arith}
use lib.ListN.{get_or}
use Rattle.capacities.proofs.Lines.{no_deeper}
use Rattle.capacities.proofs.Along.{at_last, fails, onward}
use Rattle.capacities.proofs.passes.Goals as goal

pub returns-then-not-line_passes : goal.returns-then-not-line_passes
returns-then-not-line_passes c =
    let l : _ = c.loop-n in
    let m : _ = c.largest-most.ensures in
    rw (← m) (fails _ _ _ _ _ l.invariant (omega arith)
    (sym c.line_passes.ensures ∙ c.if-not-line_passes.true))

pub loop-n-preserved : goal.loop-n-preserved
loop-n-preserved c =
    let l : _ = c.loop-n in
    let a : _ = c.args in
    rw c.next_depth-deep.ensures
    (onward _ _ _ _ _ l.invariant (omega arith)
    (sym c.line_passes.ensures ∙ c.if-not-line_passes.false)
    (no_deeper l.deep (get_or a.list.now (3 * l.n) 0) l.n l.invariant.shallow))

pub returns : goal.returns
returns c =
    let l : _ = c.loop-n in
    rw (← c.largest-most.ensures) (at_last _ _ _ _ _ l.invariant (omega arith))
