-- `rises_of` meets its contract: a byte larger than the one before is counted, and none is left at the end.
use Prim.Native.Nat.{◌+◌, ◌<◌}
use native.Mathlib.Omega.{arith}
use lib.ListN.{length}
use Rattle.counting.proofs.Rising.{rises_up, rises_level, rises_end}
use Rattle.counting.proofs.rises_of.Goals as goal
use Rattle.counting.proofs.rises_of.Goals.{else-part-i, then-part-i}

pub loop-i-preserved : goal.loop-i-preserved
loop-i-preserved c =
    let l = c.loop-i in
    let part = c.args.part.now in
    let h : l.i + 1 < length part = omega arith in (
      omega arith,
      (elim c.if-part-i.branch [ then-part-i w ↦ omega arith | else-part-i w ↦ omega arith ]),
      (elim c.if-part-i.branch [ then-part-i w ↦ omega (arith, rises_up part l.i h w.if-part-i.true, l.invariant.2) | else-part-i w ↦ omega (arith, rises_level part l.i h w.if-part-i.false, l.invariant.2) ]),
    )

pub returns : goal.returns
returns c =
    let l = c.loop-i in
    omega (arith, l.invariant.2, rises_end c.args.part.now l.i (omega arith))
