use native.Mathlib.Omega.{arith}
use Rattle.layout.proofs.OffsetTable.{summed_none, summed_next, summed_all}
use Rattle.layout.proofs.offsets.Goals as goal

pub loop-i-init : goal.loop-i-init
loop-i-init c = summed_none _

pub loop-i-preserved : goal.loop-i-preserved
loop-i-preserved c =
    let l = c.loop-i in
    summed_next _ l.i l.end c.capacity_at-end.result l.places l.invariant (omega (arith, c.loop-i-test.true))
    c.capacity_at-end.ensures.0 c.capacity_at-end.ensures.1

pub returns : goal.returns
returns c = summed_all _ c.loop-i.i c.loop-i.end c.loop-i.places c.loop-i.invariant c.loop-i-test.false
