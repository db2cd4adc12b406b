use native.Mathlib.Omega.{arith}
use Rattle.capacities.proofs.Cells.{found_next, found_all}
use Rattle.capacities.proofs.of_variables.Goals as goal

pub loop-i-preserved : goal.loop-i-preserved
loop-i-preserved c =
    let l = c.loop-i in
    found_next _ l.i c.capacity_at.result l.capacity-items l.invariant c.loop-i-test.true c.capacity_at.ensures.0

pub returns : goal.returns
returns c = found_all _ c.loop-i.i c.loop-i.capacity-items c.loop-i.invariant (omega arith)
