-- `back` meets its contract: where the step leads to a place of an instruction, the turns are those of `drain`.
use Prim.Native.Nat.{◌-◌}
use native.Mathlib.Omega.{arith}
use Rattle.drains.proofs.AtOnce.{drain_steps_within}
use Rattle.counts.proofs.steps.back.Goals as goal

-- the turns take no more steps than there are left
pub overflow_add-result : goal.overflow_add-result
overflow_add-result c =
    let a = c.args in
    omega (
      arith,
      c.drain-turns.ensures.0,
      drain_steps_within a.lengths.now a.capacities.now a.kinds.now a.operands.now (a.there - 1000000 - 1) a.n
          (a.left - 1),
      c.requires,
      c.ranges.left,
    )
