-- `run_ones` meets its contract: the lengths laid aside are those before the run, and the store is laid anew from them.
use mathlib.Core.Path.{sym, ap}
use Prim.Native.Nat.{◌≤◌}
use native.Mathlib.Omega.{arith}
use lib.ListN.{length}
use Rattle.ones.proofs.Laws.{ones-memory}
use Rattle.rounds.proofs.Aside.{aside_take}
use Rattle.rings.proofs.Running.{memory-sized}
use Rattle.runs.proofs.Chosen.{ran-ones}
use Rattle.runs.proofs.run_ones.Goals as goal
use Rattle.runs.proofs.run_ones.Goals.{Start}

-- no more lengths than are laid aside
few : (c : Start) → length c.args.lengths.now ≤ 64
few c =
    let a = c.args in
    let sized = memory-sized a.capacities.now a.store.now a.lengths.now (ones-memory _ c.requires).0 in
    omega (arith, sized.registers, sized.paired)

pub slice_bounds-before-end : goal.slice_bounds-before-end
slice_bounds-before-end c = omega (
  arith,
  few (goal.at.slice_bounds-before-end c).Start,
)

pub slice_bounds-lay_ones-end : goal.slice_bounds-lay_ones-end
slice_bounds-lay_ones-end c =
    sym (ap length (aside_take c.args.lengths.now _ c.laid_aside-before.ensures
    (few (goal.at.slice_bounds-lay_ones-end c).Start)))

pub returns : goal.returns
returns c =
    let a = c.args in
    rw (
      c.lay_ones.ensures,
      aside_take a.lengths.now _ c.laid_aside-before.ensures (few (goal.at.returns c).Start),
    )
    (ran-ones a.capacities.now a.store.now a.lengths.now a.kinds.now a.operands.now a.at a.budget c.requires _ _
    c.run-counted.ensures)
