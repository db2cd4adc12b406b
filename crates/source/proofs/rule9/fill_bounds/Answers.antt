-- At a line where a loop begins its entry and its variable are within the lists of a state. In a turn the line is one of the program.
use Prim.Native.Nat.{◌<◌}
use native.Mathlib.Omega.{arith}
use lib.ListN.{length}
use Rattle.theory.specs.ProgramText.{commands}
use Rattle.source.proofs.Program.{few_lines, numbers-length}
use Rattle.source.proofs.Stepping.{first_low}
use Rattle.source.proofs.LoopBounds.{bounds_start, bounds_other, bounds_loop, entry_low}
use Rattle.source.proofs.rule9.fill_bounds.Goals as goal
use Rattle.source.proofs.rule9.fill_bounds.Goals.{then-list-n-eq-LOOP, else-list-n-eq-LOOP}

pub loop-n-init : goal.loop-n-init
loop-n-init c = bounds_start c.args.list.now c.args.capacities.now c.args.bounds.now

pub overflow_mul-n : goal.overflow_mul-n
overflow_mul-n c = omega (arith, few_lines c.args.list.now c.requires.holds)

pub bounds-list-n : goal.bounds-list-n
bounds-list-n c = omega (arith, numbers-length c.args.list.now c.requires.holds)

pub bounds-list-n-then-list-n-eq-LOOP : goal.bounds-list-n-then-list-n-eq-LOOP
bounds-list-n-then-list-n-eq-LOOP c = omega (arith, numbers-length c.args.list.now c.requires.holds)

pub bounds-capacities-i : goal.bounds-capacities-i
bounds-capacities-i c =
    let inside : c.loop-n.n < length (commands c.args.list.now) = omega arith in
    omega (arith, first_low c.args.list.now c.requires.holds c.loop-n.n inside)

pub bounds-bounds-d : goal.bounds-bounds-d
bounds-bounds-d c =
    let inside : c.loop-n.n < length (commands c.args.list.now) = omega arith in
    omega (
      arith,
      entry_low _ c.requires.holds _ inside _ _ c.loop-n.invariant _ c.requires.enters c.if-list-n-eq-LOOP.true,
    )

pub loop-n-preserved : goal.loop-n-preserved
loop-n-preserved c =
    let inside : c.loop-n.n < length (commands c.args.list.now) = omega arith in
    elim c.if-list-n-eq-LOOP.branch [
      | then-list-n-eq-LOOP w ↦
          rw (w.bounds-is, w.from-d.ensures, w.from-i.ensures)
          (bounds_loop _ c.requires.holds _ inside _ _ c.loop-n.invariant _ c.requires.enters w.if-list-n-eq-LOOP.true (omega arith))
      | else-list-n-eq-LOOP w ↦
          rw w.bounds-is (bounds_other _ c.requires.holds _ inside _ _ c.loop-n.invariant w.if-list-n-eq-LOOP.false)
    ]
