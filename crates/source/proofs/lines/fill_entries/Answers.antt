-- Each line's entry is right by its kind, and an `endloop` has a loop open. In a turn the line is one of the program, and the table has
-- room for it.
use native.Mathlib.Omega.{arith}
use mathlib.Core.Path.{◌≡◌}
use Prim.Native.Nat.{◌<◌}
use lib.ListN.{length}
use Rattle.source.proofs.Program.{few_lines, numbers-length}
use Rattle.source.proofs.Stepping.{kind_at}
use Rattle.source.proofs.Entries.{entering_start, entering_opens, entering_closes, entering_other, some_open, few_loops}
use Rattle.theory.specs.ProgramText.{commands}
use Rattle.source.proofs.lines.fill_entries.Goals as goal
use Rattle.source.proofs.lines.fill_entries.Goals.{in-4, in-5, in_default}

pub loop-n-init : goal.loop-n-init
loop-n-init c = entering_start _ _

pub overflow_mul-n : goal.overflow_mul-n
overflow_mul-n c = omega (arith, few_lines c.args.list.now c.requires.holds)

pub bounds-list-n : goal.bounds-list-n
bounds-list-n c = omega (arith, numbers-length c.args.list.now c.requires.holds)

pub overflow_add-deep : goal.overflow_add-deep
overflow_add-deep c =
    let inside : c.loop-n.n < length (commands c.args.list.now) = omega arith in
    let room : c.loop-n.n < length c.loop-n.entries = omega arith in
    omega (arith, few_loops _ c.requires.holds _ inside _ _ c.loop-n.invariant room c.in-4.is)

pub overflow_sub-deep : goal.overflow_sub-deep
overflow_sub-deep c =
    let inside : c.loop-n.n < length (commands c.args.list.now) = omega arith in
    let room : c.loop-n.n < length c.loop-n.entries = omega arith in
    some_open _ c.requires.holds _ inside _ _ c.loop-n.invariant room c.in-5.is

pub loop-n-preserved : goal.loop-n-preserved
loop-n-preserved c =
    let inside : c.loop-n.n < length (commands c.args.list.now) = omega arith in
    let room : c.loop-n.n < length c.loop-n.entries = omega arith in
    elim c.match-list-n.branch [
      | in-4 w ↦ rw (w.deep-is, w.entries-is) (entering_opens _ c.requires.holds _ inside _ _ c.loop-n.invariant room w.in-4.is)
      | in-5 w ↦ rw (w.deep-is, w.entries-is) (entering_closes _ c.requires.holds _ inside _ _ c.loop-n.invariant room w.in-5.is)
      | in_default w ↦
          let no_loop : kind_at c.args.list.now c.loop-n.n ≡ 4 → ⊥ = omega arith in
          let no_endloop : kind_at c.args.list.now c.loop-n.n ≡ 5 → ⊥ = omega arith in
          rw (w.deep-is, w.entries-is) (entering_other _ c.requires.holds _ inside _ _ c.loop-n.invariant room no_loop no_endloop)
    ]
