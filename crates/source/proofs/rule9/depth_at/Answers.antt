-- `depth_at` counts the loops around a line by its entry; none is around the line after the last. Assumes nothing.
use native.Mathlib.Omega.{arith}
use Rattle.source.proofs.Program.{few_lines, numbers-length}
use Rattle.source.proofs.Checks.{depth_past, depth_endloop, depth_other}
use Rattle.source.proofs.rule9.depth_at.Goals as goal

pub returns-then-lines-line : goal.returns-then-lines-line
returns-then-lines-line c = depth_past _ _ _ _ c.requires c.if-lines-line.true

pub overflow_mul-here : goal.overflow_mul-here
overflow_mul-here c = let r : _ = c.requires in omega (arith, few_lines c.args.list.now r.holds, r.high)

pub bounds-list-here : goal.bounds-list-here
bounds-list-here c =
    let r : _ = c.requires in
    omega (arith, numbers-length c.args.list.now r.holds, r.lines_are, r.low)

pub returns-then-list-here-eq-ENDLOOP : goal.returns-then-list-here-eq-ENDLOOP
returns-then-list-here-eq-ENDLOOP c =
    rw c.from-entry.ensures (depth_endloop _ _ _ _ c.requires c.if-lines-line.false c.if-list-here-eq-ENDLOOP.true)

pub returns-else-list-here-eq-ENDLOOP : goal.returns-else-list-here-eq-ENDLOOP
returns-else-list-here-eq-ENDLOOP c =
    rw c.from-entry.ensures (depth_other _ _ _ _ c.requires c.if-lines-line.false c.if-list-here-eq-ENDLOOP.false)
