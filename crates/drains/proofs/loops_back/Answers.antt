-- `loops_back` meets its contract, a test at a time. Past the end of a list there is no step back.
use mathlib.Core.Path.{sym, ◌∙◌}
use native.Mathlib.Omega.{arith}
use Rattle.drains.proofs.Parts.{back_near, back_other, back_past, back_far, back_short, back_by}
use Rattle.drains.proofs.loops_back.Goals as goal

pub returns-then-n-lt2 : goal.returns-then-n-lt2
returns-then-n-lt2 c = sym (back_near _ _ _ _ c.if-n-lt2.true)

pub returns-then-kinds-n : goal.returns-then-kinds-n
returns-then-kinds-n c = sym (back_past _ _ _ _ c.if-n-lt2.false (omega (arith, c.if-kinds-n.true)))

pub returns-then-kinds-n-2 : goal.returns-then-kinds-n-2
returns-then-kinds-n-2 c =
    sym (back_past _ _ _ _ c.if-n-lt2.false (omega (arith, c.if-kinds-n-2.true, c.if-kinds-n.false)))

pub returns-then-kinds-to-ne-BACKWARD : goal.returns-then-kinds-to-ne-BACKWARD
returns-then-kinds-to-ne-BACKWARD c = sym (back_other _ _ _ _ c.if-n-lt2.false c.if-kinds-to-ne-BACKWARD.true)

pub returns-then-operands-to : goal.returns-then-operands-to
returns-then-operands-to c = sym (back_short _ _ _ _ c.if-n-lt2.false c.if-kinds-to-ne-BACKWARD.false c.if-operands-to.true)

pub returns-then-operands-to-2 : goal.returns-then-operands-to-2
returns-then-operands-to-2 c =
    sym (back_far _ _ _ _ c.if-n-lt2.false c.if-kinds-to-ne-BACKWARD.false c.if-operands-to-2.true)

pub returns : goal.returns
returns c =
    c.all_append.ensures
    ∙ sym (back_by _ _ _ _ c.if-n-lt2.false c.if-kinds-to-ne-BACKWARD.false c.if-operands-to-2.false)
