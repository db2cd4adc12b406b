use mathlib.Core.Path.{sym}
use Rattle.registers.proofs.CanHold.{within_fails, within_all}
use borrow.Author.Rules.{rules}
use Rattle.countable.proofs.all_within.Goals as goal

pub returns-then-capacity_at-from : goal.returns-then-capacity_at-from
returns-then-capacity_at-from c =
    let l = c.loop-i in
    let high = rw (c.capacity_at.ensures.0, c.from.ensures) at c.if-capacity_at-from.true in
    sym (within_fails _ _ l.i (search rules) high)

pub returns : goal.returns
returns c = sym (within_all _ _ c.loop-i.i c.loop-i.invariant (search rules))
