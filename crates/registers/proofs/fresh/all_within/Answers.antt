-- `all_within` meets its contract: a value above its capacity, or none.
use mathlib.Core.Path.{sym}
use Rattle.registers.proofs.CanHold.{within_fails, within_all}
use borrow.Author.Rules.{rules}
use Rattle.registers.proofs.fresh.all_within.Goals as goal

pub returns-then-capacity_at-value : goal.returns-then-capacity_at-value
returns-then-capacity_at-value c =
    let l = c.loop-i in
    let high = rw c.capacity_at.ensures.0 at c.if-capacity_at-value.true in
    sym (within_fails _ _ l.i (search rules) high)

pub returns : goal.returns
returns c = sym (within_all _ _ c.loop-i.i c.loop-i.invariant (search rules))
