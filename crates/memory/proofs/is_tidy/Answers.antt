use mathlib.Core.Path.{sym}
use Rattle.memory.proofs.Rest.{empty_fails}
use borrow.Author.Rules.{rules}
use Rattle.memory.proofs.is_tidy.Goals as goal

pub returns-then-lengths-i-ne0 : goal.returns-then-lengths-i-ne0
returns-then-lengths-i-ne0 c =
    sym (empty_fails _ c.loop-i.i c.loop-i.invariant (search rules) c.if-lengths-i-ne0.true)
