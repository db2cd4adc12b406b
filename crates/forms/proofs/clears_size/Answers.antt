-- The clears counted so far are those of the registers before the next, so that sums with them do not wrap, and at the end all are counted.
use native.Mathlib.Omega.{arith}
use Rattle.forms.proofs.Clears.{counted_none, counted-more, counted_short, counted-all}
use borrow.Author.Rules.{rules}
use Rattle.forms.proofs.clears_size.Goals as goal

pub loop-register-init : goal.loop-register-init
loop-register-init c = counted_none _

pub overflow_add-instructions : goal.overflow_add-instructions
overflow_add-instructions c = omega (arith, (counted_short _ c.loop-register.invariant (omega arith)).0)

pub overflow_add-symbols-in-loop-register : goal.overflow_add-symbols-in-loop-register
overflow_add-symbols-in-loop-register c = omega (arith, (counted_short _ c.loop-register.invariant (omega arith)).1)

pub loop-register-preserved : goal.loop-register-preserved
loop-register-preserved c = rw c.from.ensures (counted-more _ c.loop-register.invariant (search rules))

-- The last register ends the loop
pub returns-2 : goal.returns-2
returns-2 c =
    let done = counted-more _ c.loop-register.invariant c.loop-register-test.true in
    rw c.from.ensures (counted-all _ done (omega arith))

pub returns : goal.returns
returns c = counted-all _ c.loop-register.invariant (search rules)
