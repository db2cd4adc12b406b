-- The clears of the registers before the next are written, and at the end all are.
use native.Mathlib.Omega.{arith}
use Rattle.forms.proofs.Clears.{nothing_put, one_put, all-put}
use borrow.Author.Rules.{rules}
use Rattle.forms.proofs.put_clears.Goals as goal

pub loop-register-init : goal.loop-register-init
loop-register-init c = nothing_put _ _ _ (omega arith) (omega arith)

pub loop-register-preserved : goal.loop-register-preserved
loop-register-preserved c =
    one_put _ c.loop-register.invariant (search rules) (rw c.from.ensures at c.clearing-here.ensures)

-- The last register ends the loop
pub returns-2 : goal.returns-2
returns-2 c =
    all-put _ (one_put _ c.loop-register.invariant (search rules) (rw c.from.ensures at c.clearing-here.ensures)) (omega arith)

pub returns : goal.returns
returns c = all-put _ c.loop-register.invariant (search rules)
