use native.Mathlib.Omega.{arith}
use lib.ListN.{length-set}
use Rattle.output.proofs.Puts.{sets_more}
use Rattle.spelling.proofs.put.Goals as goal

pub loop-i-preserved : goal.loop-i-preserved
loop-i-preserved c =
    let m = c.loop-i in
    (simp length-set m.invariant.0, sets_more _ _ _ _ _ (omega arith) m.invariant.1)
