use mathlib.Core.Path.{refl}
use native.Mathlib.Numerals.{add-one}
use native.Mathlib.Omega.{arith}
use Rattle.theory.specs.TurnedDown.{largest}
use Rattle.capacities.proofs.largest.Goals as goal

pub loop-i-init : goal.loop-i-init
unfolding largest
loop-i-init c = refl

pub loop-i-preserved : goal.loop-i-preserved
unfolding largest
loop-i-preserved c =
    let l : _ = c.loop-i in
    rw (add-one l.i, add-one l.i, ← l.invariant) (omega arith)
