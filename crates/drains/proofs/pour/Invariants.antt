-- `pour` meets its contract: the appends passed are done.
use lib.ListN.{take}
use Rattle.drains.specs.Pours.{Filled}
use Rattle.drains.proofs.pour.Given as goal

abbrev pub invariant-loop-register : goal.invariant-loop-register
invariant-loop-register l = Filled (take l.register-index l.appends) l.m l.initial.lengths l.lengths
