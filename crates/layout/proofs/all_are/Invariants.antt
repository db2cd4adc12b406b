-- `all_are` meets its contract: what was seen so far and what the bytes from the index on pass decide.
use mathlib.Core.Path.{◌≡◌}
use mathlib.Core.Bool.{◌&&◌}
use Prim.Native.Nat.{◌≤◌}
use lib.ListN.{length, drop}
use Rattle.theory.specs.Basics.{all}
use lib.Dec.{eqb}
use Rattle.layout.proofs.all_are.Given as goal

abbrev pub invariant-loop-x : goal.invariant-loop-x
invariant-loop-x l = (l.x-index ≤ length l.part) × (all (eqb l.byte) l.part ≡ (l.ok && all (eqb l.byte) (drop l.x-index l.part)))
