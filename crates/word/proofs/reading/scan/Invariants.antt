-- `scan` meets its contract. The loop's invariant: the entries before `at` are `count`, without a fault of rule 13, and where they are
-- more than a word may have, `extra` is where the first too many starts. What is left of the word falls.
use Prim.Native.Nat.{◌-◌}
use lib.ListN.{length}
use Rattle.word.proofs.Scanning.{Scanning}
use Rattle.word.proofs.reading.scan.Given as goal

abbrev pub invariant-loop-at : goal.invariant-loop-at
invariant-loop-at l = Scanning l.word l.at l.count l.extra

abbrev pub decreases-loop-at : goal.decreases-loop-at
decreases-loop-at l = length l.word - l.at
