-- `find` meets its contract. The loop's invariant: the first such byte from here on is the first from the start on.
use mathlib.Core.Path.{◌≡◌}
use Prim.Native.Nat.{◌+◌}
use lib.ListN.{drop}
use Rattle.text.specs.Runs.{before}
use Rattle.text.proofs.find.Given as goal

abbrev pub invariant-loop-i : goal.invariant-loop-i
invariant-loop-i l = l.at + before l.byte (drop l.at l.text) ≡ l.i + before l.byte (drop l.i l.text)
