-- `run_end` meets its contract. The loop's invariant: the run from here ends where the run from the start ends. What is left of the text
use mathlib.Core.Path.{◌≡◌}
use Prim.Native.Nat.{◌+◌}
use lib.ListN.{drop}
use Rattle.text.specs.Runs.{run}
use Rattle.text.proofs.run_end.Given as goal

abbrev pub invariant-loop-next : goal.invariant-loop-next
invariant-loop-next l = l.at + run l.byte (drop l.at l.text) ≡ l.next + run l.byte (drop l.next l.text)
