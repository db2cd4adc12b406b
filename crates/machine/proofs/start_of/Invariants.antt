-- `start_of` meets its contract: the sum of the first `i` entries.
use mathlib.Core.Path.{◌≡◌}
use Prim.Native.Nat.{◌*◌, ◌≤◌}
use lib.ListN.{take}
use Rattle.theory.specs.TurnedDown.{total}
use Rattle.word.specs.Answers.{zipped}
use Rattle.machine.proofs.start_of.Given as goal

abbrev pub invariant-loop-i : goal.invariant-loop-i
invariant-loop-i l =
    (l.i ≤ l.n) × (l.start ≡ total (take l.i (zipped l.kinds l.operands))) × (l.start ≤ l.i * 4294967550)
