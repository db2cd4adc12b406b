-- `first_unusable` meets its contract: what the entries from `i` on answer is the answer.
use mathlib.Core.Path.{◌≡◌}
use Prim.Native.Nat.{◌≤◌}
use lib.ListN.{drop}
use Rattle.theory.specs.TurnedDown.{first_along, next_entry}
use Rattle.word.specs.Answers.{zipped}
use Rattle.usable.specs.Usable.{unusable, first_unusable}
use Rattle.usable.proofs.first_unusable.Given as goal

abbrev pub invariant-loop-i : goal.invariant-loop-i
invariant-loop-i l =
    (l.i ≤ l.count)
    × (first_unusable l.registers (zipped l.kinds l.operands) ≡ first_along next_entry (unusable l.registers) l.i (drop l.i (zipped l.kinds l.operands)))
