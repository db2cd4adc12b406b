-- `sum_of` meets its contract. The loop's invariant: the sum is that of the operands passed, and where nothing else was seen none is 0.
use mathlib.Core.Path.{◌≡◌}
use mathlib.Core.Bool.{true}
use Prim.Native.Nat.{ℕ, ◌*◌, ◌≤◌, ◌<◌}
use lib.ListN.{take, get_or}
use Rattle.theory.specs.Basics.{sum}
use Rattle.table.proofs.checking.sum_of.Given as goal

abbrev pub invariant-loop-operand : goal.invariant-loop-operand
invariant-loop-operand l =
    (l.sum ≡ sum (take l.operand-index l.operands)) × (l.sum ≤ l.operand-index * 4294967295)
    × (l.ok ≡ true → (j : ℕ) → j < l.operand-index → 1 ≤ get_or l.operands j 0)
