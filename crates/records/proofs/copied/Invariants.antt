-- What stays true while records are copied: the arrays hold the numbers of those before the place, and 0s after them.
use Rattle.std.proofs.Common.{◌≡◌}
use Rattle.records.proofs.Copies.{copied_at, kind_in, operand_in}
use Rattle.records.proofs.copied.Given as goal

abbrev pub invariant-loop-i : goal.invariant-loop-i
invariant-loop-i l =
    (l.kinds ≡ copied_at kind_in l.table l.i) × (l.operands ≡ copied_at operand_in l.table l.i)
