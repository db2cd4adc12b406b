-- `fill_targets` fills the target of every line of a pair. The invariant: the stack has the lines that are open, and the targets of the
-- lines passed are filled but for those. Assumes nothing.
use mathlib.Core.Path.{◌≡◌}
use Prim.Native.Nat.{◌≤◌}
use lib.ListN.{length}
use Rattle.source.proofs.Targets.{Linking}
use Rattle.source.proofs.lines.fill_targets.Given as goal

abbrev pub invariant-loop-n : goal.invariant-loop-n
invariant-loop-n l =
    (length l.stack ≡ 16) × (l.deep ≤ 16) × Linking l.list l.n l.deep l.stack l.targets
