-- `rises_of` meets its contract. The loop's invariant: what was counted and the rises from here on are those of the part.
use mathlib.Core.Path.{◌≡◌}
use Prim.Native.Nat.{◌+◌, ◌≤◌}
use lib.ListN.{drop}
use Rattle.counting.specs.Counts.{rises}
use Rattle.counting.proofs.rises_of.Given as goal

abbrev pub invariant-loop-i : goal.invariant-loop-i
invariant-loop-i l = (l.i ≤ l.last) × (l.n ≤ l.i) × (l.n + rises (drop l.i l.part) ≡ rises l.part)
