-- `check_lines` meets its contract: before each line the faults that are left are those of all lines.
use mathlib.Core.Path.{◌≡◌}
use Prim.Native.Nat.{suc, ◌≤◌}
use lib.ListN.{drop}
use Rattle.listing.specs.Refused.{lines_fault}
use Rattle.listing_check.specs.Lined.{lined}
use Rattle.listing_check.proofs.check_lines.Given as goal

abbrev pub invariant-loop-i : goal.invariant-loop-i
invariant-loop-i l = (l.i ≤ l.lines) × (lines_fault l.lines (suc l.i) (drop l.i (lined l.list)) ≡ lines_fault l.lines 1 (lined l.list))
