-- `list::check_list` meets its contract: before each command the faults that are left are those of the whole list.
use Prim.Native.Nat.{◌≤◌}
use lib.ListN.{length}
use Rattle.list.proofs.ListCheck.{SoFar}
use Rattle.list.proofs.check_list.Given as goal

abbrev pub invariant-loop-i : goal.invariant-loop-i
invariant-loop-i l =
    (length l.list ≤ 1536) × SoFar l.setting l.list l.i l.variables l.count l.openings
