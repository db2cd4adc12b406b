-- `listing_lines::read_lines` meets its contract: the numbers put and those of the lines that are left are those of the whole text.
use Prim.Native.Nat.{◌+◌, ◌-◌}
use lib.ListN.{length}
use Rattle.listing_lines.proofs.LinesLeft.{LinesFrom}
use Rattle.listing_lines.proofs.read_lines.Given as goal

abbrev pub invariant-loop-at : goal.invariant-loop-at
invariant-loop-at l = LinesFrom l.text l.initial.list l.list l.at l.lines l.place

abbrev pub decreases-loop-at : goal.decreases-loop-at
decreases-loop-at l = length l.text + 1 - l.at
