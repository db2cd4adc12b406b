-- `fill_entries` fills the entry of every line. The invariant: those of the lines passed are filled, and as many loops are open as are
-- around the next line. Assumes nothing.
use Rattle.source.proofs.Entries.{Entering}
use Rattle.source.proofs.lines.fill_entries.Given as goal

abbrev pub invariant-loop-n : goal.invariant-loop-n
invariant-loop-n l = Entering l.list l.n l.deep l.entries
