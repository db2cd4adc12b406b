-- `lengths_of` meets its contract: the lengths before place `i` are the values, and the others 0.
use Rattle.report_text.proofs.Fresh.{Started}
use Rattle.report_text.proofs.rows.lengths_of.Given as goal

abbrev pub invariant-loop-i : goal.invariant-loop-i
invariant-loop-i l = Started l.values l.i l.lengths
