-- `put_rows` meets its contract. The loop's invariant: the rows passed are put. The measure is what is left of the sheet.
use Prim.Native.Nat.{◌-◌}
use lib.ListN.{length}
use Rattle.theory.specs.ProgramText.{commands}
use Rattle.report_text.proofs.Underway.{Writing}
use Rattle.report_text.proofs.put_rows.Given as goal

abbrev pub invariant-loop-at : goal.invariant-loop-at
invariant-loop-at l =
    Writing l.capacities (commands l.list) l.sheet l.initial.place l.initial.out l.at l.n l.place l.out

abbrev pub decreases-loop-at : goal.decreases-loop-at
decreases-loop-at l = length l.sheet - l.at
