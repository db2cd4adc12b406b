-- What stays true while a table is counted: the tally is that of the records before the place.
use Rattle.std.proofs.Common.{◌≡◌}
use Rattle.record_counting.proofs.Tallies.{tally_at}
use Rattle.record_counting.proofs.count_table.Given as goal

abbrev pub invariant-loop-e : goal.invariant-loop-e
invariant-loop-e l = l.t ≡ tally_at l.table l.e-index
