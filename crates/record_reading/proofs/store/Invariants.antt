-- What stays true while instructions are stored: those before the place are in the table, and `at` is where the next one starts.
use Rattle.std.proofs.Common.{◌≡◌}
use Rattle.record_reading.specs.Storing.{stored}
use Rattle.record_reading.proofs.Stores.{start}
use Rattle.record_reading.proofs.store.Given as goal

abbrev pub invariant-loop-i : goal.invariant-loop-i
invariant-loop-i l = (l.table ≡ stored l.word l.i l.initial.table) × (l.at ≡ start l.word l.i)
