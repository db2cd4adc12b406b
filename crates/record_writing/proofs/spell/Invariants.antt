-- What stays true while records are spelled: those before the place are put at the start of the word, and `at` is where they end.
use Rattle.record_writing.proofs.Writes.{Spelling}
use Rattle.record_writing.proofs.spell.Given as goal

abbrev pub invariant-loop-e : goal.invariant-loop-e
invariant-loop-e l = Spelling l.table l.e-index l.initial.word l.word l.at
