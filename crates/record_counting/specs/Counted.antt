-- The number of instructions of an answer, and the tally of a table that has no entries.
use Rattle.theory.specs.declared.Refusal.{Refusal}
use Rattle.std.specs.Prelude.{ℕ, Result, Ok, Err}
use Rattle.tally.specs.declared.Tally.{Tally}

abbrev pub answer_count : Result ℕ Refusal → ℕ
answer_count (Ok n) = n
answer_count (Err r) = 0

abbrev pub no_tally : Tally
no_tally = record { size = 0; good = 0; count = 0 }
