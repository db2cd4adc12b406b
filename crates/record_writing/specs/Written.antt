-- What is written of a table, by the answer.
use Rattle.theory.specs.declared.Refusal.{Refusal}
use Rattle.std.specs.Prelude.{ℕ, Result, Ok, Err}

-- How many of so many entries are written by an answer: all, or none where it is a refusal
abbrev pub written_count : Result ℕ Refusal → ℕ → ℕ
written_count (Ok n) count = count
written_count (Err r) count = 0
