-- The number of what runs hand back as values of their own types. proofs/Packs: it is that of the answer for which the
-- value stands.
use Rattle.theory.specs.declared.Refusal.{Refusal}
use Rattle.std.specs.Prelude.{ℕ, Option, Some, None, Result, Ok, Err}
use Rattle.theory.specs.declared.Ended.{Ended}
use Rattle.packing.specs.Packed.{pack, end_number, refusal}

-- A run of a source or of a word
abbrev pub run_ended : Result Ended Refusal → ℕ
run_ended (Ok run) = pack (end_number run.end) 0 run.steps
run_ended (Err r) = refusal r

abbrev pub value_read : Result (Option ℕ) Refusal → ℕ
value_read (Ok (Some n)) = pack 0 0 n
value_read (Ok None) = pack 5 0 0
value_read (Err r) = refusal r
