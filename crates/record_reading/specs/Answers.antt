-- What `read_table` hands back, by the definitions of crate theory.
use Rattle.theory.specs.declared.Refusal.{Refusal}
use Rattle.std.specs.Prelude.{◌≡◌, List, ℕ, Result}
use Rattle.theory.specs.TurnedDown.{mapped, read_word, lend, lent_after}
use Rattle.word.specs.declared.answers.Instruction.{Instruction}
use Rattle.word.specs.Answers.{records_of, read_answer}

-- A word read into a lent table of records: rules 11 to 14, then 19
abbrev pub ReadsTable : (word : List ℕ) (table : List Instruction) → Result ℕ Refusal → (table' : List Instruction) → Type 0
ReadsTable word table r table' =
    (r ≡ read_answer (lend table (read_word word))) × (table' ≡ lent_after table (mapped records_of (lend table (read_word word))))
