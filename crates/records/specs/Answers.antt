-- What `gather` hands back, by the definitions of crate theory.
use Rattle.std.specs.Prelude.{List, ℕ, replicate}
use Rattle.theory.specs.Limits
use Rattle.theory.specs.Word.{Entry}
use Rattle.theory.specs.TurnedDown.{mapped, read_table, lent_after}
use Rattle.word.specs.Answers.{kinds_of, operands_of, read_answer}
use Rattle.records.specs.declared.Gathered.{Gathered}

-- A table as numbers, with room for as many instructions as a word may have: rules 11, 13 and 14 as for tables
abbrev pub no_numbers : List ℕ
no_numbers = replicate Limits.most_instructions 0

unfoldable pub gathered : List Entry → Gathered
gathered t = record {
  kinds = lent_after no_numbers (mapped kinds_of (read_table t));
  operands = lent_after no_numbers (mapped operands_of (read_table t));
  answer = read_answer (read_table t);
}
