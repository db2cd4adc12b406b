-- What the functions on tables of records inside this crate hand back.
use Rattle.std.specs.Prelude.{List, ℕ}
use Rattle.std.proofs.Math.Seq.{paste}
use Rattle.theory.specs.Word.{Entry}
use Rattle.tally.specs.declared.Tally.{Tally}
use Rattle.tally.specs.Tallies.{judged}
use Rattle.word.specs.Answers.{kinds_of, operands_of}
use Rattle.record_counting.specs.Counted.{answer_count}
use Rattle.records.specs.declared.Gathered.{Gathered}
use Rattle.records.specs.declared.Numbers.{Numbers}
use Rattle.records.specs.Answers.{no_numbers}

-- The numbers of a table's first entries, and 0s after them
unfoldable pub numbers_of : List Entry → ℕ → Numbers
numbers_of t count = record { kinds = paste no_numbers 0 (kinds_of t) count; operands = paste no_numbers 0 (operands_of t) count }

unfoldable pub judged_count : Tally → ℕ
judged_count t = answer_count (judged t)

unfoldable pub finished : Tally → Numbers → Gathered
finished t n = record { kinds = n.kinds; operands = n.operands; answer = judged t }
