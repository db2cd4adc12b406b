-- What the functions inside this crate store of a word.
use Rattle.std.specs.Prelude.{◌≡◌, List, ℕ, ◌≤◌, ◌<◌, length, leb}
use Rattle.std.proofs.Math.Option.{none}
use Rattle.std.proofs.Math.Seq.{paste}
use Rattle.theory.specs.Word.{Entry}
use Rattle.theory.specs.TurnedDown.{Answer, unless, answer, after, read_word, word_entries, word_fault}
use Rattle.word.specs.declared.answers.Instruction.{Instruction}
use Rattle.word.specs.Answers.{records_of}

-- A word for a lent table of so many entries
unfoldable pub measured : ℕ → List ℕ → Answer (List Entry)
measured room w = after (read_word w) λ t. answer (unless (leb (length t) room) 19 0) t

-- So many instructions are to be stored: none, or the first of a word that no rule turns down
pub record Storable (w : List ℕ) (count : ℕ) (table : List Instruction) : Type 0 where
  pub room : count ≤ length table
  pub within : count ≤ length (word_entries w)
  pub passed : 0 < count → word_fault w ≡ none

unfoldable pub stored : List ℕ → ℕ → List Instruction → List Instruction
stored w count table = paste table 0 (records_of (word_entries w)) count
