-- What a row of the report is, by the definitions of crate theory, and what the functions inside this crate take for granted.
use Rattle.std.specs.Prelude.{◌≡◌, List, ◌++◌, ℕ, Result, Ok, Err}
use Rattle.std.proofs.Math.Option.{none}
use Rattle.theory.specs.Basics.{or_else}
use Rattle.theory.specs.Text.{Bytes, split_lines}
use Rattle.theory.specs.ProgramText.{Command, variables, commands}
use Rattle.theory.specs.Runs.{Outcome}
use Rattle.theory.specs.Source as S
use Rattle.theory.specs.Word as W
use Rattle.theory.specs.Translation.{word_text}
use Rattle.theory.specs.TurnedDown.{done, answer, read_list, word_entries, sheet_fault_for, rule_21, names_of}
use Rattle.theory.specs.Machines.{capacity_of}
use Rattle.theory.specs.RunTool.{source_on, word_on, header, rows_of, capacities_fault, report_fault, printed}
use Rattle.capacities.specs.Room.{of_variables}
use Rattle.theory.specs.declared.End.TheVariants.{Spent}
use Rattle.theory.specs.declared.Ended.{Ended}
use Rattle.theory.specs.declared.Refusal.{Refusal}
use Rattle.word.specs.Answers.{zipped}
use Rattle.sheet.specs.Answers.{names_record}
use Rattle.sheet.specs.declared.answers.Names.{Names}
use Rattle.printing.specs.declared.Row.{Row}
use Rattle.printing.specs.Lines.{Within}

-- How a run of the definitions ended, and how a run of a word or a source did. A refusal, which does not come, counts as no step
abbrev pub ended_of : {S : Type 0} → Outcome S → Ended
ended_of o = record { end = o.end; steps = o.steps }

abbrev pub run_ended : Result Ended Refusal → Ended
run_ended (Ok e) = e
run_ended (Err r) = record { end = Spent; steps = 0 }

-- What is printed of the two runs of a line
unfoldable pub row_of : Outcome S.State → Outcome W.State → Row
row_of s w = record {
  source = ended_of s;
  word = ended_of w;
  first = s.state.values 0;
}

-- A list that is accepted, of a program of K variables
pub record Listed (list : Bytes) (K : ℕ) : Type 0 where
  pub accepted : read_list list ≡ done (commands list)
  pub named : K ≡ variables (commands list)

-- and the word of its program
pub record Ready (list word : Bytes) (K : ℕ) : Type 0 where
  pub listed : Listed list K
  pub translated : word ≡ word_text (commands list)

-- or that word's instructions, as numbers
pub record Tabled (list kinds operands : List ℕ) (K : ℕ) : Type 0 where
  pub listed : Listed list K
  pub table : zipped kinds operands ≡ word_entries (word_text (commands list))

-- A sheet that is accepted for a program of K variables on registers of these capacities, and its names
pub record Given (capacities : List ℕ) (sheet : Bytes) (names : Names) (K : ℕ) : Type 0 where
  pub passes : sheet_fault_for K (of_variables capacities) sheet ≡ none
  pub columns : names ≡ names_record (names_of (split_lines sheet))

-- The row of a program's runs from v
pub record Ran (capacities : List ℕ) (p : List Command) (v : ℕ → ℕ) (r : Row) : Type 0 where
  pub row : r ≡ row_of (source_on capacities p v) (word_on capacities p v)
  pub within : Within r

-- What is printed for a program that is accepted; and where rules 10 and 21 let the capacities pass
unfoldable pub program_report : List ℕ → List Command → Bytes → Bytes
program_report capacities p sheet =
    printed (answer (report_fault capacities p sheet) (header ++ rows_of capacities p (split_lines sheet)))

abbrev pub Roomy : List ℕ → List Command → Type 0
Roomy capacities p = or_else (capacities_fault capacities) (rule_21 (capacity_of capacities) p) ≡ none
