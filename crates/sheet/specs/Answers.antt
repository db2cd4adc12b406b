-- What this crate's entries hand back, by the definitions of crate theory: a sheet that is checked, and a line of values that is read.
use Rattle.std.specs.Prelude.{List, [], ◌∷◌, ℕ, ◌+◌, ◌-◌, min, length, take, drop, None, Some, Result, Ok, Err}
use Rattle.std.specs.Prelude as code
use Rattle.std.proofs.Math.Option.{Option, none, some}
use Rattle.theory.specs.Limits
use Rattle.theory.specs.Text.{Bytes, split_lines}
use Rattle.theory.specs.RunSheet.{values}
use Rattle.theory.specs.TurnedDown.{values_fault, names_of, sheet_fault_for}
use Rattle.theory.specs.declared.Refusal.{Refusal}
use Rattle.columns.specs.Columns.{padded, starts}
use Rattle.sheet.specs.declared.answers.Names.{Names}
use Rattle.sheet.specs.declared.answers.Sheet.{Sheet}
use Rattle.sheet.specs.declared.answers.Row.{Row}

-- What is handed back where nothing is turned down, or the first refusal that applies
abbrev pub unless_refused : {A : Type 0} → Option Refusal → A → Result A Refusal
unless_refused none a = Ok a
unless_refused (some r) a = Err r

-- A sheet checked

abbrev pub names_record : List ℕ → Names
names_record ns = record { columns = padded ns; count = length ns }

-- Every line but the first is a row
abbrev pub sheet_record : List Bytes → Sheet
sheet_record ls = record { names = names_record (names_of ls); rows = length ls - 1 }

unfoldable pub sheet_answer : ℕ → List ℕ → Bytes → Result Sheet Refusal
sheet_answer K capacities s = unless_refused (sheet_fault_for K capacities s) (sheet_record (split_lines s))

-- A line of values read

-- The first line, or the empty one where there is none
abbrev pub head_line : List Bytes → Bytes
head_line [] = []
head_line (l ∷ ls) = l

unfoldable pub line_at : Bytes → ℕ → Bytes
line_at s at = head_line (split_lines (drop at s))

-- The byte behind the line that begins at a byte, and behind its LF
abbrev pub after_line : Bytes → ℕ → ℕ
after_line s at = min (at + length (line_at s at) + 1) (length s)

abbrev pub columns_of : Names → List ℕ
columns_of n = take (min n.count Limits.state_values) n.columns

abbrev pub fault_as : Option Refusal → code.Option Refusal
fault_as none = None
fault_as (some r) = Some r

-- The values that all variables start at; 0 where the line is turned down
abbrev pub starts_as : Option Refusal → List ℕ → Option (List ℕ) → List ℕ
starts_as none ns none = padded []
starts_as none ns (some vs) = starts ns vs
starts_as (some r) ns vs = padded []

abbrev pub row_fault : Bytes → Names → List ℕ → ℕ → ℕ → Option Refusal
row_fault s names capacities n at = values_fault capacities (columns_of names) n (values (line_at s at))

unfoldable pub row_answer : Bytes → Names → List ℕ → ℕ → ℕ → Row
row_answer s names capacities n at =
    let fault = row_fault s names capacities n at in
    record {
      values = starts_as fault (columns_of names) (values (line_at s at));
      next = after_line s at;
      fault = fault_as fault;
    }
