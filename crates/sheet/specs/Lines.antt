-- What the functions inside this crate hand back: the line of names, a line of values, all of these.
use Rattle.std.specs.Prelude.{Option as Found, None, Some, Result, Ok, Err, ◌≡◌, Bool, cond, ◌&&◌, List, [], ℕ, length, take, eqb, leb}
use Rattle.theory.specs.Basics.{default}
use Rattle.theory.specs.Limits
use Rattle.theory.specs.Text.{Bytes, ends_in_LF}
use Rattle.theory.specs.RunSheet.{names, values}
use Rattle.theory.specs.TurnedDown.{within_columns, names_fault, values_fault, rows_fault}
use Rattle.theory.specs.declared.Refusal.{Refusal}
use Rattle.columns.specs.Columns.{padded, columns_as}
use Rattle.fields.specs.declared.Line.{Line}
use Rattle.sheet.specs.declared.answers.Names.{Names}
use Rattle.sheet.specs.declared.Heading.{Heading}
use Rattle.sheet.specs.declared.Scanned.{Scanned}
use Rattle.sheet.specs.Answers.{unless_refused, names_record, line_at, after_line}

abbrev pub down : {A : Type 0} → ℕ → ℕ → Result A Refusal
down number place = Err (record { number = number; place = place })

-- Rules 16 and 17, of a line as names: its columns fit together or don't
abbrev pub columns_told : ℕ → Found (List ℕ) → Result Names Refusal
columns_told count None = down 17 1
columns_told count (Some columns) = Ok (record { columns = columns; count = count })

abbrev pub names_told : Found Line → Result Names Refusal
names_told None = down 16 1
names_told (Some l) = cond l.below (columns_told l.count (columns_as l.count l.numbers)) (down 17 1)

-- Rules 16 and 18, of line n as values for some names
abbrev pub values_told : List ℕ → Names → ℕ → Found Line → Result (List ℕ) Refusal
values_told capacities ns n None = down 16 n
values_told capacities ns n (Some l) =
    let within = within_columns capacities (take ns.count ns.columns) (take ns.count l.numbers) in
    cond (eqb l.count ns.count) (cond (l.below && within) (Ok l.numbers) (down 18 n)) (down 16 n)

-- The first line of a sheet, as names for a program of K variables
abbrev pub head_record : List ℕ → ℕ → Heading
head_record ns next = record { names = names_record ns; next = next }

unfoldable pub heading : ℕ → Bytes → Result Heading Refusal
heading K s =
    let ns = names (line_at s 0) in
    unless_refused (names_fault K ns) (head_record (default [] ns) (after_line s 0))

-- Line n of values for some names, which begins at a byte of the sheet
pub record Scans (s : Bytes) (ns : Names) (capacities : List ℕ) (n at : ℕ) (r : Scanned) : Type 0 where
  pub judged : r.numbers
      ≡ unless_refused (values_fault capacities (take ns.count ns.columns) n (values (line_at s at))) (padded (default [] (values (line_at s at))))
  pub next_line : r.next ≡ after_line s at

-- The rows of a sheet: the first fault of any, or how many there are
unfoldable pub rows_as : List ℕ → List ℕ → List Bytes → Result ℕ Refusal
rows_as capacities ns ls = unless_refused (rows_fault capacities ns 2 ls) (length ls)

unfoldable pub is_sheet_size : Bytes → Bool
is_sheet_size s = leb (length s) Limits.most_sheet_bytes && ends_in_LF s
