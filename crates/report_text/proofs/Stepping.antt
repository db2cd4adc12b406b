-- One row of an accepted sheet: what its runs start at, and that the line put for it is the definitions'.
use mathlib.Core.Path.{◌≡◌, sym, ap, subst, ◌∙◌}
use mathlib.Core.Bool.{true}
use mathlib.Core.List.{List, [], ◌∷◌, ◌++◌}
use Prim.Native.Nat.{ℕ, ◌+◌, ◌≤◌, ◌<◌}
use native.Mathlib.Omega.{arith}
use lib.ListN.{length}
use Rattle.theory.specs.Basics.{cells, default}
use Rattle.theory.specs.Text.{Bytes, split_lines, ends_in_LF}
use Rattle.theory.specs.RunSheet.{values, start}
use Rattle.theory.specs.RunTool.{source_on, word_on, shown, header, row, rows_of}
use Rattle.theory.specs.TurnedDown.{within_columns}
use Rattle.theory.specs.ProgramText.{commands}
use Rattle.sheet.specs.Answers.{names_record, line_at, after_line, row_answer}
use Rattle.sheet.specs.declared.answers.Names.{Names}
use Rattle.sheet.specs.declared.answers.Row.{Row as Line}
use Rattle.sheet.proofs.Splits.{lines_next}
use Rattle.printing.specs.declared.Row.{Row}
use Rattle.output.specs.Puts.{most, Put}
use Rattle.printing.specs.Lines.{row_line}
use Rattle.report_text.specs.Fresh.{values_of, Starts}
use Rattle.capacities.specs.Room.{of_variables}
use Rattle.report_text.specs.Rows.{Ready, Given, Ran}
use Rattle.report_text.specs.Printed.{Printed}
use Rattle.output.proofs.Puts.{put_then}
use Rattle.printing.proofs.Lengths.{row_short}
use Rattle.report_text.proofs.Reading.{listed_few}
use Rattle.report_text.proofs.Values.{values_within, cells-values, cells-start}
use Rattle.report_text.proofs.Sheets.{Sheet, sheet_accepted}
use Rattle.report_text.proofs.Columns.{few_names, row-values, row_next}
use Rattle.report_text.proofs.Printing.{shown-row}
use Rattle.report_text.proofs.Underway.{columns, lines_from, Writing, writing_start, line_passes, writing_next, writing_end}

ended-length : (s : Bytes) → ends_in_LF s ≡ true → 1 ≤ length s
unfolding ends_in_LF
ended-length [] h = let z : ◌≡◌ {A = ℕ} 0 1 = cc in omega arith
ended-length (b ∷ s) h = omega arith

-- What a turn of the loop over the rows makes of the line that it reads
pub record Turn (capacities : List ℕ) (list s : Bytes) (K from : ℕ) (before : Bytes) (at n place : ℕ) (out : Bytes) (line : Line) : Type 0
  where
    pub starts : Starts K capacities line.values
    pub later : at < line.next
    pub inside : line.next ≤ length s
    pub puts : (r : Row) → Ran capacities (commands list) (values_of line.values) r
        → (out' : Bytes) (place' : ℕ) → Put (row_line r) place out out' place'
        → Writing capacities (commands list) s from before line.next (n + 1) place' out'

module _ (capacities : List ℕ) (list word s : Bytes) (names : Names) (K : ℕ) (ready : Ready list word K)
    (given : Given capacities s names K) where
  abbrev limits : List ℕ
  limits = of_variables capacities

  sheet : Sheet limits K s
  sheet = sheet_accepted limits K s given.passes

  few : K ≤ 32
  few = listed_few list K ready.listed

  short_names : length (columns s) ≤ 32
  short_names = few_names K (columns s) few sheet.low sheet.apart

  module _ (from : ℕ) (before : Bytes) (at n place : ℕ) (out : Bytes)
      (w : Writing capacities (commands list) s from before at n place out) (more : at < length s)
      (line : Line) (e : line ≡ row_answer s names limits n at) where
    within : within_columns limits (columns s) (default [] (values (line_at s at))) ≡ true
    within =
        let passes = line_passes capacities (commands list) s from before at n place (after_line s at) (line_at s at) out w
        (lines_next s at more) in
        values_within limits (columns s) n (values (line_at s at)) passes

    read : line.values ≡ cells 32 (start (columns s) (default [] (values (line_at s at))))
    read =
        let passes = line_passes capacities (commands list) s from before at n place (after_line s at) (line_at s at) out w
        (lines_next s at more) in
        let answered : line ≡ row_answer s (names_record (columns s)) limits n at
        = e ∙ ap {B = Line} (λ m. row_answer s m limits n at) given.columns in
        ap {B = List ℕ} (λ r. r.values) answered ∙ row-values limits s (columns s) n at short_names passes

    next : line.next ≡ after_line s at
    next = ap (λ r. r.next) e ∙ row_next limits s names n at

    next_later : at < line.next
    next_later = omega (arith, next)

    next_inside : line.next ≤ length s
    next_inside = omega (arith, next)

    row-starts : Starts K capacities line.values
    row-starts = subst (Starts K capacities) (sym read)
        (cells-start capacities K (columns s) (default [] (values (line_at s at))) few sheet.low within)

    module _ (r : Row) (ran : Ran capacities (commands list) (values_of line.values) r) where
      from_start : values_of line.values ≡ start (columns s) (default [] (values (line_at s at)))
      from_start = ap values_of read ∙ cells-values capacities K (columns s) (default [] (values (line_at s at))) few sheet.low within

      line_is : row_line r ≡ row capacities (commands list) (columns s) (line_at s at)
      unfolding row
      line_is =
          let shows : (ℕ → ℕ) → Bytes = λ v. shown (source_on capacities (commands list) v) (word_on capacities (commands list) v) in
          ap row_line ran.row ∙ shown-row _ _ ∙ ap shows from_start

      row_put : (out' : Bytes) (place' : ℕ) → Put (row_line r) place out out' place'
          → Writing capacities (commands list) s from before line.next (n + 1) place' out'
      row_put out' place' put =
          let follows = subst (λ m. lines_from s at ≡ line_at s at ∷ lines_from s m) (sym next) (lines_next s at more) in
          let onward = writing_next capacities (commands list) s from before at n place line.next (line_at s at) out w follows out'
          place' in
          let short = subst (λ t. length t ≤ 36) line_is (row_short r ran.within) in
          onward next_later next_inside short (subst (λ t. Put t place out out' place') line_is put)

    pub turn : Turn capacities list s K from before at n place out line
    turn = record { starts = row-starts; later = next_later; inside = next_inside; puts = row_put }

  -- Places and counts stay small
  pub small : (from : ℕ) (before : Bytes) (at n place : ℕ) (out : Bytes) → Writing capacities (commands list) s from before at n place out
      → (place ≤ 147467) × (n ≤ 4097)
  small from before at n place out w =
      (omega (arith, w.few, w.inside, sheet.size), omega (arith, w.counted, w.inside, sheet.size))

  -- The first row, and after the last
  some_bytes : 1 ≤ length s
  some_bytes = ended-length s sheet.ended

  pub rows_begin : (from : ℕ) (before : Bytes) (at : ℕ) → at ≡ after_line s 0 → from ≤ 47 → length before ≤ most
      → Writing capacities (commands list) s from before at 2 from before
  rows_begin from before at e header fits =
      let some : 0 < length s = some_bytes in
      let start = writing_start capacities (commands list) s from before K (after_line s 0) (line_at s 0) sheet (lines_next s 0 some) in
      rw e (start (omega arith) (omega arith) header fits)

  pub rows-printed : (from place at n : ℕ) (first before out : Bytes) → Put header 0 first before from
      → Writing capacities (commands list) s from before at n place out → length s ≤ at
      → Printed (header ++ rows_of capacities (commands list) (split_lines s)) first out place
  rows-printed from place at n first before out put w end =
      let all = writing_end capacities (commands list) s from before at n place out w end sheet.size in
      record { put = put_then put all.0; few = all.1 }
