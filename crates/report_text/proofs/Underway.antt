-- The report while its rows are written: what is put so far and the rows of the lines that are left are the whole text.
use mathlib.Core.Path.{◌≡◌, refl, sym, ap, subst, ◌∙◌}
use mathlib.Core.Option.{Option, none}
use mathlib.Core.List.{List, [], ◌∷◌, ◌++◌, append_assoc, append-nil}
use Prim.Native.Nat.{ℕ, suc, ◌+◌, ◌*◌, ◌≤◌, ◌<◌}
use native.Mathlib.Numerals.{add-one}
use native.Mathlib.Omega.{arith}
use lib.ListN.{length, drop, drop_of_length-le}
use Rattle.theory.specs.Text.{Bytes, split_lines}
use Rattle.theory.specs.ProgramText.{Command}
use Rattle.theory.specs.RunSheet.{values}
use Rattle.theory.specs.TurnedDown.{values_fault, rows_fault, names_of}
use Rattle.theory.specs.RunTool.{row, rows, rows_of}
use Rattle.theory.specs.declared.Refusal.{Refusal}
use Rattle.theory.proofs.Faults.{none_first, none_second}
use Rattle.output.specs.Puts.{most, Put}
use Rattle.output.proofs.Puts.{put_nothing, put_then}
use Rattle.capacities.specs.Room.{of_variables}
use Rattle.report_text.proofs.Sheets.{Sheet}

-- The names of a sheet, and its lines from a byte on
abbrev pub columns : Bytes → List ℕ
columns s = names_of (split_lines s)

abbrev pub lines_from : Bytes → ℕ → List Bytes
lines_from s at = split_lines (drop at s)

-- The next row begins at byte `at`, as line n of the sheet. The rows are put from `from` on
pub record Writing (capacities : List ℕ) (p : List Command) (s : Bytes) (from : ℕ) (before : Bytes) (at n place : ℕ) (out : Bytes) : Type 0
  where
    pub inside : at ≤ length s
    pub text : Bytes
    pub put : Put text from before out place
    pub whole : text ++ rows capacities p (columns s) (lines_from s at) ≡ rows_of capacities p (split_lines s)
    pub passes : rows_fault (of_variables capacities) (columns s) n (lines_from s at) ≡ none
    pub few : place ≤ 11 + 36 * at
    pub counted : n ≤ at + 1

rows-after : (capacities : List ℕ) (p : List Command) (ls : List Bytes) (l : Bytes) (rest : List Bytes) → ls ≡ l ∷ rest
    → rows_of capacities p ls ≡ rows capacities p (names_of ls) rest
rows-after capacities p ls l rest e = subst (λ m. rows_of capacities p m ≡ rows capacities p (names_of m) rest) (sym e) refl

module _ (capacities : List ℕ) (p : List Command) (s : Bytes) (from : ℕ) (before : Bytes) where
  -- All the rows
  abbrev Whole : Bytes → Type 0
  Whole t = t ≡ rows_of capacities p (split_lines s)

  pub writing_start : (K at : ℕ) (l : Bytes) → Sheet (of_variables capacities) K s → split_lines s ≡ l ∷ lines_from s at → 1 ≤ at
      → at ≤ length s → from ≤ 47
      → length before ≤ most
      → Writing capacities p s from before at 2 from before
  writing_start K at l sheet e some inside header fits =
      let same : lines_from s at ≡ sheet.rest = cc sheet.lines in
      record {
        inside = inside;
        text = [];
        put = put_nothing before from (omega arith) fits;
        whole = sym (rows-after capacities p (split_lines s) l (lines_from s at) e);
        passes = subst (λ ls. rows_fault (of_variables capacities) (columns s) 2 ls ≡ none) (sym same) sheet.rows;
        few = omega arith;
        counted = omega arith;
      }

  module _ (at n place next : ℕ) (l out : Bytes) (w : Writing capacities p s from before at n place out)
      (e : lines_from s at ≡ l ∷ lines_from s next) where
    passing : rows_fault (of_variables capacities) (columns s) n (l ∷ lines_from s next) ≡ none
    passing = subst (λ ls. rows_fault (of_variables capacities) (columns s) n ls ≡ none) e w.passes

    abbrev later : Option Refusal
    later = rows_fault (of_variables capacities) (columns s) (suc n) (lines_from s next)

    pub line_passes : values_fault (of_variables capacities) (columns s) n (values l) ≡ none
    unfolding rows_fault
    line_passes = none_first (values_fault (of_variables capacities) (columns s) n (values l)) later passing

    pub writing_next : (out' : Bytes) (place' : ℕ) → at < next → next ≤ length s → length (row capacities p (columns s) l) ≤ 36
        → Put (row capacities p (columns s) l) place out out' place' → Writing capacities p s from before next (n + 1) place' out'
    unfolding rows rows_fault
    writing_next out' place' more inside short put =
        let line = row capacities p (columns s) l in
        let left = rows capacities p (columns s) (lines_from s next) in
        let split : Whole (w.text ++ (line ++ left)) = subst (λ ls. Whole (w.text ++ rows capacities p (columns s) ls)) e w.whole in
        record {
          inside = inside;
          text = w.text ++ line;
          put = put_then w.put put;
          whole = append_assoc w.text line left ∙ split;
          passes = rw (add-one n) (none_second (values_fault (of_variables capacities) (columns s) n (values l)) later passing);
          few = omega (arith, put.next, w.few);
          counted = omega (arith, w.counted);
        }

  pub writing_end : (at n place : ℕ) (out : Bytes) → Writing capacities p s from before at n place out → length s ≤ at → length s ≤ 4096
      → Put (rows_of capacities p (split_lines s)) from before out place × (place ≤ 147467)
  unfolding rows split_lines
  writing_end at n place out w end size =
      let none_left : lines_from s at ≡ [] = ap split_lines (drop_of_length-le s {i = at} end) in
      let rest : Whole (w.text ++ []) = subst (λ ls. Whole (w.text ++ rows capacities p (columns s) ls)) none_left w.whole in
      let all : Whole w.text = sym (append-nil w.text) ∙ rest in
      (subst (λ t. Put t from before out place) all w.put, omega (arith, w.few, w.inside))
