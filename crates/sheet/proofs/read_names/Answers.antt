-- `read_names` meets its contract: the part that it reads is the first line, and it is judged as the definition judges its names.
use Rattle.std.specs.Prelude.{Option as Found, Result, Ok, Err}
use mathlib.Core.Path.{◌≡◌, sym, ap, ◌∙◌}
use mathlib.Core.Bool.{true}
use mathlib.Core.List.{[]}
use Prim.Native.Nat.{ℕ, ◌+◌, ◌-◌, ◌≤◌, min}
use native.Mathlib.Omega.{arith}
use lib.ListN.{length, take, drop}
use Rattle.theory.specs.Basics.{default}
use Rattle.theory.specs.Text.{Bytes, LF}
use Rattle.theory.specs.RunSheet.{names}
use Rattle.theory.specs.TurnedDown.{names_fault}
use Rattle.theory.specs.declared.Refusal.{Refusal}
use Rattle.theory.proofs.PassedOn.{passed_on}
use Rattle.text.specs.Runs.{before}
use Rattle.fields.specs.declared.Line.{Line}
use Rattle.fields.specs.Fields.{most, line_of, numbers_of}
use Rattle.sheet.specs.declared.answers.Names.{Names}
use Rattle.sheet.specs.Answers.{unless_refused, names_record, line_at, after_line}
use Rattle.sheet.specs.Lines.{names_told, heading}
use Rattle.sheet.proofs.Along.{passes, refuses}
use Rattle.sheet.proofs.Splits.{part_end, part_line, part_next}
use Rattle.sheet.proofs.Judged.{numbers-names, names-judged}
use Rattle.sheet.proofs.read_names.Goals as goal

-- The line of names, judged, and the byte behind it
module _ (K : ℕ) (s : Bytes) where
  abbrev judged : Result Names Refusal
  judged = unless_refused (names_fault K (names (line_at s 0))) (names_record (default [] (names (line_at s 0))))

  heading_ok : (ns : Names) (next : ℕ) → Ok ns ≡ judged → next ≡ after_line s 0 → Ok (record { names = ns; next = next }) ≡ heading K s
  unfolding heading
  heading_ok ns next e x =
      let told : _ = passes (names_fault K (names (line_at s 0))) (names_record (default [] (names (line_at s 0)))) e in
      rw (told.0, told.1, x)

  heading_err : (r : Refusal) → Err r ≡ judged → Err r ≡ heading K s
  unfolding heading
  heading_err r e = rw (refuses (names_fault K (names (line_at s 0))) (names_record (default [] (names (line_at s 0)))) e)

-- What the line is told, where the code has found it
names_found : (s : Bytes) (variables bound end : ℕ) (line : Found Line) → bound ≡ min variables 32 → end ≡ 0 + before LF (drop 0 s)
    → line ≡ line_of (min bound most) (numbers_of true (take (end - 0) (drop 0 s))) → names_told line ≡ judged (min variables 32) s
names_found s variables bound end line b e l =
    let K : ℕ = min variables 32 in
    let same : min bound most ≡ K = omega arith in
    let read : line ≡ line_of K (names (line_at s 0)) = rw (part_line s 0 0 end (omega arith) e, numbers-names (line_at s 0), same) at l in
    ap names_told read ∙ names-judged K (names (line_at s 0)) (omega arith)

pub slice_bounds-read_line-end : goal.slice_bounds-read_line-end
slice_bounds-read_line-end c =
    let within : c.find-end.result ≤ length c.args.sheet.now = part_end c.args.sheet.now 0 0 c.find-end.result (omega arith) c.find-end.ensures in
    omega arith

pub returns : goal.returns
returns c =
    let a : _ = c.args in
    let s : Bytes = a.sheet.now in
    let end : ℕ = c.find-end.result in
    let told : _ = names_found s a.variables c.min-bound.result end c.read_line.result c.min-bound.ensures c.find-end.ensures c.read_line.ensures in
    heading_ok (min a.variables 32) s c.in_ok-names.names c.min-next.result (sym c.in_ok-names.was ∙ c.as_names.ensures ∙ told)
    (c.min-next.ensures ∙ part_next s 0 0 end (omega arith) c.find-end.ensures)

pub returns-in_err-names : goal.returns-in_err-names
returns-in_err-names c =
    let a : _ = c.args in
    let s : Bytes = a.sheet.now in
    let end : ℕ = c.find-end.result in
    let told : _ = names_found s a.variables c.min-bound.result end c.read_line.result c.min-bound.ensures c.find-end.ensures c.read_line.ensures in
    passed_on _ c.from_residual.ensures
    ∙ heading_err (min a.variables 32) s _ (sym c.in_err-names.was ∙ c.as_names.ensures ∙ told)
