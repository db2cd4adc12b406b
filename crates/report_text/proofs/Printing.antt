-- What is printed, by what turns a program or its sheet down.
use mathlib.Core.Path.{◌≡◌, refl, sym, ap, subst}
use mathlib.Core.Option.{Option, none, some, none-ne-some, some-injective}
use mathlib.Core.List.{List, ◌++◌}
use Prim.Native.Nat.{ℕ, ◌≤◌, ◌<◌}
use native.Mathlib.Omega.{arith}
use lib.Dec.{leb}
use lib.ListN.{length}
use borrow.Author.Tests.{le-leb, lt-leb}
use Rattle.theory.specs.Text.{Bytes, split_lines}
use Rattle.theory.specs.ProgramText.{Command, variables}
use Rattle.theory.specs.Runs.{Outcome}
use Rattle.theory.specs.Source as S
use Rattle.theory.specs.Word as W
use Rattle.theory.specs.Translation.{word_text}
use Rattle.theory.specs.Basics.{or_else}
use Rattle.theory.specs.Machines.{capacity_of}
use Rattle.theory.specs.TurnedDown.{done, refused, unless, answer, read_text, sheet_fault, rule_21}
use Rattle.theory.specs.RunTool.{shown, header, rows_of, capacities_fault, report_fault, report_answer, printed, report_on}
use Rattle.theory.specs.declared.Refusal.{Refusal}
use Rattle.printing.specs.Lines.{Few, row_line, refusal_line}
use Rattle.theory.proofs.Faults.{none_first, none_second}
use Rattle.capacities.specs.Room.{of_variables}
use Rattle.capacities.proofs.Cells.{variables-at}
use Rattle.report_text.specs.Rows.{row_of, Roomy, program_report}
use Rattle.report_text.specs.Printed.{Printed}
use Rattle.sheet.proofs.Alike.{sheet_alike}

pub shown-row : (s : Outcome S.State) (w : Outcome W.State) → row_line (row_of s w) ≡ shown s w
unfolding row_line row_of shown
shown-row s w = refl

pub text_refused : (capacities : List ℕ) (t s : Bytes) (r : Refusal) → read_text t ≡ refused r → report_on capacities t s ≡ refusal_line r
unfolding report_on report_answer refusal_line
text_refused capacities t s r e = rw e

pub text_accepted : (capacities : List ℕ) (t s : Bytes) (p : List Command) → read_text t ≡ done p
    → report_on capacities t s ≡ program_report capacities p s
unfolding report_on report_answer program_report
text_accepted capacities t s p e = rw e

-- A refusal's line, put, is the report where that is the line
pub refusal-printed : {t before after : Bytes} {n : ℕ} (r : Refusal) → t ≡ refusal_line r → Few 50 (refusal_line r) 0 before after n
    → Printed t before after n
refusal-printed {t} {before} {after} {n} r e put =
    subst (λ u. Printed u before after n) (sym e) (record { put = put.put; few = omega (arith, put.few) })

-- Rules 10 and 21
pub room_refused : (capacities : List ℕ) (p : List Command) (s : Bytes) (r : Refusal)
    → or_else (capacities_fault capacities) (rule_21 (capacity_of capacities) p) ≡ some r → program_report capacities p s ≡ refusal_line r
unfolding program_report report_fault refusal_line
room_refused capacities p s r = go (capacities_fault capacities) (rule_21 (capacity_of capacities) p)
  where
    rest : Option Refusal
    rest = or_else (sheet_fault p capacities s) (unless (leb (length (word_text p)) 65536) 19 0)

    go : (x y : Option Refusal) → or_else x y ≡ some r
        → printed (answer (or_else x (or_else y rest)) (header ++ rows_of capacities p (split_lines s))) ≡ refusal_line r
    go none none e = absurd (none-ne-some r e)
    go none (some q) e = ap (λ z. refusal_line z) (some-injective q r e)
    go (some q) y e = ap (λ z. refusal_line z) (some-injective q r e)

pub roomy-set : (capacities : List ℕ) (p : List Command) → Roomy capacities p → capacities_fault capacities ≡ none
roomy-set capacities p roomy = none_first (capacities_fault capacities) (rule_21 (capacity_of capacities) p) roomy

module _ (capacities : List ℕ) (p : List Command) (s : Bytes) (few : variables p ≤ 32) (roomy : Roomy capacities p) where
  -- Only the variables' registers count
  judged : sheet_fault p capacities s ≡ sheet_fault p (of_variables capacities) s
  judged = sheet_alike (variables p) capacities (of_variables capacities) (λ i h. sym (variables-at capacities i (omega arith))) s

  set : capacities_fault capacities ≡ none
  set = roomy-set capacities p roomy

  passes_21 : rule_21 (capacity_of capacities) p ≡ none
  passes_21 = none_second (capacities_fault capacities) (rule_21 (capacity_of capacities) p) roomy

  pub sheet_refused : (r : Refusal) → sheet_fault p (of_variables capacities) s ≡ some r → program_report capacities p s ≡ refusal_line r
  unfolding program_report report_fault refusal_line
  sheet_refused r e = rw (set, passes_21, judged, e)

  pub word_refused : sheet_fault p (of_variables capacities) s ≡ none → 65536 < length (word_text p)
      → program_report capacities p s ≡ refusal_line (record { number = 19; place = 0 })
  unfolding program_report report_fault refusal_line
  word_refused e long = rw (set, passes_21, judged, e, lt-leb (length (word_text p)) 65536 long)

  pub all-printed : sheet_fault p (of_variables capacities) s ≡ none → length (word_text p) ≤ 65536
      → program_report capacities p s ≡ header ++ rows_of capacities p (split_lines s)
  unfolding program_report report_fault
  all-printed e short = rw (set, passes_21, judged, e, le-leb (length (word_text p)) 65536 short)
