-- A line of values, as crate sheet reads it: the values that its run starts at, and where the next line begins.
use Rattle.std.specs.Prelude.{Result, Ok, Err}
use mathlib.Core.Path.{◌≡◌, refl, sym, ap, ap₂, subst, ◌∙◌}
use mathlib.Core.Bool.{true}
use mathlib.Core.Option.{Option, none, some}
use mathlib.Core.List.{List, []}
use Prim.Native.Nat.{ℕ, min, ◌≤◌}
use native.Mathlib.Omega.{arith}
use lib.Dec.{ltb}
use lib.ListN.{length}
use borrow.Author.Tests.{le-leb}
use Rattle.theory.specs.Basics.{cells, all, default}
use Rattle.theory.specs.Text.{Bytes, split_lines}
use Rattle.theory.specs.ProgramText.{above}
use Rattle.theory.specs.RunSheet.{values, start, distinct}
use Rattle.theory.specs.TurnedDown.{values_fault, sheet_fault_for}
use Rattle.theory.specs.declared.Refusal.{Refusal}
use Rattle.columns.specs.Columns.{starts}
use Rattle.sheet.specs.Answers.{names_record, line_at, after_line, columns_of, starts_as, row_answer}
use Rattle.sheet.specs.Answers.{unless_refused, sheet_record, sheet_answer}
use Rattle.sheet.specs.declared.answers.Names.{Names}
use Rattle.sheet.specs.declared.answers.Sheet.{Sheet}
use Rattle.capacities.specs.Room.{of_variables}
use Rattle.report_text.specs.Rows.{Given}
use Rattle.columns.proofs.Padded.{padded-take}
use Rattle.columns.proofs.Distinct.{different_below}
use Rattle.sheet.proofs.Along.{passes as unrefused, refuses}
use Rattle.sheet.proofs.Judged.{above_below}

all_low : (K : ℕ) (ns : List ℕ) → above ns ≤ K → all (λ n. ltb n K) ns ≡ true
all_low K ns h = sym (above_below K ns) ∙ le-leb (above ns) K h

-- Different names below K are K at most, so that 32 columns hold them
pub few_names : (K : ℕ) (ns : List ℕ) → K ≤ 32 → above ns ≤ K → distinct ns ≡ true → length ns ≤ 32
few_names K ns few low apart = let h : length ns ≤ K = different_below K ns (all_low K ns low) apart in omega arith

pub columns_names : (ns : List ℕ) → length ns ≤ 32 → columns_of (names_record ns) ≡ ns
columns_names ns h = let least : min (length ns) 32 ≡ length ns = omega arith in rw least (padded-take ns h)

module _ (limits : List ℕ) (s : Bytes) (ns : List ℕ) (n at : ℕ) (few : length ns ≤ 32)
    (passes : values_fault limits ns n (values (line_at s at)) ≡ none) where
  passing : values_fault limits (columns_of (names_record ns)) n (values (line_at s at)) ≡ none
  passing = subst (λ c. values_fault limits c n (values (line_at s at)) ≡ none) (sym (columns_names ns few)) passes

  read-start : (o : Option (List ℕ)) → values_fault limits ns n o ≡ none
      → starts_as none ns o ≡ cells 32 (start ns (default [] o))
  unfolding starts
  read-start none h = cc
  read-start (some vs) h = refl

  pub row-values : (row_answer s (names_record ns) limits n at).values ≡ cells 32 (start ns (default [] (values (line_at s at))))
  unfolding row_answer
  row-values =
      ap₂ {C = List ℕ} (λ f c. starts_as f c (values (line_at s at))) passing (columns_names ns few)
      ∙ read-start (values (line_at s at)) passes

pub row_next : (limits : List ℕ) (s : Bytes) (names : Names) (n at : ℕ) → (row_answer s names limits n at).next ≡ after_line s at
unfolding row_answer
row_next limits s names n at = refl

-- A sheet that is checked for a program of K variables
module _ (capacities : List ℕ) (K : ℕ) (s : Bytes) (few : K ≤ 32) (found : Result Sheet Refusal)
    (e : found ≡ sheet_answer (min K 32) (of_variables capacities) s) where
  found_as : found ≡ unless_refused (sheet_fault_for K (of_variables capacities) s) (sheet_record (split_lines s))
  unfolding sheet_answer
  found_as = let least : min K 32 ≡ K = omega arith in rw least at e

  pub found_refused : (r : Refusal) → found ≡ Err r → sheet_fault_for K (of_variables capacities) s ≡ some r
  found_refused r h = refuses (sheet_fault_for K (of_variables capacities) s) (sheet_record (split_lines s)) (sym h ∙ found_as)

  pub found_accepted : (sheet : Sheet) → found ≡ Ok sheet → Given capacities s sheet.names K
  found_accepted sheet h =
      let told : _ = unrefused (sheet_fault_for K (of_variables capacities) s) (sheet_record (split_lines s)) (sym h ∙ found_as) in
      record { passes = told.0; columns = ap (λ (f : Sheet). f.names) told.1 }
