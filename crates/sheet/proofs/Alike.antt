-- A sheet is judged by the capacities of the variables below K, and by no others.
use mathlib.Core.Path.{◌≡◌, refl, ap, ap₂}
use mathlib.Core.Bool.{Bool, true, false, ◌&&◌}
use mathlib.Core.Option.{Option, none, some}
use mathlib.Core.List.{List, [], ◌∷◌}
use Prim.Native.Nat.{ℕ, suc, ◌≤◌, ◌<◌}
use native.Mathlib.Numerals.{add-one}
use native.Mathlib.Omega.{arith}
use lib.ListN.{length, get_or}
use lib.Dec.{eqb, leb}
use borrow.Author.Tests.{leb-true}
use Rattle.theory.specs.Basics.{or_else}
use Rattle.theory.specs.Text.{Bytes, split_lines}
use Rattle.theory.specs.ProgramText.{above}
use Rattle.theory.specs.RunSheet.{names, values, distinct}
use Rattle.theory.specs.TurnedDown.{unless, within_columns, values_fault, rows_fault}
use Rattle.theory.specs.TurnedDown.{sheet_size_fault, sheet_lines_fault, sheet_fault_for}
use Rattle.theory.specs.declared.Refusal.{Refusal}
use Rattle.theory.proofs.Faults.{and_first}

module _ (K : ℕ) (cs ds : List ℕ) (same : (i : ℕ) → i < K → get_or cs i 0 ≡ get_or ds i 0) where
  module _ (ns : List ℕ) where
    within-alike : (ms vs : List ℕ) → above ms ≤ K → within_columns cs ms vs ≡ within_columns ds ms vs
    unfolding within_columns
    within-alike [] vs h = refl
    within-alike (m ∷ ms) [] h = refl
    within-alike (m ∷ ms) (v ∷ vs) h =
        let first : get_or cs m 0 ≡ get_or ds m 0 = same m (omega arith) in
        rw (add-one m, first) (ap (λ b. leb v (get_or ds m 0) && b) (within-alike ms vs (omega arith)))

    module _ (low : above ns ≤ K) where
      values-alike : (n : ℕ) (o : Option (List ℕ)) → values_fault cs ns n o ≡ values_fault ds ns n o
      values-alike n none = refl
      values-alike n (some vs) =
          ap (λ b. or_else (unless (eqb (length vs) (length ns)) 16 n) (unless b 18 n)) (within-alike ns vs low)

      rows_alike : (n : ℕ) (ls : List Bytes) → rows_fault cs ns n ls ≡ rows_fault ds ns n ls
      unfolding rows_fault
      rows_alike n [] = refl
      rows_alike n (l ∷ ls) = ap₂ {C = Option Refusal} or_else (values-alike n (values l)) (rows_alike (suc n) ls)

  lines-alike : (ls : List Bytes) → sheet_lines_fault K cs ls ≡ sheet_lines_fault K ds ls
  lines-alike [] = refl
  lines-alike (l ∷ ls) = go (names l) refl
    where
      go : (o : Option (List ℕ)) → names l ≡ o → sheet_lines_fault K cs (l ∷ ls) ≡ sheet_lines_fault K ds (l ∷ ls)
      go none e = rw e
      go (some ns) e = rw e (judged (leb (above ns) K && distinct ns) refl)
        where
          judged : (b : Bool) → (leb (above ns) K && distinct ns) ≡ b
              → or_else (unless b 17 1) (rows_fault cs ns 2 ls) ≡ or_else (unless b 17 1) (rows_fault ds ns 2 ls)
          judged true f = rows_alike ns (leb-true (above ns) K (and_first (leb (above ns) K) (distinct ns) f)) 2 ls
          judged false f = refl

  pub sheet_alike : (s : Bytes) → sheet_fault_for K cs s ≡ sheet_fault_for K ds s
  unfolding sheet_fault_for
  sheet_alike s = ap {B = Option Refusal} (or_else (sheet_size_fault s)) (lines-alike (split_lines s))
