-- What it says of capacities that rule 10 lets them pass for a report; and the variables' part of them.
use mathlib.Core.Path.{◌≡◌, refl}
use mathlib.Core.Bool.{Bool, true, false}
use mathlib.Core.List.{List, [], ◌∷◌}
use Prim.Native.Nat.{ℕ, zero, suc, ◌≤◌, ◌<◌}
use native.Mathlib.Numerals.{add-one}
use native.Mathlib.Omega.{arith}
use lib.Dec.{eqb, leb, ltb}
use lib.ListN.{length, get_or, get_or-eq_default}
use borrow.Author.Tests.{eqb-true, leb-true, ltb-true, ltb-false}
use Rattle.theory.specs.Basics.{all}
use Rattle.theory.specs.Runs.{register}
use Rattle.theory.specs.Machines.{capacity_of, is_limited}
use Rattle.theory.specs.TurnedDown.{are_capacities}
use Rattle.theory.specs.RunTool.{capacities_fault}
use Rattle.theory.proofs.Faults.{unless_none, and_first, and_second}
use Rattle.theory.proofs.GoodMemory.{all_below-from}
use Rattle.capacities.specs.Room.{is_set, of_variables}
use Rattle.capacities.proofs.Cells.{variables-at}
use Rattle.report_text.specs.Fresh.{IsSet}

-- Each of a list that is limited
limited-at : (most : ℕ) (l : List ℕ) → all (is_limited most) l ≡ true → (i : ℕ) → i < length l → is_limited most (get_or l i 0) ≡ true
limited-at most [] h i e = absurd (omega arith)
limited-at most (n ∷ l) h zero e = and_first (is_limited most n) (all (is_limited most) l) h
limited-at most (n ∷ l) h (suc i) e = limited-at most l (and_second (is_limited most n) (all (is_limited most) l) h) i (omega arith)

-- A variable's capacity is that of its register
pub variable_capacity : (capacities : List ℕ) (i : ℕ) → i < 32
    → capacity_of (of_variables capacities) (register i) ≡ capacity_of capacities (register i)
variable_capacity capacities i l = rw (add-one i) (variables-at capacities i l)

module _ (capacities : List ℕ) (set : IsSet capacities) where
  passing : is_set capacities ≡ true
  unfolding capacities_fault
  passing = unless_none (is_set capacities) 10 0 set

  pub registers : length capacities ≡ 64
  registers = eqb-true (length capacities) 64 (and_first (eqb (length capacities) 64) (all (is_limited 1024) capacities) passing)

  limited : all (is_limited 1024) capacities ≡ true
  limited = and_second (eqb (length capacities) 64) (all (is_limited 1024) capacities) passing

  pub capacity_limited : (i : ℕ) → i < 64 → is_limited 1024 (get_or capacities i 0) ≡ true
  capacity_limited i l = limited-at 1024 capacities limited i (omega (arith, registers))

  pub capacity_low : (i : ℕ) → i < 64 → get_or capacities i 0 ≤ 1024
  capacity_low i l =
      leb-true (get_or capacities i 0) 1024 (and_second (leb 1 (get_or capacities i 0)) (leb (get_or capacities i 0) 1024) (capacity_limited i l))

  pub variables-limited : (K : ℕ) → K ≤ 32 → are_capacities K (of_variables capacities) ≡ true
  variables-limited K few = all_below-from K _ λ i l.
      rw (variable_capacity capacities i (omega arith), add-one i) (capacity_limited i (omega arith))

  pub low_anywhere : (i : ℕ) → get_or capacities i 0 ≤ 1024
  low_anywhere i = go (ltb i 64) refl
    where
      go : (t : Bool) → ltb i 64 ≡ t → get_or capacities i 0 ≤ 1024
      go true e = capacity_low i (ltb-true i 64 e)
      go false e =
          let past : length capacities ≤ i = omega (arith, registers, ltb-false i 64 e) in
          omega (arith, get_or-eq_default capacities 0 {n = i} past)
