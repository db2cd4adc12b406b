-- What the indices of a step are below, of a state and tables that are ready for it.
use mathlib.Core.List.{List}
use Prim.Native.Nat.{ℕ, ◌+◌, ◌-◌, ◌*◌, ◌≤◌, ◌<◌}
use native.Mathlib.Omega.{arith}
use lib.ListN.{length, get_or}
use Rattle.source.specs.Lines.{Ready}
use Rattle.source.proofs.Program.{few_lines, numbers-length}
use Rattle.source.proofs.Stepping.{kind_at, first-at, second_at, first_low, second_low, pair-entry}
use Rattle.theory.specs.ProgramText.{commands}

module _ {l ts es cs : List ℕ} {line : ℕ} {vs ps : List ℕ} (r : Ready l ts es cs line vs ps) where
  abbrev m : ℕ
  m = line - 1

  pub inside : m < length (commands l)
  inside = omega (arith, r.low, r.high)

  pub few : line ≤ 512
  few = omega (arith, few_lines l r.filled.holds, r.high)

  -- The three numbers, and the table's cells, of the line
  pub numbers_in : 3 * m + 2 < length l
  numbers_in = omega (arith, inside, numbers-length l r.filled.holds)

  pub target_in : m < length ts
  target_in = omega (arith, inside, r.filled.targets_room)

  pub entry_in : m < length es
  entry_in = omega (arith, inside, r.filled.entries_room)

  -- The variables, and the entries of the passes-left, that the line names
  pub first_in : (first-at l m < length vs) × (first-at l m < 32)
  first_in = omega (arith, first_low l r.filled.holds m inside, r.values_are)

  pub capacity_in : first-at l m < length cs
  capacity_in = omega (arith, first_low l r.filled.holds m inside, r.capacities_are)

  pub second_in : (second_at l m < length vs) × (second_at l m < 32)
  second_in = omega (arith, second_low l r.filled.holds m inside, r.values_are)

  pub pair_in : 3 < kind_at l m → (get_or es m 0 < length ps) × (get_or es m 0 < 16)
  pair_in e = omega (arith, pair-entry l r.filled.holds m inside es (r.filled.enters m inside) e, r.passes_are)
