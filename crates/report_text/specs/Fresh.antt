-- The values that a row starts at.
use Rattle.std.specs.Prelude.{◌≡◌, List, ℕ, ◌≤◌, get_or}
use Rattle.std.proofs.Math.Option.{none}
use Rattle.theory.specs.Limits.{state_values}
use Rattle.theory.specs.RunTool.{capacities_fault}

-- The values of a row, as the definitions have them: past the end of the list stands 0
abbrev pub values_of : List ℕ → ℕ → ℕ
values_of values i = get_or values i 0

-- Capacities that rule 10 lets pass for a report
abbrev pub IsSet : List ℕ → Type 0
IsSet capacities = capacities_fault capacities ≡ none

-- Values that a program of K variables starts at, on registers of these capacities
pub record Starts (K : ℕ) (capacities values : List ℕ) : Type 0 where
  pub few : K ≤ state_values
  pub within : (i : ℕ) → values_of values i ≤ get_or capacities i 0
  pub beyond : (i : ℕ) → K ≤ i → values_of values i ≡ 0
