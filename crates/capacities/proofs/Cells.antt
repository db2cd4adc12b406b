-- The capacities of the variables, cell by cell, as they are filled.
use mathlib.Core.Path.{◌≡◌, refl, sym, ◌∙◌}
use mathlib.Core.List.{List}
use Prim.Native.Nat.{ℕ, ◌+◌, ◌≤◌, ◌<◌}
use native.Mathlib.Omega.{arith}
use lib.ListN.{length, take, set, get_or, replicate, length-replicate, length-set}
use lib.Seq.{take_all}
use Rattle.theory.proofs.GoodMemory.{length-cells, get_or-cells}
use Rattle.layout.proofs.OffsetTable.{agrees_next}
use Rattle.capacities.specs.Room.{of_variables}

module _ (capacities : List ℕ) where
  length-variables : length (of_variables capacities) ≡ 32
  unfolding of_variables
  length-variables = length-cells 32 (λ i. get_or capacities i 0)

  pub variables-at : (i : ℕ) → i < 32 → get_or (of_variables capacities) i 0 ≡ get_or capacities i 0
  unfolding of_variables
  variables-at i l = get_or-cells 32 (λ j. get_or capacities j 0) 0 i l

  -- The first i are there
  pub record Found (i : ℕ) (found : List ℕ) : Type 0 where
    pub few : i ≤ 32
    pub size : length found ≡ 32
    pub agrees : take i found ≡ take i (of_variables capacities)

  pub found_none : Found 0 (replicate 32 0)
  found_none = record { few = omega arith; size = length-replicate {A = ℕ} 32 0; agrees = refl }

  pub found_next : (i n : ℕ) (found : List ℕ) → Found i found → i < 32 → n ≡ get_or capacities i 0 → Found (i + 1) (set found i n)
  found_next i n found h l e = record {
    few = omega arith;
    size = length-set found i n ∙ h.size;
    agrees = agrees_next found i n (of_variables capacities) (omega (arith, h.size)) (omega (arith, length-variables)) h.agrees
        (e ∙ sym (variables-at i l));
  }

  pub found_all : (i : ℕ) (found : List ℕ) → Found i found → 32 ≤ i → found ≡ of_variables capacities
  found_all i found h l =
      sym (take_all i found (omega (arith, h.size))) ∙ h.agrees
      ∙ take_all i (of_variables capacities) (omega (arith, length-variables))
