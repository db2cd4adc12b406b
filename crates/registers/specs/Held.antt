-- Registers laid out in a lent store: what the functions inside this crate promise each other, and what `rings` starts from.
use Rattle.std.specs.Prelude.{◌≡◌, List, ℕ, suc, ◌≤◌, ◌<◌, length, get_or}
use Rattle.theory.specs.Text.{Bytes}
use Rattle.theory.specs.Word.{Symbol}
use Rattle.theory.specs.Machines.{store_of, lengths_of}

-- The registers f, one for each capacity, laid out in a store
pub record Held (capacities : List ℕ) (f : ℕ → List Symbol) (store : Bytes) (lengths : List ℕ) : Type 0 where
  pub stored : store ≡ store_of capacities (length capacities) f
  pub counted : lengths ≡ lengths_of (length capacities) f
  pub fits : (i : ℕ) → i < length capacities → length (f (suc i)) ≤ get_or capacities i 0
