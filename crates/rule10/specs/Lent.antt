-- A memory as a call is lent it: its sizes, and its places.
use Rattle.std.specs.Prelude.{◌≡◌, Bool, List, ℕ, suc, ◌≤◌, length, get_or, take, drop}
use Rattle.theory.specs.Basics.{sum, all_below}
use Rattle.theory.specs.Text.{Bytes}
use Rattle.theory.specs.Machines.{Memory, offset, is_laid}

-- The memory that a call is lent
abbrev pub memory : List ℕ → Bytes → List ℕ → Memory
memory capacities store lengths = record { capacities = capacities; store = store; lengths = lengths }

-- Sizes that index a store without leaving it
pub record Sized (capacities : List ℕ) (store : Bytes) (lengths : List ℕ) : Type 0 where
  pub room : length store ≡ sum capacities
  pub paired : length lengths ≡ length capacities
  pub registers : length capacities ≤ 64
  pub symbols : (i : ℕ) → get_or capacities i 0 ≤ 1024

-- The first n registers' places are laid out, each with its length
unfoldable pub places_laid : ℕ → List ℕ → Bytes → List ℕ → Bool
places_laid n capacities store lengths =
    all_below n λ i.
    is_laid (get_or capacities i 0) (get_or lengths i 0) (take (get_or capacities i 0) (drop (offset capacities (suc i)) store))
