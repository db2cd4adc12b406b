-- What the crate's own functions promise each other.
use Rattle.std.specs.Prelude.{◌≡◌, List, ℕ, suc, ◌+◌, ◌*◌, ◌≤◌, ◌<◌, length, get_or}
use Rattle.drains.specs.Drains.{times}

-- Each of bs names a register that there is, which has room for m more for each time that it is named
pub record Fits (bs : List ℕ) (m : ℕ) (lengths : List ℕ) : Type 0 where
  pub named : (k : ℕ) → k < length bs → (1 ≤ get_or bs k 0) × (get_or bs k 0 ≤ length lengths)
  pub small : (i : ℕ) → i < length lengths → get_or lengths i 0 + m * times (suc i) bs < 65536

-- Every register has m more for each time that bs names it
pub record Filled (bs : List ℕ) (m : ℕ) (before after : List ℕ) : Type 0 where
  pub same : length after ≡ length before
  pub more : (i : ℕ) → i < length before → get_or after i 0 ≡ get_or before i 0 + m * times (suc i) bs
