-- Which tables are run on the lengths of registers that hold 1s alone.
use Rattle.std.specs.Prelude.{◌≡◌, ◌≢◌, Bool, true, false, not, ◌&&◌, List, ℕ, ◌≤◌, ◌<◌, eqb, leb, length, get_or}
use Rattle.std.proofs.Math.Option.{Option, none, some}
use Rattle.theory.specs.Basics.{all}
use Rattle.theory.specs.Limits.{most_registers}
use Rattle.word.specs.Answers.{zipped}
use Rattle.registers.specs.Fresh.{values_within}
use Rattle.usable.specs.Usable.{first_unusable}
use Rattle.underway.specs.Inside.{Usables}

-- No append of #
abbrev pub no_2 : ℕ → Bool
no_2 k = not (eqb k 2)

-- As many lengths as capacities, of as many registers as a machine may have, each within its capacity; and no instruction appends #
unfoldable pub has_counts : List ℕ → List ℕ → List ℕ → Bool
has_counts capacities lengths kinds =
    leb (length capacities) most_registers
    && eqb (length lengths) (length capacities)
    && values_within capacities lengths
    && all no_2 kinds

abbrev pub is_none : Option ℕ → Bool
is_none none = true
is_none (some i) = false

-- A table is run on lengths where it has counts and the machine can do every entry
unfoldable pub is_countable : List ℕ → List ℕ → List ℕ → List ℕ → Bool
is_countable capacities lengths kinds operands =
    has_counts capacities lengths kinds && is_none (first_unusable (length capacities) (zipped kinds operands))

-- The same as facts
pub record Countable (capacities lengths kinds operands : List ℕ) : Type 0 where
  pub few : length capacities ≤ 64
  pub paired : length lengths ≡ length capacities
  pub within : (i : ℕ) → get_or lengths i 0 ≤ get_or capacities i 0
  pub no_hash : (i : ℕ) → i < length kinds → get_or kinds i 0 ≢ 2
  pub usable : Usables (length capacities) kinds operands
