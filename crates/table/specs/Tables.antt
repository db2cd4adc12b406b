-- What the functions inside this crate see of a table's numbers, one list at a time.
use Rattle.std.specs.Prelude.{◌≡◌, List, ℕ, ◌≤◌, ◌<◌, length, get_or}
use Rattle.theory.specs.Basics.{sum}
use Rattle.theory.specs.Word.{Entry}
use Rattle.theory.specs.TurnedDown.{total}
use Rattle.text.specs.Runs.{leading}
use Rattle.tally.specs.Tallies.{is_good}

-- A kind that rule 13 lets pass
pub record IsKind (kind : ℕ) : Type 0 where
  pub first : 1 ≤ kind
  pub last : kind ≤ 5

-- A table whose entries are all good, of so many symbols at most
pub record AllGood (most : ℕ) (t : List Entry) : Type 0 where
  pub each : leading is_good t ≡ length t
  pub symbols : total t ≤ most

-- Operands that rule 13 lets pass, and their sum
pub record Summed (operands : List ℕ) (total : ℕ) : Type 0 where
  pub each : (j : ℕ) → j < length operands → 1 ≤ get_or operands j 0
  pub size : sum operands ≡ total
