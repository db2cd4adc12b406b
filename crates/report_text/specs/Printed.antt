-- What is put into an output: the run tool's text, from the first byte on.
use Rattle.std.specs.Prelude.{ℕ, ◌≤◌}
use Rattle.theory.specs.Text.{Bytes}
use Rattle.output.specs.Puts.{Put}

-- The header and a line for each run, of 147,467 bytes at most: a sheet of 4,096 bytes has 4,095 runs at most, and a line 36 bytes
pub record Printed (text : Bytes) (before after : Bytes) (size : ℕ) : Type 0 where
  pub put : Put text 0 before after size
  pub few : size ≤ 147467
