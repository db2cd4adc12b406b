-- A run from a place inside the word or right behind it: instructions as numbers that the machine can do, and how the run stopped.
use Rattle.std.specs.Prelude.{◌≡◌, true, List, ℕ, ◌≤◌, ◌<◌, length, get_or}
use Rattle.theory.specs.Runs.{Machine, Outcome, within_each}
use Rattle.theory.specs.Word as W
use Rattle.theory.specs.Word.{Symbol}
use Rattle.theory.specs.Machines.{capacity_of}
use Rattle.theory.specs.TurnedDown.{names_register, instructions}
use Rattle.word.specs.Answers.{zipped}
use Rattle.underway.specs.declared.Stop.{Stop}
use Rattle.underway.specs.Places.{placed}

-- An instruction of these numbers can be done on a machine of so many registers
pub record Usable (registers kind operand : ℕ) : Type 0 where
  pub first : 1 ≤ kind
  pub last : kind ≤ 5
  pub some : 1 ≤ operand
  pub small : operand ≤ 600000
  pub named : names_register kind ≡ true → operand ≤ registers

-- The instructions of two lists of numbers can all be done
pub record Usables (registers : ℕ) (kinds operands : List ℕ) : Type 0 where
  pub paired : length kinds ≡ length operands
  pub count : length kinds ≤ 8192
  pub each : (i : ℕ) → i < length kinds → Usable registers (get_or kinds i 0) (get_or operands i 0)

-- The machine of a word that two lists of numbers give
abbrev pub machine_of : List ℕ → List ℕ → List ℕ → Machine W.State
machine_of capacities kinds operands = W.machine (within_each (capacity_of capacities)) (instructions (zipped kinds operands))

-- What a run that the definition gives as o handed back; the lent memory holds its registers
pub record Stopped (held_in : (ℕ → List Symbol) → Type 0) (o : Outcome W.State) (r : Stop) : Type 0 where
  pub end : o.end ≡ r.end
  pub steps : o.steps ≡ r.steps
  pub place : o.state.place ≡ placed r.here
  pub held : held_in o.state.registers
  pub near : r.here < 2000000
