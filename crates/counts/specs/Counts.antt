-- Runs on registers that hold 1s alone, each of which is then its length: what such a run hands back.
use Rattle.std.specs.Prelude.{◌≡◌, Bool, true, false, List, ℕ, ◌+◌, ◌≤◌, length, get_or, Option, Some, None, Ok}
use Rattle.theory.specs.Runs.{Outcome, run}
use Rattle.theory.specs.Word as W
use Rattle.theory.specs.Word.{Symbol}
use Rattle.registers.specs.Fresh.{fresh_registers}
use Rattle.memory.specs.declared.answers.Position.{Position}
use Rattle.memory.specs.declared.answers.Run.{Run}
use Rattle.underway.specs.Places.{state}
use Rattle.underway.specs.Inside.{machine_of}

-- The run that the definition gives, from the registers that the lengths give
abbrev pub counted_outcome : List ℕ → List ℕ → Position → List ℕ → List ℕ → ℕ → Outcome W.State
counted_outcome capacities lengths at kinds operands budget =
    run (machine_of capacities kinds operands) budget at.steps (record { place = at.place; registers = fresh_registers lengths })

-- and from a place inside, as a number
abbrev pub lengths_run : List ℕ → List ℕ → List ℕ → List ℕ → ℕ → ℕ → ℕ → Outcome W.State
lengths_run capacities lengths kinds operands from steps budget =
    run (machine_of capacities kinds operands) budget steps (state from (fresh_registers lengths))

-- The registers f are those that the lengths give, one for each capacity and within it
pub record Counts (capacities lengths : List ℕ) (f : ℕ → List Symbol) : Type 0 where
  pub are : f ≡ fresh_registers lengths
  pub paired : length lengths ≡ length capacities
  pub within : (i : ℕ) → get_or lengths i 0 ≤ get_or capacities i 0

-- What a run hands back that the definition gives as o, and the lengths then
pub record RanAs (capacities : List ℕ) (at : Position) (o : Outcome W.State) (r : Run) (after : List ℕ) : Type 0 where
  pub is : r ≡ record {
    position = record { place = o.state.place; steps = at.steps + o.steps };
    ended = Ok (record { end = o.end; steps = o.steps });
  }
  pub counts : Counts capacities after o.state.registers

-- The call: a run on lengths, or where there is none nothing changes
abbrev pub CountsTo : Bool → List ℕ → List ℕ → Position → Outcome W.State → Option Run → List ℕ → Type 0
CountsTo true capacities lengths at o r after = (s : Run) × (r ≡ Some s) × RanAs capacities at o s after
CountsTo false capacities lengths at o r after = (r ≡ None) × (after ≡ lengths)
