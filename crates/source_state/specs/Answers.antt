-- What a run of a source hands back (document 01, "Machines of the set" and rule 9), as values of the crate's types.
use Rattle.std.specs.Prelude.{◌≡◌, List, ℕ, ◌+◌, get_or, replicate, Result, Ok, Err}
use Rattle.theory.specs.Basics.{cells}
use Rattle.theory.specs.Limits.{state_values, state_passes}
use Rattle.theory.specs.Runs.{Outcome}
use Rattle.theory.specs.Source as S
use Rattle.theory.specs.Machines.{SourceState, fresh_source}
use Rattle.theory.specs.TurnedDown.{Answer, done, refused}
use Rattle.source_state.specs.declared.State.{State}
use Rattle.source_state.specs.declared.Run.{Run}
use Rattle.theory.specs.declared.Ended.{Ended}
use Rattle.theory.specs.declared.Refusal.{Refusal}

-- A line, values and passes left, as the definitions have them: past the end of a list stands 0
abbrev pub stands : ℕ → List ℕ → List ℕ → S.State
stands line values passes = record { line = line; values = λ i. get_or values i 0; passes = λ d. get_or passes d 0 }

abbrev pub source_state : State → SourceState
source_state s = record { capacities = s.capacities; steps = s.steps; state = stands s.line s.values s.passes }

-- "A fresh state has line or place 1, no steps and passes-left all 0"
abbrev pub fresh_state : List ℕ → List ℕ → State
fresh_state capacities values =
    record { capacities = capacities; line = 1; steps = 0; values = values; passes = replicate state_passes 0 }

-- The same, as the definitions have it
abbrev pub fresh_from : List ℕ → List ℕ → SourceState
fresh_from capacities values = record { capacities = capacities; steps = 0; state = fresh_source (λ i. get_or values i 0) }

pub record Fresh (capacities values : List ℕ) (r : State) : Type 0 where
  pub state : r ≡ fresh_state capacities values
  pub stands : source_state r ≡ fresh_from capacities values

-- How it ended
unfoldable pub ended_by : Answer (Outcome S.State) → Result Ended Refusal
ended_by (done o) = Ok (record { end = o.end; steps = o.steps })
ended_by (refused x) = Err x

-- The state afterwards, as the set keeps it; a refusal hands back the state as it was
unfoldable pub state_by : State → Answer (Outcome S.State) → State
state_by s (done o) =
    record {
      capacities = s.capacities;
      line = o.state.line;
      steps = s.steps + o.steps;
      values = cells state_values o.state.values;
      passes = cells state_passes o.state.passes;
    }
state_by s (refused x) = s

-- The same, as the definitions have it
unfoldable pub moved_by : SourceState → Answer (Outcome S.State) → SourceState
moved_by s (done o) = record { capacities = s.capacities; steps = s.steps + o.steps; state = o.state }
moved_by s (refused x) = s

-- A run from s that hands back what the definitions give. `state` fixes every number of it; `stands` says that it is the whole of the
-- definitions' state, so that a later call goes on from there
pub record HandsBack (s : State) (a : Answer (Outcome S.State)) (r : Run) : Type 0 where
  pub ended : r.ended ≡ ended_by a
  pub state : r.state ≡ state_by s a
  pub stands : source_state r.state ≡ moved_by (source_state s) a
