-- A source state as 82 numbers: 32 capacities, line, steps, 32 values, 16 passes-left.
use Rattle.std.specs.Prelude.{cond, List, ◌∷◌, ◌++◌, ℕ, length, get_or, take, drop, replicate, eqb}
use Rattle.theory.specs.Limits.{state_values, state_passes}
use Rattle.source_state.specs.declared.State.{State}

abbrev pub state_numbers : ℕ
state_numbers = 82

-- The state that 82 numbers are
unfoldable pub state_of : List ℕ → State
state_of l =
    record {
      capacities = take state_values l;
      line = get_or l 32 0;
      steps = get_or l 33 0;
      values = take state_values (drop 34 l);
      passes = take state_passes (drop 66 l);
    }

-- The numbers of a state
unfoldable pub numbers_of : State → List ℕ
numbers_of s = s.capacities ++ (s.line ∷ s.steps ∷ (s.values ++ s.passes))

-- Where there are not 82 numbers: a state at line 0, where no program's state stands
unfoldable pub no_state : State
no_state =
    record {
      capacities = replicate state_values 0;
      line = 0;
      steps = 0;
      values = replicate state_values 0;
      passes = replicate state_passes 0;
    }

unfoldable pub lent_state : List ℕ → State
lent_state l = cond (eqb (length l) state_numbers) (state_of l) no_state

unfoldable pub kept_numbers : List ℕ → State → List ℕ
kept_numbers l s = cond (eqb (length l) state_numbers) (numbers_of s) l
