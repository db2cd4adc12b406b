-- Rule 21 along a program's list, and what the entries hand back.
use Rattle.std.specs.Prelude.{Bool, true, cond, ◌&&◌, ◌||◌, List, [], ◌∷◌, ℕ, suc, ◌-◌, eqb, leb, length, get_or}
use Rattle.theory.specs.Limits
use Rattle.theory.specs.Basics.{or_else, cells, all}
use Rattle.theory.specs.ProgramText.{Command}
use Rattle.theory.specs.Translation.{scratch, counter}
use Rattle.theory.specs.Machines.{capacity_of, is_limited}
use Rattle.theory.specs.TurnedDown.{Answer, answer, after, rule_21}
use Rattle.theory.specs.RunTool.{capacities_fault}

-- A register that may hold so much
abbrev pub roomy : ℕ → List ℕ → ℕ → Bool
roomy most capacities r = leb most (capacity_of capacities r)

-- The numbers of a line inside d loops, of a program of K variables: the registers above these that its code names pass a test. They are
-- scratch, at a copy of two variables and at a loop, and the loop's counter
abbrev pub line_passes : (ℕ → Bool) → ℕ → ℕ → ℕ → ℕ → ℕ → Bool
line_passes ok K d k i j =
    cond (eqb k 3) (eqb i j || ok (scratch K)) (cond (eqb k 4) (ok (scratch K) && ok (counter K d)) true)

-- The loops around the next line
abbrev pub next_depth : ℕ → ℕ → ℕ
next_depth d k = cond (eqb k 4) (suc d) (cond (eqb k 5) (d - 1) d)

unfoldable pub list_passes : (ℕ → Bool) → ℕ → ℕ → List ℕ → Bool
list_passes ok K d [] = true
list_passes ok K d (k ∷ []) = true
list_passes ok K d (k ∷ i ∷ []) = true
list_passes ok K d (k ∷ i ∷ j ∷ l) = line_passes ok K d k i j && list_passes ok K (next_depth d k) l

-- Capacities that `capacities_fault` lets pass
abbrev pub is_set : List ℕ → Bool
is_set capacities = eqb (length capacities) Limits.tool_registers && all (is_limited Limits.most_capacity) capacities

-- A program that its rules let pass, for registers of these capacities: 10, 21
unfoldable pub with_room : List ℕ → Answer (List Command) → Answer (List Command)
with_room capacities program = after program λ p. answer (or_else (capacities_fault capacities) (rule_21 (capacity_of capacities) p)) p

-- The capacities of 32 variables
unfoldable pub of_variables : List ℕ → List ℕ
of_variables capacities = cells Limits.state_values (λ i. get_or capacities i 0)
