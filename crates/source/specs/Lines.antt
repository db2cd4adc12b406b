-- What the private functions of this crate say of the lines of a list, of the tables filled for a run, of a step, of a run and of rule 9.
use Rattle.std.specs.Prelude.{◌≡◌, Bool, cond, List, ℕ, suc, pred, ◌+◌, ◌-◌, ◌*◌, ◌≤◌, ◌<◌, length, get_or, set, eqb, Option, Some, None}
use Rattle.std.proofs.Math.Option as Math
use Rattle.std.proofs.Math.Option.{none, some}
use Rattle.theory.specs.Limits.{most_lines, most_capacity, state_values, state_passes}
use Rattle.theory.specs.Basics.{all_below}
use Rattle.theory.specs.ProgramText.{Command, plain, clear, increment, copy, opens, closes, loop, while, list_of, variables, commands}
use Rattle.theory.specs.ProgramText.{Opening}
use Rattle.theory.specs.Runs.{Machine, Outcome, run, within_each}
use Rattle.theory.specs.Source as S
use Rattle.theory.specs.Machines.{capacity_of, is_limited}
use Rattle.theory.specs.TurnedDown.{is_passes}
use Rattle.theory.specs.Claims.{Accepted}
use Rattle.source_state.specs.Answers.{stands}
use Rattle.source_state.specs.Numbers.{led, is_value_within, is_passes_within}
use Rattle.source_state.specs.declared.step.Led.{Led}
use Rattle.source.specs.declared.steps.Stop.{Stop}

-- The list holds an accepted program, and nothing else
pub record Holds (l : List ℕ) : Type 0 where
  pub whole : list_of (commands l) ≡ l
  pub accepted : Accepted (commands l)

-- A list that holds a program of so many lines and variables
pub record Given (l : List ℕ) (lines K : ℕ) : Type 0 where
  pub holds : Holds l
  pub lines_are : lines ≡ length (commands l)
  pub variables_are : K ≡ variables (commands l)

-- The command of three numbers, of which the first is a kind, 1 to 7
abbrev pub decoded : ℕ → ℕ → ℕ → Command
decoded k i j =
    cond (eqb k 1) (plain (clear i))
    (cond (eqb k 2) (plain (increment i))
    (cond (eqb k 3) (plain (copy i j))
    (cond (eqb k 4) (opens loop i)
    (cond (eqb k 5) (closes loop i)
    (cond (eqb k 6) (opens while i)
    (closes while i))))))

-- The command at a line, the lines counted from 0
unfoldable pub command_at : List ℕ → ℕ → Command
command_at l m = decoded (get_or l (3 * m) 0) (get_or l (3 * m + 1) 0) (get_or l (3 * m + 2) 0)

-- Entries of the passes-left

-- At a line around which there are d loops: the entry of the loop that the line opens is d, of the one that it closes d - 1
abbrev pub entry_of : Command → ℕ → ℕ
entry_of (plain c) d = d
entry_of (opens k i) d = d
entry_of (closes loop i) d = pred d
entry_of (closes while i) d = d

unfoldable pub entry_at : List ℕ → ℕ → ℕ
entry_at l m = entry_of (command_at l m) (S.depth (commands l) (suc m))

-- Targets: the line to which a step jumps where it does not go to the next one

pub record Jump (p : List Command) (goal t : ℕ) : Type 0 where
  pub to : t ≡ goal
  pub low : 0 < t
  pub high : t ≤ suc (length p)

unfoldable pub Reaches : List Command → ℕ → Command → ℕ → Type 0
Reaches p n (plain c) t = Unit {0}
Reaches p n (opens k i) t = Jump p (suc (S.closing p n)) t
Reaches p n (closes loop i) t = Jump p (suc (S.opening p n)) t
Reaches p n (closes while i) t = Jump p (S.opening p n) t

-- The tables are filled for every line
abbrev pub Entered : List ℕ → List ℕ → Type 0
Entered l entries = (m : ℕ) → m < length (commands l) → get_or entries m 0 ≡ entry_at l m

abbrev pub Linked : List ℕ → List ℕ → Type 0
Linked l targets = (m : ℕ) → m < length (commands l) → Reaches (commands l) (suc m) (command_at l m) (get_or targets m 0)

pub record Filled (l targets entries : List ℕ) : Type 0 where
  pub holds : Holds l
  pub jumps : Linked l targets
  pub enters : Entered l entries
  pub targets_room : length (commands l) ≤ length targets
  pub entries_room : length (commands l) ≤ length entries

-- A list that holds a program of so many lines, with tables that have room for them
pub record Fits (l : List ℕ) (lines : ℕ) (table : List ℕ) : Type 0 where
  pub holds : Holds l
  pub lines_are : lines ≡ length (commands l)
  pub room : lines ≤ length table

-- A step

-- The values and capacities of a state, and two variables
pub record Storing (vs capacities : List ℕ) (i j : ℕ) : Type 0 where
  pub values_are : length vs ≡ state_values
  pub capacities_are : length capacities ≡ state_values
  pub first : i < state_values
  pub second : j < state_values

-- It is stored in variable i, and the next line follows; or the step is full, and changes nothing
abbrev pub Put : Option ℕ → ℕ → ℕ → List ℕ → Option ℕ → List ℕ → Type 0
Put (Some v) next i vs r vs' = (r ≡ Some next) × (vs' ≡ set vs i v)
Put None next i vs r vs' = (r ≡ None) × (vs' ≡ vs)

-- The tables have a target and an entry for the line, and the entry is one of the passes-left
pub record Leading (ps targets entries : List ℕ) (line : ℕ) : Type 0 where
  pub low : 0 < line
  pub high : line ≤ most_lines
  pub target : line - 1 < length targets
  pub entry : line - 1 < length entries
  pub left : get_or entries (line - 1) 0 < length ps
  pub passes_are : length ps ≡ state_passes

-- The line to which a line of a pair leads, and the passes left then, by the tables
abbrev pub led_by : List ℕ → List ℕ → ℕ → ℕ → ℕ → List ℕ → Led
led_by targets entries k held line ps =
    led k held (get_or ps (get_or entries (line - 1) 0) 0) (line + 1) (get_or targets (line - 1) 0)

pub record Left (targets entries : List ℕ) (k held line : ℕ) (ps : List ℕ) (r : ℕ) (ps' : List ℕ) : Type 0 where
  pub to : r ≡ (led_by targets entries k held line ps).line
  pub passes : ps' ≡ set ps (get_or entries (line - 1) 0) (led_by targets entries k held line ps).left

-- The tables are filled, the line is one of the program, and the lists are those of a state
pub record Ready (l targets entries capacities : List ℕ) (line : ℕ) (vs ps : List ℕ) : Type 0 where
  pub filled : Filled l targets entries
  pub low : 0 < line
  pub high : line ≤ length (commands l)
  pub capacities_are : length capacities ≡ state_values
  pub values_are : length vs ≡ state_values
  pub passes_are : length ps ≡ state_passes

-- What a step hands back, with the lists as they are then
abbrev pub next_of : Option ℕ → List ℕ → List ℕ → Math.Option S.State
next_of (Some n) vs ps = some (stands n vs ps)
next_of None vs ps = none

-- The line is one of the program, or the line after its last
abbrev pub Within : List Command → Option ℕ → Type 0
Within p (Some n) = (0 < n) × (n ≤ suc (length p))
Within p None = Unit {0}

-- A full step leaves the lists as they were
abbrev pub Kept : Option ℕ → List ℕ → List ℕ → List ℕ → List ℕ → Type 0
Kept (Some n) vs ps vs' ps' = Unit {0}
Kept None vs ps vs' ps' = (vs' ≡ vs) × (ps' ≡ ps)

pub record Stepped (p : List Command) (capacities : List ℕ) (line : ℕ) (vs ps : List ℕ) (r : Option ℕ) (vs' ps' : List ℕ) : Type 0 where
  pub next : S.step (within_each (capacity_of capacities)) p (stands line vs ps) ≡ next_of r vs' ps'
  pub inside : Within p r
  pub kept : Kept r vs ps vs' ps'

-- A run

-- The same, of a program of so many lines; the line may be the one after the last
pub record Startable (l targets entries capacities : List ℕ) (lines line : ℕ) (vs ps : List ℕ) : Type 0 where
  pub filled : Filled l targets entries
  pub lines_are : lines ≡ length (commands l)
  pub low : 0 < line
  pub high : line ≤ suc (length (commands l))
  pub capacities_are : length capacities ≡ state_values
  pub values_are : length vs ≡ state_values
  pub passes_are : length ps ≡ state_passes

abbrev pub machine_of : List ℕ → List ℕ → Machine S.State
machine_of l capacities = S.machine (within_each (capacity_of capacities)) (commands l)

-- A run of so many steps at most, from a count of 0
unfoldable pub run_at : List ℕ → List ℕ → ℕ → List ℕ → List ℕ → ℕ → Outcome S.State
run_at l capacities line vs ps allowed = run (machine_of l capacities) allowed 0 (stands line vs ps)

-- How it ended, the steps taken, and the state
abbrev pub outcome_of : Stop → List ℕ → List ℕ → Outcome S.State
outcome_of r vs ps = record { end = r.end; steps = r.taken; state = stands r.line vs ps }

-- Rule 9

unfoldable pub all_capacities : List ℕ → ℕ → Bool
all_capacities cs K = all_below K (λ i. is_limited most_capacity (get_or cs i 0))

unfoldable pub all_values : List ℕ → ℕ → List ℕ → Bool
all_values cs K vs = all_below state_values (λ i. is_value_within (get_or cs i 0) K i (get_or vs i 0))

unfoldable pub all_passes : List ℕ → ℕ → List ℕ → Bool
all_passes bounds D ps = all_below state_passes (λ d. is_passes_within (get_or bounds d 0) D d (get_or ps d 0))

-- The passes-left at a line
unfoldable pub all_left : List Command → ℕ → List ℕ → List ℕ → Bool
all_left p line capacities ps = all_below state_passes (λ d. is_passes capacities (S.open_at p line) d (get_or ps d 0))

-- A line of the program, or the line after its last, where the entries are filled
pub record Deep (l entries : List ℕ) (lines line : ℕ) : Type 0 where
  pub holds : Holds l
  pub enters : Entered l entries
  pub room : length (commands l) ≤ length entries
  pub lines_are : lines ≡ length (commands l)
  pub low : 0 < line
  pub high : line ≤ suc (length (commands l))

-- A line of the program, or the line after its last, where the entries are filled, with the lists of a state
pub record Bounding (l entries : List ℕ) (line : ℕ) (capacities bounds : List ℕ) : Type 0 where
  pub holds : Holds l
  pub enters : Entered l entries
  pub room : length (commands l) ≤ length entries
  pub low : 0 < line
  pub high : line ≤ suc (length (commands l))
  pub capacities_are : length capacities ≡ state_values
  pub bounds_are : length bounds ≡ state_passes

-- The capacity of the variable of each loop of these pairs, and of those around the line
abbrev pub BoundsOf : List ℕ → List Opening → List ℕ → Type 0
BoundsOf capacities os bounds = (d : ℕ) → d < S.loops os → get_or bounds d 0 ≡ get_or capacities (S.loop_variable os d) 0

abbrev pub Bounded : List ℕ → ℕ → List ℕ → List ℕ → Type 0
Bounded l line capacities bounds = BoundsOf capacities (S.open_at (commands l) line) bounds
