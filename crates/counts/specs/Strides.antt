-- What the crate's own functions promise each other: a step on lengths, with the turns that begin where it leads; and stretches of steps.
use Rattle.std.specs.Prelude.{◌≡◌, Bool, true, false, cond, List, ℕ, ◌+◌, ◌-◌, ◌*◌, ◌≤◌, ◌<◌, leb, length, get_or, set, Option, Some, None, Result, Ok, Err}
use Rattle.std.proofs.Math.Option.{none}
use Rattle.theory.specs.Runs.{Goes, each}
use Rattle.registers.specs.Fresh.{fresh_registers}
use Rattle.drains.specs.Drains.{turns, lengths_then}
use Rattle.underway.specs.Places.{bias, state}
use Rattle.underway.specs.Inside.{machine_of}
use Rattle.counts.specs.declared.steps.Stride.{Stride}
use Rattle.counts.specs.Counts.{Counts}

-- A 1 was taken from register r, counted from 0; or there is none
abbrev pub Taken : List ℕ → ℕ → Bool → List ℕ → Type 0
Taken before r true after = (0 < get_or before r 0) × (after ≡ set before r (get_or before r 0 - 1))
Taken before r false after = (get_or before r 0 ≡ 0) × (after ≡ before)

-- A 1 was appended to register r, counted from 0; or there is no room
abbrev pub Added : List ℕ → List ℕ → ℕ → Bool → List ℕ → Type 0
Added capacities before r true after = (get_or before r 0 < get_or capacities r 0) × (after ≡ set before r (get_or before r 0 + 1))
Added capacities before r false after = (get_or capacities r 0 ≤ get_or before r 0) × (after ≡ before)

abbrev pub after_cases : Bool → ℕ → Stride
after_cases took here = cond took (record { there = here + 2; steps = 1 }) (record { there = here + 1; steps = 1 })

abbrev pub after_append : Bool → ℕ → Option Stride
after_append room here = cond room (Some (record { there = here + 1; steps = 1 })) None

-- A step backward that led there, and the turns that begin there, if that is a place of an instruction
abbrev pub TurnedAt : Bool → List ℕ → List ℕ → List ℕ → List ℕ → ℕ → ℕ → ℕ → Stride → List ℕ → Type 0
TurnedAt true capacities before kinds operands there n left r after = (r ≡ record { there = there; steps = 1 }) × (after ≡ before)
TurnedAt false capacities before kinds operands there n left r after =
    (r ≡ record { there = there; steps = turns before capacities kinds operands (there - bias - 1) n (left - 1) * n + 1 })
    × (after ≡ lengths_then before capacities kinds operands (there - bias - 1) n (left - 1))

abbrev pub Turned : List ℕ → List ℕ → List ℕ → List ℕ → ℕ → ℕ → ℕ → Stride → List ℕ → Type 0
Turned capacities before kinds operands there n left r after =
    TurnedAt (leb there bias) capacities before kinds operands there n left r after

-- So many steps of the machine lead from a place and lengths to others, no more than there are left; or the step would be full
abbrev pub Strode : List ℕ → List ℕ → List ℕ → List ℕ → ℕ → ℕ → Option Stride → List ℕ → Type 0
Strode capacities before kinds operands here left (Some s) after =
    Goes (machine_of capacities kinds operands).next each
    (state here (fresh_registers before)) s.steps (state s.there (fresh_registers after))
    × (1 ≤ s.steps) × (s.steps ≤ left) × (s.there ≤ here + 600000) × Counts capacities after (fresh_registers after)
Strode capacities before kinds operands here left None after =
    ((machine_of capacities kinds operands).next (state here (fresh_registers before)) ≡ none) × (after ≡ before)

-- A stretch: some steps of the machine, no more than there are left, lead from a place and lengths to others; or after so many steps the
-- next would be full
abbrev pub Stretched : List ℕ → List ℕ → List ℕ → List ℕ → ℕ → ℕ → Result Stride Stride → List ℕ → Type 0
Stretched capacities before kinds operands from left (Ok s) after =
    Goes (machine_of capacities kinds operands).next each
    (state from (fresh_registers before)) s.steps (state s.there (fresh_registers after))
    × (1 ≤ s.steps) × (s.steps ≤ left) × (s.there < 2000000) × Counts capacities after (fresh_registers after)
Stretched capacities before kinds operands from left (Err s) after =
    Goes (machine_of capacities kinds operands).next each
    (state from (fresh_registers before)) s.steps (state s.there (fresh_registers after))
    × (s.steps < left) × (bias < s.there) × (s.there ≤ bias + length kinds) × Counts capacities after (fresh_registers after)
    × ((machine_of capacities kinds operands).next (state s.there (fresh_registers after)) ≡ none)
