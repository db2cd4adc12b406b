-- What the crate's own functions promise each other: one step, and a run from inside.
use Rattle.std.specs.Prelude.{◌≡◌, Bool, cond, List, ℕ, ◌+◌, ◌≤◌, eqb, Option, Some, None}
use Rattle.std.proofs.Math.Option.{none, some}
use Rattle.theory.specs.Text.{Bytes}
use Rattle.theory.specs.Runs.{Outcome, run, within_each}
use Rattle.theory.specs.Word as W
use Rattle.theory.specs.Word.{Symbol, Instruction, perform}
use Rattle.theory.specs.Machines.{Memory, capacity_of, contents}
use Rattle.underway.specs.Places.{state}
use Rattle.underway.specs.Inside.{machine_of}
use Rattle.rings.specs.Ring.{Ring}

-- The run that the definition gives from a place inside
abbrev pub run_from : List ℕ → List ℕ → Memory → ℕ → ℕ → ℕ → Outcome W.State
run_from kinds operands m from steps budget = run (machine_of m.capacities kinds operands) budget steps (state from (contents m))

-- What an instruction did from a place: it went to another, or was full
abbrev pub Performed : List ℕ → (ℕ → List Symbol) → ℕ → Instruction → Option ℕ → Bytes → List ℕ → List ℕ → Type 0
Performed capacities f here i (Some there) store lengths starts =
    (g : ℕ → List Symbol) × (perform (within_each (capacity_of capacities)) (state here f) i ≡ some (state there g))
    × Ring capacities g store lengths starts × (there ≤ here + 600000)
Performed capacities f here i None store lengths starts =
    (perform (within_each (capacity_of capacities)) (state here f) i ≡ none) × Ring capacities f store lengths starts

-- The byte of the symbol that an append of this kind appends
abbrev pub symbol_of : ℕ → ℕ
symbol_of kind = cond (eqb kind 1) 49 35

-- After an append, where there was room
abbrev pub next_if : Bool → ℕ → Option ℕ
next_if room here = cond room (Some (here + 1)) None

-- After a deletion: nothing was there, a 1, or a #; no other byte stands in a register
abbrev pub by_byte : ℕ → ℕ → Option ℕ
by_byte b here = cond (eqb b 0) (Some (here + 1)) (cond (eqb b 49) (Some (here + 2)) (cond (eqb b 35) (Some (here + 3)) None))
