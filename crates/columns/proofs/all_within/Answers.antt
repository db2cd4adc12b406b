-- `all_within` meets its contract: what is within its capacity at each place, and the first that is not.
use mathlib.Core.Path.{◌≡◌, sym, ap, ap₂, ◌∙◌}
use mathlib.Core.Bool.{Bool}
use Prim.Native.Nat.{ℕ, ◌-◌, min}
use native.Mathlib.Omega.{arith}
use lib.ListN.{length, take, get_or}
use Rattle.theory.specs.Runs.{register}
use Rattle.theory.specs.Machines.{capacity_of}
use Rattle.theory.specs.TurnedDown.{within_columns}
use Rattle.columns.proofs.Places.{take_least}
use Rattle.columns.proofs.Capacities.{within-from, within_end, within-next, within_fails}
use Rattle.columns.proofs.all_within.Goals as goal
use Rattle.columns.proofs.all_within.Goals.{After-capacity_of, Start}

-- The first 32 at most are the first of them all
counted : (s : Start) → let a = s.args in
    within-from a.capacities (min a.count 32) a.variables a.numbers 0
    ≡ within_columns a.capacities (take a.count a.variables) (take a.count a.numbers)
counted s =
    let a : _ = s.args in
    let variables : _ = take_least a.count a.variables 32 (omega arith) in
    let numbers : _ = take_least a.count a.numbers 32 (omega arith) in
    ap₂ {C = Bool} (within_columns a.capacities) variables numbers

-- The capacity is that of the column's variable
capacity : (c : After-capacity_of) → let a = c.args in
    let k = c.loop-k.k - 1 in
    c.capacity_of.result ≡ capacity_of a.capacities (register (get_or a.variables k 0))
capacity c =
    let a : _ = c.args in
    c.capacity_of.ensures ∙ ap (λ i. capacity_of a.capacities (register i)) c.from-variable.ensures

pub loop-k-init : goal.loop-k-init
loop-k-init c =
    let a : _ = c.args in
    let n : ℕ = min a.count 32 in
    let last : c.min-k.result ≡ n = omega arith in
    (omega arith, rw last (within_end a.capacities n a.variables a.numbers))

pub returns-then-capacity_of-numbers : goal.returns-then-capacity_of-numbers
returns-then-capacity_of-numbers c =
    let k : ℕ = c.loop-k.k in
    let a : _ = c.args in
    let n : ℕ = min a.count 32 in
    let columns : length a.variables ≡ 32 = omega arith in
    let numbers : length a.numbers ≡ 32 = omega arith in
    let high : _ = rw (capacity (goal.at.returns-then-capacity_of-numbers c).After-capacity_of) at c.if-capacity_of-numbers.true in
    let fails : _ =
    within_fails a.capacities n a.variables a.numbers (omega arith) (omega arith) k (omega arith) (omega arith) high in
    sym fails ∙ counted (goal.at.returns-then-capacity_of-numbers c).Start

pub loop-k-preserved : goal.loop-k-preserved
loop-k-preserved c =
    let l : _ = c.loop-k in
    let a : _ = c.args in
    let n : ℕ = min a.count 32 in
    let columns : length a.variables ≡ 32 = omega arith in
    let numbers : length a.numbers ≡ 32 = omega arith in
    let low : _ = rw (capacity (goal.at.loop-k-preserved c).After-capacity_of) at c.if-capacity_of-numbers.false in
    let next : _ =
    within-next a.capacities n a.variables a.numbers (omega arith) (omega arith) l.k (omega arith) (omega arith) low l.invariant.1 in
    (omega arith, next)
