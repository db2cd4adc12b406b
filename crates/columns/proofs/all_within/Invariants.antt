-- `all_within` meets its contract. The loop's invariant: the values of the columns from `k` on are within their capacities.
use mathlib.Core.Path.{◌≡◌}
use mathlib.Core.Bool.{true}
use Prim.Native.Nat.{◌≤◌, min}
use Rattle.columns.proofs.Capacities.{within-from}
use Rattle.columns.proofs.all_within.Given as goal

abbrev pub invariant-loop-k : goal.invariant-loop-k
invariant-loop-k l =
    (l.k ≤ min l.count 32) × (within-from l.capacities (min l.count 32) l.variables l.numbers l.k ≡ true)
