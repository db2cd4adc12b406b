-- `spread` meets its contract. The loop's invariant: the values of the columns from `k` on are with their variables.
use mathlib.Core.Path.{◌≡◌}
use Prim.Native.Nat.{◌≤◌, min}
use Rattle.columns.proofs.Starts.{starts_from}
use Rattle.columns.proofs.spread.Given as goal

abbrev pub invariant-loop-k : goal.invariant-loop-k
invariant-loop-k l =
    (l.k ≤ min l.count 32) × (l.values ≡ starts_from (min l.count 32) l.variables l.numbers l.k)
