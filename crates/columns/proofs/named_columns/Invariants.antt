-- `named_columns` meets its contract. The loop's invariant: the numbers from `k` on fit together, are marked and are kept.
use Prim.Native.Nat.{◌≤◌}
use lib.ListN.{take}
use Rattle.columns.proofs.Seen.{Seen}
use Rattle.columns.proofs.named_columns.Given as goal

abbrev pub invariant-loop-k : goal.invariant-loop-k
invariant-loop-k l = (l.k ≤ l.count) × Seen (take l.count l.numbers) l.k l.seen l.variables
