-- `all_kinds` meets its contract. The loop's invariant: where nothing else was seen, all kinds passed are 1 to 5.
use mathlib.Core.Path.{◌≡◌}
use mathlib.Core.Bool.{true}
use Prim.Native.Nat.{ℕ, ◌<◌}
use lib.ListN.{get_or}
use Rattle.table.specs.Tables.{IsKind}
use Rattle.table.proofs.checking.all_kinds.Given as goal

abbrev pub invariant-loop-kind : goal.invariant-loop-kind
invariant-loop-kind l = l.ok ≡ true → (j : ℕ) → j < l.kind-index → IsKind (get_or l.kinds j 0)
