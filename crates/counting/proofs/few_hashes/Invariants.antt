-- `few_hashes` meets its contract. The loop's invariant: no six # stand together where the flag says so of the places passed and none do
-- from here on.
use mathlib.Core.Path.{◌≡◌}
use mathlib.Core.Bool.{◌&&◌}
use Prim.Native.Nat.{◌≤◌}
use lib.ListN.{drop}
use Rattle.counting.specs.Counts.{is_sixless}
use Rattle.counting.proofs.few_hashes.Given as goal

abbrev pub invariant-loop-i : goal.invariant-loop-i
invariant-loop-i l = (l.i ≤ l.end) × (is_sixless l.word ≡ (l.ok && is_sixless (drop l.i l.word)))
