-- `all_laid` meets its contract: the places before register `i` are laid out, and its own begins at `from`.
use mathlib.Core.Path.{◌≡◌}
use mathlib.Core.Bool.{true}
use Prim.Native.Nat.{suc, ◌≤◌}
use lib.ListN.{length}
use Rattle.theory.specs.Machines.{offset}
use Rattle.rule10.specs.Lent.{places_laid}
use Rattle.rule10.proofs.all_laid.Given as goal

abbrev pub invariant-loop-i : goal.invariant-loop-i
invariant-loop-i l =
    (l.i ≤ length l.lengths) × (l.from ≡ offset l.capacities (suc l.i)) × (places_laid l.i l.capacities l.store l.lengths ≡ true)
