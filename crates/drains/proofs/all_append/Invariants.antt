-- `all_append` meets its contract: those passed are appends of 1, so the rest decides.
use mathlib.Core.Path.{◌≡◌}
use lib.ListN.{drop}
use lib.Dec.{eqb}
use Rattle.theory.specs.Basics.{all}
use Rattle.drains.proofs.all_append.Given as goal

abbrev pub invariant-loop-kind : goal.invariant-loop-kind
invariant-loop-kind l = all (eqb 1) l.kinds ≡ all (eqb 1) (drop l.kind-index l.kinds)
