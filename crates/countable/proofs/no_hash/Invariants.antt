-- `no_hash` meets its contract: what was seen so far and what the kinds from the index on pass decide.
use mathlib.Core.Path.{◌≡◌}
use mathlib.Core.Bool.{◌&&◌}
use lib.ListN.{drop}
use Rattle.theory.specs.Basics.{all}
use Rattle.countable.specs.Countable.{no_2}
use Rattle.countable.proofs.no_hash.Given as goal

abbrev pub invariant-loop-kind : goal.invariant-loop-kind
invariant-loop-kind l = all no_2 l.kinds ≡ (l.ok && all no_2 (drop l.kind-index l.kinds))
