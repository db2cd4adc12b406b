-- Where registers have their places in a lent store.
use Rattle.std.specs.Prelude.{List, ℕ, suc}
use Rattle.theory.specs.Basics.{cells}
use Rattle.theory.specs.Machines.{offset}

-- From which byte each register has its place, for as many as a machine may have, and after them where the last one ends
unfoldable pub offsets_of : List ℕ → List ℕ
offsets_of capacities = cells 65 λ i. offset capacities (suc i)
