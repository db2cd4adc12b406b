-- `fill` meets its contract. The loop's invariant: the registers passed are filled.
use mathlib.Core.Path.{◌≡◌}
use Rattle.layout.specs.Offsets.{offsets_of}
use Rattle.registers.specs.Fresh.{fresh_registers}
use Rattle.registers.proofs.Filling.{Filling}
use Rattle.registers.proofs.fresh.fill.Given as goal

abbrev pub invariant-loop-i : goal.invariant-loop-i
invariant-loop-i l =
    (l.places ≡ offsets_of l.capacities) × Filling l.capacities (fresh_registers l.values) l.i l.store l.lengths
