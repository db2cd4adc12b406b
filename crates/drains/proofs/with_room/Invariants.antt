-- `with_room` meets its contract: what the registers passed have room for, cut further by the rest, is what all have room for.
use mathlib.Core.Path.{◌≡◌}
use Prim.Native.Nat.{◌<◌}
use lib.ListN.{length, drop}
use Rattle.drains.specs.Drains.{with_room}
use Rattle.drains.proofs.with_room.Given as goal

abbrev pub invariant-loop-register : goal.invariant-loop-register
invariant-loop-register l =
    (l.m < 65536)
    × (with_room l.lengths l.capacities l.from (length l.appends) l.appends l.most
    ≡ with_room l.lengths l.capacities l.from (length l.appends) (drop l.register-index l.appends) l.m)
