-- `delete_first` meets its contract: the first byte of the ring is 0 then, and the ring begins after it.
use Prim.Native.Nat.{◌+◌, ◌<◌}
use native.Mathlib.Omega.{arith}
use lib.ListN.{length, get_or}
use Rattle.rings.proofs.Rings.{ring_inside, ring_delete, ring_empty}
use Rattle.rings.proofs.store.delete_first.Goals as goal
use Rattle.rings.proofs.store.delete_first.Goals.{Else-n-eq0}

inside : (c : Else-n-eq0)
    → let a = c.args in
    get_or a.offsets.now a.r 0 + get_or a.starts.now a.r 0 < length a.store.now
inside c =
    let a = c.args in
    let p = c.requires in
    rw (p.3.each a.r p.1)
    (ring_inside p.2.1 a.r p.1 (get_or a.starts.now a.r 0) (p.2.1.begins a.r p.1))

pub returns-then-n-eq0 : goal.returns-then-n-eq0
returns-then-n-eq0 c f h = ring_empty h c.args.r c.requires.1
    c.if-n-eq0.true

pub overflow_add-at : goal.overflow_add-at
overflow_add-at c = omega (arith, inside (goal.at.overflow_add-at c).Else-n-eq0)

pub bounds-store-at : goal.bounds-store-at
bounds-store-at c = inside (goal.at.bounds-store-at c).Else-n-eq0

pub bounds-store-at-2 : goal.bounds-store-at-2
bounds-store-at-2 c = inside (goal.at.bounds-store-at-2 c).Else-n-eq0

pub returns : goal.returns
returns c f h =
    let a = c.args in
    let p = c.requires in
    let some : 0 < get_or a.lengths.now a.r 0 = omega (arith, c.if-n-eq0.false) in
    rw (c.wrapped.ensures, p.3.each a.r p.1) (ring_delete h a.r p.1 some)
