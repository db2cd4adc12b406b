-- `append` meets its contract: the byte after the symbols of the ring lies in the register's place.
use Prim.Native.Nat.{ℕ, ◌+◌, ◌<◌}
use native.Mathlib.Omega.{arith}
use lib.ListN.{length, get_or}
use Rattle.rings.proofs.Rings.{wrapped_below, ring_inside, ring_append, ring_full}
use Rattle.rings.proofs.store.append.Goals as goal
use Rattle.rings.proofs.store.append.Goals.{After-wrapped-at}

inside : (c : After-wrapped-at)
    → let a = c.args in
    get_or a.offsets.now a.r 0 + c.wrapped-at.result < length a.store.now
inside c =
    let a = c.args in
    let p = c.requires in
    let k = get_or a.starts.now a.r 0 + get_or a.lengths.now a.r 0 in
    let size : ℕ = get_or a.capacities.now a.r 0 in
    let low : c.wrapped-at.result < size = rw c.wrapped-at.ensures (wrapped_below size k
    (omega (arith, p.2.1.begins a.r p.1, c.if-n-size.true))) in
    rw (p.3.each a.r p.1) (ring_inside p.2.1 a.r p.1 c.wrapped-at.result low)

pub overflow_add-store : goal.overflow_add-store
overflow_add-store c = omega (arith, inside (goal.at.overflow_add-store c).After-wrapped-at)

pub bounds-store-offsets : goal.bounds-store-offsets
bounds-store-offsets c = inside (goal.at.bounds-store-offsets c).After-wrapped-at

pub returns-then-n-size : goal.returns-then-n-size
returns-then-n-size c f x b h =
    let a = c.args in
    let p = c.requires in
    rw (c.wrapped-at.ensures, b, p.3.each a.r p.1) (ring_append h a.r p.1 x c.if-n-size.true)

pub returns-else-n-size : goal.returns-else-n-size
returns-else-n-size c f x b h = ring_full h c.args.r c.requires.1 x c.if-n-size.false
