-- `fill` meets its contract: each register has its place in the store, and the place has room for what it is to hold.
use mathlib.Core.Path.{◌≡◌, refl}
use Prim.Native.Nat.{ℕ, suc, ◌+◌, ◌-◌, ◌≤◌, ◌<◌}
use native.Mathlib.Omega.{arith}
use lib.ListN.{length, drop, get_or, length-drop}
use lib.Seq.{length-take-le}
use Rattle.registers.specs.Fresh.{fresh_registers}
use Rattle.layout.proofs.OffsetTable.{table_at, table-after, table-next, table_inside}
use Rattle.registers.proofs.Filling.{filling_none, filling-all, filling-next, fresh-length}
use Rattle.registers.proofs.fresh.fill.Goals as goal
use Rattle.registers.proofs.fresh.fill.Goals.{After-held-n, In-loop-i}

-- register i is one of the machine's
below : (c : In-loop-i)
    → c.loop-i.i < length c.args.capacities.now
below c = omega (arith, c.loop-i.invariant.1.counts, c.loop-i-test.true)

few : (c : In-loop-i) → c.loop-i.i < 64
few c = omega (arith, below c, c.requires.0.registers)

-- its place lies in the store, and has its capacity
ends : (c : In-loop-i)
    → let places = c.offsets-places.result in
    get_or places (c.loop-i.i + 1) 0 ≤ length c.loop-i.store
ends c =
    let a = c.args in
    let l = c.loop-i in
    omega (arith, table_inside a.capacities.now _ l.invariant.0 l.i (few c), l.invariant.1.room)

next : (c : In-loop-i)
    → let places = c.offsets-places.result in
    let i = c.loop-i.i in
    get_or places (i + 1) 0 ≡ get_or places i 0 + get_or c.args.capacities.now i 0
next c =
    let l = c.loop-i in
    table-next c.args.capacities.now _ l.invariant.0 l.i (few c)

-- and has room for what the register is to hold
fits : (c : After-held-n)
    → let a = c.args in
    c.held-n.result ≤ get_or a.capacities.now c.loop-i.i 0
fits c =
    omega (arith, c.held-n.ensures, c.requires.1 c.loop-i.i)

pub loop-i-init : goal.loop-i-init
loop-i-init c =
    let a = c.args in
    let none = filling_none a.capacities.now (fresh_registers a.values.now) in
    (c.offsets-places.ensures, none _ _ c.requires.0.room c.requires.0.paired)

pub slice_bounds-lay-count : goal.slice_bounds-lay-count
slice_bounds-lay-count c = omega (arith, next (goal.at.slice_bounds-lay-count c).In-loop-i)

pub slice_bounds-lay-start : goal.slice_bounds-lay-start
slice_bounds-lay-start c = omega (arith, next (goal.at.slice_bounds-lay-start c).In-loop-i)

pub slice_bounds-lay-end : goal.slice_bounds-lay-end
slice_bounds-lay-end c = ends (goal.at.slice_bounds-lay-end c).In-loop-i

pub lay-requires : goal.lay-requires
lay-requires c =
    let store = c.loop-i.store in
    let places = c.offsets-places.result in
    let from : ℕ = get_or places c.loop-i.i 0 in
    let to : ℕ = get_or places (c.loop-i.i + 1) 0 in
    let size = length-take-le (to - from) (drop from store) (omega (arith, ends (goal.at.lay-requires c).In-loop-i, length-drop from store)) in
    omega (arith, size, next (goal.at.lay-requires c).In-loop-i, fits (goal.at.lay-requires c).After-held-n)

pub loop-i-preserved : goal.loop-i-preserved
loop-i-preserved c =
    let a = c.args in
    let l = c.loop-i in
    let starts = table_at a.capacities.now _ l.invariant.0 l.i (few (goal.at.loop-i-preserved c).In-loop-i) in
    let stops = table-after a.capacities.now _ l.invariant.0 l.i (few (goal.at.loop-i-preserved c).In-loop-i) in (
      l.invariant.0,
      filling-next a.values.now a.capacities.now l.i _ _ _ c.held-n.result l.store l.lengths _ l.invariant.1
          (below (goal.at.loop-i-preserved c).In-loop-i) starts stops refl c.held-n.ensures (fits (goal.at.loop-i-preserved c).After-held-n) c.lay.ensures,
    )

pub returns : goal.returns
returns c =
    let a = c.args in
    let l = c.loop-i in
    let short : (j : ℕ) → length (fresh_registers a.values.now (suc j)) ≤ get_or a.capacities.now j 0
    = λ j. omega (arith, fresh-length a.values.now j, c.requires.1 j) in
    filling-all a.capacities.now (fresh_registers a.values.now) l.i l.store l.lengths short l.invariant.1
    (omega (arith, l.invariant.1.few, l.invariant.1.counts, c.loop-i-test.false))
