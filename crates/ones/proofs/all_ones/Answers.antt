use mathlib.Core.Path.{sym}
use Prim.Native.Nat.{◌+◌, ◌≤◌}
use native.Mathlib.Omega.{arith}
use lib.ListN.{length}
use Rattle.ones.proofs.Tested.{ones_inside, ones_fail, ones-more, ones-all}
use Rattle.ones.proofs.all_ones.Goals as goal
use Rattle.ones.proofs.all_ones.Goals.{After-wide}

-- its place lies in the store
inside : (c : After-wide)
    →
    c.loop-i.from + c.wide.result ≤ length c.args.store.now
inside c =
    let a = c.args in
    let l = c.loop-i in
    rw c.wide.ensures (ones_inside a.capacities.now a.store.now a.lengths.now l.invariant c.requires.room)

pub overflow_add-to : goal.overflow_add-to
overflow_add-to c = omega (arith, inside c)

pub slice_bounds-begins_with_ones-end : goal.slice_bounds-begins_with_ones-end
slice_bounds-begins_with_ones-end c = inside c

pub returns-then-not-begins_with_ones : goal.returns-then-not-begins_with_ones
returns-then-not-begins_with_ones c =
    let a = c.args in
    let part = rw c.wide-in-loop-i.ensures at c.begins_with_ones.ensures in
    sym (ones_fail a.capacities.now a.store.now a.lengths.now c.loop-i.invariant c.loop-i-test.true
    (omega (arith, c.wide.ensures)) part (c.if-not-begins_with_ones.true))

pub loop-i-preserved : goal.loop-i-preserved
loop-i-preserved c =
    let a = c.args in
    let l = c.loop-i in
    let part = rw c.wide-in-loop-i.ensures at c.begins_with_ones.ensures in
    ones-more a.capacities.now a.store.now a.lengths.now l.invariant
    c.loop-i-test.true
    (omega (arith, c.wide.ensures)) part (c.if-not-begins_with_ones.false)

pub returns : goal.returns
returns c =
    let a = c.args in
    sym (ones-all a.capacities.now a.store.now a.lengths.now c.loop-i.invariant c.loop-i-test.false)
