-- `store` stores what the definition says, by the kind and the test of the capacity. Assumes nothing.
use native.Mathlib.Omega.{arith}
use borrow.Author.Tests.{le-leb, lt-leb, ne_eqb}
use Prim.Native.Nat.{suc}
use Rattle.source_state.specs.Numbers.{stored}
use Rattle.source_state.proofs.step.store.Goals as goal

pub returns-in-1 : goal.returns-in-1
unfolding stored
returns-in-1 c = rw c.in-1.is

pub returns-then-held-capacity : goal.returns-then-held-capacity
unfolding stored
returns-then-held-capacity c =
    let args = c.args in
    rw (c.in-2.is, le-leb (suc args.held) args.capacity c.if-held-capacity.true)

pub returns-else-held-capacity : goal.returns-else-held-capacity
unfolding stored
returns-else-held-capacity c =
    let args = c.args in
    rw (c.in-2.is, lt-leb (suc args.held) args.capacity (omega (arith, c.if-held-capacity.false)))

pub returns-then-source-capacity : goal.returns-then-source-capacity
unfolding stored
returns-then-source-capacity c =
    let args = c.args in
    rw (ne_eqb args.kind 1 (omega arith), ne_eqb args.kind 2 (omega arith), le-leb args.source args.capacity c.if-source-capacity.true)

pub returns-else-source-capacity : goal.returns-else-source-capacity
unfolding stored
returns-else-source-capacity c =
    let args = c.args in
    rw (ne_eqb args.kind 1 (omega arith), ne_eqb args.kind 2 (omega arith), lt-leb args.source args.capacity c.if-source-capacity.false)
