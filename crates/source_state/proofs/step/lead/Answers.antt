-- `lead` leads where the definition says, by the kind and one test. Assumes nothing.
use native.Mathlib.Omega.{arith}
use borrow.Author.Tests.{le-leb, lt-leb, ne_eqb}
use Rattle.source_state.specs.Numbers.{led}
use Rattle.source_state.proofs.step.lead.Goals as goal

pub returns-then-held-eq0 : goal.returns-then-held-eq0
unfolding led
returns-then-held-eq0 c = rw (c.in-4.is, c.if-held-eq0.true)

pub returns-then-left-le1 : goal.returns-then-left-le1
unfolding led
returns-then-left-le1 c = rw (c.in-5.is, le-leb c.args.left 1 c.if-left-le1.true)

pub returns-then-held-eq0-2 : goal.returns-then-held-eq0-2
unfolding led
returns-then-held-eq0-2 c = rw (c.in-6.is, c.if-held-eq0-2.true)

pub returns-else-held-eq0 : goal.returns-else-held-eq0
unfolding led
returns-else-held-eq0 c = rw (c.in-4.is, ne_eqb c.args.held 0 c.if-held-eq0.false)

pub returns-else-left-le1 : goal.returns-else-left-le1
unfolding led
returns-else-left-le1 c = rw (c.in-5.is, lt-leb c.args.left 1 c.if-left-le1.false)

pub returns-else-held-eq0-2 : goal.returns-else-held-eq0-2
unfolding led
returns-else-held-eq0-2 c = rw (c.in-6.is, ne_eqb c.args.held 0 c.if-held-eq0-2.false)

pub returns-in_default : goal.returns-in_default
unfolding led
returns-in_default c =
    let kind = c.args.kind in
    rw (ne_eqb kind 4 (omega arith), ne_eqb kind 5 (omega arith), ne_eqb kind 6 (omega arith))
