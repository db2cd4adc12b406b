-- `fault_place` meets its contract: each of its ways out is a case of the definition.
use borrow.Author.Tests.{eq-eqb, ne_eqb}
use Rattle.word.specs.Scan.{fault_place}
use Rattle.word.proofs.reading.fault_place.Goals as goal

pub returns-then-operand-eq0 : goal.returns-then-operand-eq0
unfolding fault_place
returns-then-operand-eq0 c = simp (eq-eqb _ _ c.if-operand-eq0.true)

pub returns-then-e-middle : goal.returns-then-e-middle
unfolding fault_place
returns-then-e-middle c = simp (ne_eqb _ _ c.if-operand-eq0.false, eq-eqb _ _ c.if-e-middle.true)

pub returns : goal.returns
unfolding fault_place
returns c = simp (ne_eqb _ _ c.if-operand-eq0.false, ne_eqb _ _ c.if-e-middle.false)
