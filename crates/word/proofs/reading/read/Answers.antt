-- `read` meets its contract: what `measure` answers, then rule 19 for each lent list, and then what `fill` puts there.
use mathlib.Core.Path.{sym, ◌∙◌}
use native.Mathlib.Omega.{arith}
use Rattle.theory.proofs.PassedOn.{passed_on}
use Rattle.word.proofs.Judged.{measured, read_refused, kinds_short, operands_short, both_fit}
use Rattle.word.proofs.reading.read.Goals as goal

pub returns-then-kinds-count : goal.returns-then-kinds-count
returns-then-kinds-count c =
    let a : _ = c.args in
    let m : _ = measured a.word.now c.in_ok-count.count (sym c.in_ok-count.was ∙ c.measure.ensures) in
    let x : _ = kinds_short a.word.now a.kinds.now a.operands.now m.0 (omega (arith, m.1, c.if-kinds-count.true)) in
    (c.refused.ensures ∙ x.0, x.1, x.2)

pub returns-then-operands-count : goal.returns-then-operands-count
returns-then-operands-count c =
    let a : _ = c.args in
    let m : _ = measured a.word.now c.in_ok-count.count (sym c.in_ok-count.was ∙ c.measure.ensures) in
    let x : _ = operands_short a.word.now a.kinds.now a.operands.now m.0 (omega (
      arith,
      m.1,
      c.if-kinds-count.false,
    )) (omega (arith, m.1, c.if-operands-count.true)) in
    (c.refused-then-operands-count.ensures ∙ x.0, x.1, x.2)

pub fill-requires : goal.fill-requires
fill-requires c =
    let a : _ = c.args in
    let m : _ = measured a.word.now c.in_ok-count.count (sym c.in_ok-count.was ∙ c.measure.ensures) in
    record {
      passed = m.0;
      whole = m.1;
      kinds_room = c.if-kinds-count.false;
      operands_room = c.if-operands-count.false;
    }

pub returns : goal.returns
returns c =
    let a : _ = c.args in
    let m : _ = measured a.word.now c.in_ok-count.count (sym c.in_ok-count.was ∙ c.measure.ensures) in
    let f : _ = c.fill in
    both_fit a.word.now a.kinds.now a.operands.now m.0 (omega (
      arith,
      m.1,
      c.if-kinds-count.false,
    )) (omega (arith, m.1, c.if-operands-count.false))
    c.in_ok-count.count m.1 f.new.kinds f.new.operands f.ensures

pub returns-in_err-count : goal.returns-in_err-count
returns-in_err-count c =
    let a : _ = c.args in
    rw (passed_on _ c.from_residual.ensures) (read_refused a.word.now a.kinds.now a.operands.now _ (sym c.in_err-count.was ∙ c.measure.ensures))
