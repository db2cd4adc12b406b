use mathlib.Core.Path.{◌≡◌, sym, ap, ◌∙◌}
use native.Mathlib.Omega.{arith}
use Rattle.usable.specs.Usable.{unusable_answer}
use Rattle.usable.proofs.Along.{stops_here, goes_on, stops_operands, stops_kinds, ends}
use borrow.Author.Rules.{rules}
use Rattle.usable.proofs.first_unusable.Goals as goal

pub returns-then-not-is_usable : goal.returns-then-not-is_usable
returns-then-not-is_usable c =
    let a = c.args in
    let l = c.loop-i in
    ap unusable_answer (sym (l.invariant.1 ∙ stops_here a.registers a.kinds.now a.operands.now l.i (search rules) (search rules)
    (sym c.is_usable.ensures ∙ c.if-not-is_usable.true)))

pub loop-i-preserved : goal.loop-i-preserved
loop-i-preserved c =
    let a = c.args in
    let l = c.loop-i in (
      search rules,
      l.invariant.1 ∙ goes_on a.registers a.kinds.now a.operands.now l.i (search rules) (search rules)
          (sym c.is_usable.ensures ∙ c.if-not-is_usable.false),
    )

pub returns-then-count-kinds : goal.returns-then-count-kinds
returns-then-count-kinds c =
    let a = c.args in
    let l = c.loop-i in
    let at : l.i ≡ c.min-count.result = omega (arith, l.invariant.0, c.loop-i-test.false) in
    rw (← at) (ap unusable_answer (sym (l.invariant.1 ∙ stops_operands a.registers a.kinds.now a.operands.now l.i
    (omega (arith, c.min-count.ensures, c.min-listed.ensures)) (omega (
      arith,
      c.if-count-kinds.true,
    )))))

pub returns-then-count-operands : goal.returns-then-count-operands
returns-then-count-operands c =
    let a = c.args in
    let l = c.loop-i in
    let at : l.i ≡ c.min-count.result = omega (arith, l.invariant.0, c.loop-i-test.false) in
    rw (← at) (ap unusable_answer (sym (l.invariant.1 ∙ stops_kinds a.registers a.kinds.now a.operands.now l.i
    (omega (arith, c.min-count.ensures, c.min-listed.ensures))
    (omega (arith, c.if-count-operands.true)) (omega (arith, c.if-count-kinds.false)))))

pub returns : goal.returns
returns c =
    let a = c.args in
    let l = c.loop-i in
    ap unusable_answer (sym (l.invariant.1 ∙ ends a.registers a.kinds.now a.operands.now l.i
    (omega (arith, c.loop-i-test.false, c.if-count-kinds.false)) (omega (
      arith,
      c.loop-i-test.false,
      c.if-count-operands.false,
    ))))
