use native.Mathlib.Omega.{arith}
use borrow.Author.Tests.{eq-eqb, ne_eqb}
use Rattle.text.specs.Runs.{is_other}
use Rattle.text.proofs.Runs.{leading-more, leading_stop, leading_end}
use Rattle.text.proofs.find.Goals as goal

pub returns-then-text-i : goal.returns-then-text-i
returns-then-text-i c =
    let w : _ = c.args.text.now in
    let byte : _ = c.args.byte in
    omega (arith, leading_stop (is_other byte) w c.loop-i.i 0 (omega arith) (rw (eq-eqb _ _ c.if-text-i.true)))

pub loop-i-preserved : goal.loop-i-preserved
loop-i-preserved c =
    let w : _ = c.args.text.now in
    let byte : _ = c.args.byte in
    omega (arith, leading-more (is_other byte) w c.loop-i.i 0 (omega arith) (rw (ne_eqb _ _ c.if-text-i.false)))

pub returns : goal.returns
returns c =
    let text : _ = c.args.text.now in
    let byte : _ = c.args.byte in
    grind (arith, leading_end (is_other byte) text c.loop-i.i 0, leading_end (is_other byte) text c.args.at 0)
