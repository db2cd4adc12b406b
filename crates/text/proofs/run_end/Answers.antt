use native.Mathlib.Omega.{arith}
use borrow.Author.Tests.{eq-eqb, ne_eqb}
use Rattle.text.specs.Runs.{is_byte}
use Rattle.text.proofs.Runs.{leading-more, leading_stop, leading_end}
use Rattle.text.proofs.run_end.Goals as goal

pub returns-then-text-next : goal.returns-then-text-next
returns-then-text-next c =
    let w : _ = c.args.text.now in
    let byte : _ = c.args.byte in
    omega (arith, leading_stop (is_byte byte) w c.loop-next.next 0 (omega arith) (ne_eqb _ _ c.if-text-next.true))

pub loop-next-preserved : goal.loop-next-preserved
loop-next-preserved c =
    let w : _ = c.args.text.now in
    let byte : _ = c.args.byte in
    omega (arith, leading-more (is_byte byte) w c.loop-next.next 0 (omega arith) (eq-eqb _ _ c.if-text-next.false))

pub returns : goal.returns
returns c =
    let text : _ = c.args.text.now in
    let byte : _ = c.args.byte in
    grind (arith, leading_end (is_byte byte) text c.loop-next.next 0, leading_end (is_byte byte) text c.args.at 0)
