-- `passes` meets its contract: a table of numbers that are all good, and not too many or too large, is let pass.
use mathlib.Core.Path.{◌≡◌}
use native.Mathlib.Omega.{arith}
use lib.ListN.{length}
use Rattle.word.specs.Answers.{zipped}
use Rattle.word.proofs.Zipped.{zipped-length}
use Rattle.tally.proofs.Counts.{accepted}
use Rattle.table.proofs.Passing.{numbers_good}
use borrow.Author.Tests.{leb-true}
use Rattle.table.proofs.checking.passes.Goals as goal

pub returns : goal.returns
returns c = λ q.
    let a = c.args in
    let t = zipped a.kinds.now a.operands.now in
    let paired : length a.kinds.now ≡ length a.operands.now = c.if-count-operands.false in
    let size : length t ≡ length a.kinds.now = omega (arith, zipped-length a.kinds.now a.operands.now, paired) in
    let small = leb-true c.sum_of.result _ q in
    let summed = c.sum_of.ensures (omega (arith, small)) in
    let each = c.all_kinds.ensures (c.if-not-all_kinds.false) in
    let good = numbers_good a.kinds.now a.operands.now paired each summed.each in
    rw (← size) (accepted t (omega (arith, size), omega (arith, good.symbols, summed.size, small)) good.each (omega (arith, size)))
