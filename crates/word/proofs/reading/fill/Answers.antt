-- `fill` meets its contract: each turn puts one entry more, and at the end all are put.
use Rattle.word.proofs.Filling.{filling-next, filled}
use Rattle.word.proofs.reading.fill.Goals as goal

pub loop-i-preserved : goal.loop-i-preserved
loop-i-preserved c =
    let a : _ = c.args in
    let l : _ = c.loop-i in
    filling-next a.word.now a.count a.kinds.now a.operands.now c.requires l.kinds l.operands l.at l.i l.invariant
    c.loop-i-test.true c.item_at-e.result c.item_at-e.ensures

pub returns : goal.returns
returns c =
    let a : _ = c.args in
    let l : _ = c.loop-i in
    filled a.word.now a.count a.kinds.now a.operands.now c.requires l.kinds l.operands l.at l.i l.invariant c.loop-i-test.false
