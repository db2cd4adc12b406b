-- `lay_place` meets its contract: 1s where the register grew, and then byte 0 where it fell.
use Rattle.ones.proofs.Laid.{relaid_by}
use Rattle.ones.proofs.lay_place.Goals as goal

pub returns : goal.returns
returns c =
    let a = c.args in
    relaid_by a.before a.after a.part.now c.wide-old.ensures c.wide-new.ensures
    c.fill.ensures c.fill-2.ensures
