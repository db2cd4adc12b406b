-- `write` meets its contract: what the tally answers, and then what `spell` writes.
use Rattle.theory.proofs.PassedOn.{passed_on}
use Rattle.tally.proofs.Spelling.{wrote, left}
use Rattle.table.proofs.writing.write.Goals as goal

pub returns : goal.returns
returns c =
    wrote _ _ c.counted-t.result c.counted-t.ensures c.answer_for.result
    c.answer_for.ensures c.in_ok-size.size c.in_ok-size.was _ c.spell.ensures

pub returns-in_err-size : goal.returns-in_err-size
returns-in_err-size c =
    rw (passed_on _ c.from_residual.ensures) (left _ _ c.counted-t.result c.counted-t.ensures c.answer_for.result
    c.answer_for.ensures _ c.in_err-size.was)
