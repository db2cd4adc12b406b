-- `write_table` meets its contract: what is answered by the table's tally, how many records are written, and the word then.
use Rattle.record_writing.proofs.Writes.{count-within, writes_table}
use Rattle.record_writing.proofs.write_table.Goals as goal

pub spell-requires : goal.spell-requires
spell-requires c =
    let a = c.args in
    count-within a.table.now a.word.now a.word.now _ c.count_table-t.ensures _ c.answer_for-answer.ensures _
    c.count_written-count.ensures

pub returns : goal.returns
returns c =
    let a = c.args in
    writes_table a.table.now a.word.now _ _ c.count_table-t.ensures _ c.answer_for-answer.ensures _
    c.count_written-count.ensures c.spell.ensures
