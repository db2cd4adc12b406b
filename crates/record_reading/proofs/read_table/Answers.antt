-- `read_table` meets its contract: what is measured of the word, how many instructions are stored, and the table then.
use Rattle.record_reading.proofs.Stores.{storable, reads_table}
use Rattle.record_reading.proofs.read_table.Goals as goal

pub store-requires : goal.store-requires
store-requires c =
    let a = c.args in
    storable a.word.now a.table.now _ _ c.measure_for-answer.ensures c.count_of-count.ensures

pub returns : goal.returns
returns c =
    let a = c.args in
    reads_table a.word.now a.table.now _ _ c.measure_for-answer.ensures c.count_of-count.ensures _ c.store.ensures
