-- A turn stores one instruction after those before it; at the end all are stored.
use Rattle.std.proofs.Common.{arith, ap, ◌∙◌, length}
use Rattle.record_reading.specs.Storing.{stored}
use Rattle.record_reading.proofs.Stores.{start_none, start-more, stored_none, stored_more, stored-length}
use Rattle.record_reading.proofs.store.Goals as goal

pub loop-i-init : goal.loop-i-init
loop-i-init c = (stored_none c.args.word.now c.args.table.now, start_none c.args.word.now)

pub bounds-table-i : goal.bounds-table-i
bounds-table-i c =
    let l = c.loop-i in
    let a = c.args in
    omega (arith, ap length l.invariant.0, stored-length a.word.now a.count a.table.now c.requires l.i (omega arith), c.requires.room)

pub loop-i-preserved : goal.loop-i-preserved
loop-i-preserved c =
    let l = c.loop-i in
    let a = c.args in
    let e = rw l.invariant.1 at c.item_at-e.ensures in (
      rw l.invariant.0 (stored_more a.word.now a.count a.table.now c.requires l.i (omega arith) c.item_at-e.result e),
      start-more a.word.now a.count a.table.now c.requires l.i (omega arith) c.item_at-e.result e,
    )

pub returns : goal.returns
returns c =
    let l = c.loop-i in
    let a = c.args in
    l.invariant.0 ∙ ap (λ k. stored a.word.now k a.table.now) (omega arith)
