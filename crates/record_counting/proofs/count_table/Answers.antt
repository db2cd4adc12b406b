-- A turn adds one record to the tally of those before it; at the end all are counted.
use Rattle.std.proofs.Common.{arith, ◌∙◌, ap}
use Rattle.record_counting.proofs.Tallies.{tally_at, tally_start, tally_next, tally_end}
use Rattle.record_counting.proofs.count_table.Goals as goal

pub loop-e-init : goal.loop-e-init
loop-e-init c = c.empty_tally-t.ensures ∙ tally_start c.args.table.now

pub loop-e-preserved : goal.loop-e-preserved
loop-e-preserved c =
    let m = c.loop-e in
    tally_next c.args.table.now m.e-index c.loop-e-test.true (omega arith) c.with_entry-t.result (rw m.invariant at c.with_entry-t.ensures)

pub returns : goal.returns
returns c =
    let m = c.loop-e in
    let t = c.args.table.now in
    m.invariant ∙ ap (tally_at t) (omega arith) ∙ tally_end t
