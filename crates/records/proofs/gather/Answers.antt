-- `gather` meets its contract: the count is within the table, and all that the table is judged to have is gathered.
use Rattle.std.proofs.Common.{arith, ap, ◌∙◌, ◌≡◌}
use Rattle.std.proofs.lemmas.List.{length-map}
use Rattle.word.specs.Answers.{entry_of, entries_of}
use Rattle.tally.specs.Tallies.{tally_of}
use Rattle.records.specs.Records.{judged_count}
use Rattle.records.proofs.Gathers.{count-within, gathered-all}
use Rattle.records.proofs.gather.Goals as goal

pub copied-n-requires : goal.copied-n-requires
copied-n-requires c =
    let ys = c.args.table.now in
    let e : c.count_for-count.result ≡ judged_count (tally_of (entries_of ys))
    = c.count_for-count.ensures ∙ ap judged_count c.count_table-t.ensures in
    let within = count-within (entries_of ys) in
    (omega (arith, e, within.0, length-map ys entry_of), omega (arith, e, within.1))

pub returns : goal.returns
returns c =
    let ys = c.args.table.now in
    let e : c.count_for-count.result ≡ judged_count (tally_of (entries_of ys))
    = c.count_for-count.ensures ∙ ap judged_count c.count_table-t.ensures in
    rw (c.finish.ensures, c.copied-n.ensures, e, c.count_table-t.ensures) (gathered-all (entries_of ys))
