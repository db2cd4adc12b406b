-- A turn puts one record after those before it; at the end all are spelled.
use Rattle.std.proofs.Common.{arith, ◌≡◌, ◌<◌, length, take}
use lib.Seq.{length-take-le, get_or-take}
use Rattle.record_counting.proofs.Tallies.{no_record}
use Rattle.record_writing.proofs.Writes.{spelling_none, spelling-more, spelling_end}
use Rattle.record_writing.proofs.spell.Goals as goal
use Rattle.record_writing.proofs.spell.Goals.{Start}

-- The records are the first ones of the table
counted : (c : Start) → length (take c.args.count c.args.table.now) ≡ c.args.count
counted c = length-take-le c.args.count c.args.table.now c.requires

pub loop-e-init : goal.loop-e-init
loop-e-init c = spelling_none c.args.table.now c.args.word.now (omega arith)

pub loop-e-preserved : goal.loop-e-preserved
loop-e-preserved c =
    let l = c.loop-e in
    let a = c.args in
    let within : l.e-index < a.count = omega (arith, counted (goal.at.loop-e-preserved c).Start) in
    let e = get_or-take a.count a.table.now l.e-index no_record within in
    spelling-more a.table.now a.word.now l.e-index l.invariant (omega arith) (rw e at c.put_record-at.ensures)

pub returns : goal.returns
returns c =
    let l = c.loop-e in
    let a = c.args in
    spelling_end a.table.now a.word.now l.e-index l.invariant a.count (omega (arith, counted (goal.at.returns c).Start))
