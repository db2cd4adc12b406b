-- A turn copies one record's numbers after those before it; at the end all are copied.
use Rattle.std.proofs.Common.{arith, ap, ◌≡◌, ◌<◌, length, take}
use lib.Seq.{length-take-le, get_or-take}
use Rattle.word.specs.Answers.{entry_of}
use Rattle.record_counting.proofs.Tallies.{no_record}
use Rattle.records.proofs.Copies.{copied_none, copied_next, numbers_end, kind_in, operand_in}
use Rattle.records.proofs.copied.Goals as goal
use Rattle.records.proofs.copied.Goals.{Start}

-- The records are the first ones of the table
counted : (c : Start) → length (take c.args.count c.args.table.now) ≡ c.args.count
counted c = length-take-le c.args.count c.args.table.now c.requires.0

pub loop-i-init : goal.loop-i-init
loop-i-init c =
    let t = c.args.table.now in
    (copied_none kind_in t, copied_none operand_in t)

pub loop-i-preserved : goal.loop-i-preserved
loop-i-preserved c =
    let l = c.loop-i in
    let a = c.args in
    let t = a.table.now in
    let within : l.i < a.count = omega (arith, counted (goal.at.loop-i-preserved c).Start) in
    let e = get_or-take a.count t l.i no_record within in (
      rw l.invariant.0 (copied_next kind_in t l.i (omega arith) (omega arith) _ (ap (λ r. kind_in (entry_of r)) e)),
      rw l.invariant.1 (copied_next operand_in t l.i (omega arith) (omega arith) _ (ap (λ r. operand_in (entry_of r)) e)),
    )

pub returns : goal.returns
returns c =
    let l = c.loop-i in
    let all = counted (goal.at.returns c).Start in
    rw (l.invariant.0, l.invariant.1) (numbers_end c.args.table.now l.i c.args.count (omega (arith, all)))
