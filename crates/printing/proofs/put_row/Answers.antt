-- `put_row` meets its contract: the source's run, its word's, and the first variable.
use Rattle.output.proofs.Puts.{put_then}
use Rattle.printing.proofs.Lines.{row_parts}
use Rattle.printing.proofs.put_row.Goals as goal

pub returns : goal.returns
returns c =
    let rest = put_then c.put_ended-third.ensures c.put_field.ensures.put in
    rw (row_parts c.args.row) (put_then c.put_ended-second.ensures rest)
