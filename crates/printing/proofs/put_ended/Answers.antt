-- `put_ended` meets its contract: the end, a blank, and the steps.
use Rattle.output.proofs.Puts.{put_then}
use Rattle.printing.proofs.put_ended.Goals as goal

pub returns : goal.returns
returns c =
    put_then c.put_end-next.ensures (put_then c.put_byte-steps.ensures c.put_field.ensures.put)
