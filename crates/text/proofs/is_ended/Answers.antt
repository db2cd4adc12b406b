-- `text::is_ended` meets its contract: by the last byte.
use Rattle.text.proofs.Ended.{last_byte}
use Rattle.text.proofs.is_ended.Goals as goal

pub returns : goal.returns
returns c = last_byte c.args.text.now c.if-text-eq0.false
