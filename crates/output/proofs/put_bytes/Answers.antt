-- `put_bytes` meets its contract: what has a place is copied, and the rest counted.
use native.Mathlib.Omega.{arith}
use Rattle.output.proofs.Puts.{put-placed}
use Rattle.output.proofs.put_bytes.Goals as goal

pub returns : goal.returns
returns c =
    put-placed {k = c.saturating_sub-room.result} c.copy-2.ensures (omega arith) (omega arith) c.onward.ensures
