-- `spelling::put_command` meets its contract: the line at its place, or as much of a line apart as has one.
use native.Mathlib.Omega.{arith}
use Rattle.spelling.proofs.Front.{put_front}
use Rattle.spelling.proofs.put_command.Goals as goal

pub returns : goal.returns
returns c =
    let p = c.put_line-size.ensures in
    rw (put_front p.0 p.1 (omega (arith, p.1))) at c.put_bytes.ensures
