-- `write_runs` meets its contract: where all of both runs has a place, they are filled.
use native.Mathlib.Omega.{arith}
use Rattle.byte_runs.proofs.TwoRuns.{runs-filled}
use Rattle.byte_runs.proofs.write_runs.Goals as goal

pub returns-then-more-room : goal.returns-then-more-room
returns-then-more-room c =
    let a = c.args in
    runs-filled a.part.now (omega arith) a.count _ a.more _ a.count a.more c.fill.ensures
    c.fill-then-more-room.ensures (omega arith) (omega arith)
