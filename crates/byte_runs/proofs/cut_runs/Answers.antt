-- `cut_runs` meets its contract: of each run what has a place is filled.
use native.Mathlib.Omega.{arith}
use Rattle.byte_runs.proofs.TwoRuns.{runs-filled}
use Rattle.byte_runs.proofs.cut_runs.Goals as goal

pub returns : goal.returns
returns c =
    let a = c.args in
    runs-filled a.part.now (omega arith) a.count _ a.more _ c.min-first.result c.min-second.result c.fill.ensures
    c.fill-2.ensures (omega arith) (omega arith)
