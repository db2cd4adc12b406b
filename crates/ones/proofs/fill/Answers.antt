-- `fill` meets its contract: what is written in the part that begins at a byte is written there.
use Prim.Native.Nat.{◌-◌}
use native.Mathlib.Omega.{arith}
use lib.ListN.{length}
use Rattle.ones.proofs.Laid.{run_past, run_part}
use Rattle.ones.proofs.fill.Goals as goal

pub returns-then-part-from : goal.returns-then-part-from
returns-then-part-from c =
    let a = c.args in
    run_past a.part.now a.from a.to a.byte (omega arith) c.if-part-from.true

pub returns : goal.returns
returns c =
    let a = c.args in
    let l = a.part.now in
    run_part l a.from a.to a.byte (omega arith) (length l - a.from) (omega arith) c.write_runs.ensures
