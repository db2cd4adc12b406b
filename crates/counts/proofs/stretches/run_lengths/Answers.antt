-- The goals of `run_lengths`: a stretch leads on, or its end is that of the run.
use mathlib.Core.Path.{sym, ◌∙◌}
use Rattle.counts.proofs.Counting.{counting_over, counting_reached_full, counting_reached}
use Rattle.counts.proofs.stretches.run_lengths.Goals as goal

pub loop-left-preserved : goal.loop-left-preserved
loop-left-preserved c =
    let a = c.args in
    let w = c.allowance-allowed in
    counting_reached a.capacities.now a.lengths.now a.kinds.now a.operands.now a.from a.steps a.budget w.result
    c.loop-left.invariant w.ensures _ c.in-Ok.ensures

pub returns-in-Err : goal.returns-in-Err
returns-in-Err c =
    let a = c.args in
    let w = c.allowance-allowed in
    counting_reached_full a.capacities.now a.lengths.now a.kinds.now a.operands.now a.from a.steps a.budget w.result
    c.loop-left.invariant w.ensures _ c.in-Err.ensures

pub returns : goal.returns
returns c =
    let a = c.args in
    let w = c.allowance-allowed in
    rw c.end_at-end.ensures
    (counting_over a.capacities.now a.lengths.now a.kinds.now a.operands.now a.from a.steps a.budget w.result
    c.loop-left.invariant w.ensures (sym c.goes_on.ensures ∙ c.loop-left-test.false))
