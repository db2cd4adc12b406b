-- `run_numbers` meets its contract: what judging the table answered, and then the run, which minds rules 10 and 15.
use mathlib.Core.Path.{sym, ◌∙◌}
use Rattle.word.specs.Answers.{zipped}
use Rattle.memory.specs.Calls.{memory}
use Rattle.engine.proofs.Judged.{got_refused, got_done, table_refused, table-run}
use Rattle.engine.proofs.run_numbers.Goals as goal

pub returns-in-Ok : goal.returns-in-Ok
returns-in-Ok c =
    let a = c.args in
    let m = memory a.capacities.now a.store.now a.lengths.now in
    let t = zipped a.kinds.now a.operands.now in
    let passed = (got_done t _ c.check.ensures _ c.in-Ok.is).0 in
    c.run.ensures ∙ table-run m a.at a.budget t passed

pub returns-in-Err : goal.returns-in-Err
returns-in-Err c =
    let a = c.args in
    let m = memory a.capacities.now a.store.now a.lengths.now in
    let t = zipped a.kinds.now a.operands.now in
    rw c.turned_down.ensures
    (sym (table_refused m a.at a.budget t _ (got_refused t _ c.check.ensures
    _ c.in-Err.is)))
