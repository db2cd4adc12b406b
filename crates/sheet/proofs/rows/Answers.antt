-- `rows` meets its contract: one line further, up to the first fault or the end.
use mathlib.Core.Path.{sym, ◌∙◌}
use lib.ListN.{take}
use Rattle.theory.proofs.PassedOn.{passed_on}
use Rattle.sheet.proofs.Along.{passes, refuses, along-next, along_fault, along_end}
use Rattle.sheet.proofs.rows.Goals as goal

pub returns-in_err-line : goal.returns-in_err-line
returns-in_err-line c =
    let a : _ = c.args in
    let l : _ = c.loop-at in
    let faulty : _ = refuses _ _ (sym c.in_err-line.was ∙ c.scan-line.ensures.judged) in
    passed_on _ c.from_residual.ensures
    ∙ along_fault a.sheet.now a.capacities (take a.names.count a.names.columns) a.from l.at l.n l.invariant c.loop-at-test.true _ faulty

pub loop-at-preserved : goal.loop-at-preserved
loop-at-preserved c =
    let a : _ = c.args in
    let l : _ = c.loop-at in
    let fine : _ = passes _ _ (sym c.in_ok-line.was ∙ c.scan-line.ensures.judged) in
    rw c.scan-line.ensures.next_line
    (along-next a.sheet.now a.capacities (take a.names.count a.names.columns) a.from l.at l.n l.invariant c.loop-at-test.true fine.0)

pub returns : goal.returns
returns c =
    let a : _ = c.args in
    let l : _ = c.loop-at in
    along_end a.sheet.now a.capacities (take a.names.count a.names.columns) a.from l.at l.n l.invariant c.loop-at-test.false
