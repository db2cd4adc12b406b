-- `row` meets its contract: the values of a line that passes go to their variables.
use mathlib.Core.Path.{◌≡◌, sym, ◌∙◌}
use borrow.Author.Rules.{rules}
use lib.ListN.{length}
use Rattle.columns.specs.Columns.{padded}
use Rattle.sheet.proofs.Answered.{row_done, row_refused}
use Rattle.sheet.proofs.row.Goals as goal
use Rattle.sheet.proofs.row.Goals.{Start}

size : (b : Start) → length b.args.names.columns ≡ 32
size b = search rules

pub returns-in-Ok : goal.returns-in-Ok
returns-in-Ok c =
    let a : _ = c.args in
    let line : _ = c.scan-line.ensures in
    row_done a.sheet.now a.names a.capacities a.n a.at c.min-count.result c.min-count.ensures (size (goal.at.returns-in-Ok c).Start)
    _ c.in-Ok.numbers _ (sym c.in-Ok.is ∙ line.judged) c.spread.ensures line.next_line

pub returns-in-Err : goal.returns-in-Err
unfolding padded
returns-in-Err c =
    let a : _ = c.args in
    let line : _ = c.scan-line.ensures in
    row_refused a.sheet.now a.names a.capacities a.n a.at c.min-count.result c.min-count.ensures (size (goal.at.returns-in-Err c).Start)
    c.in-Err.r (sym c.in-Err.is ∙ line.judged) _ line.next_line
