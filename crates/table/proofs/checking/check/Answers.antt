-- `check` meets its contract: what plainly passes is let pass, and else the table's tally is judged.
use mathlib.Core.Path.{ap, ◌∙◌}
use Rattle.word.specs.Answers.{zipped}
use Rattle.tally.specs.Tallies.{judged}
use Rattle.tally.proofs.Counts.{judged_tally}
use Rattle.table.proofs.checking.check.Goals as goal

pub returns : goal.returns
returns c =
    let a = c.args in
    c.judge.ensures ∙ ap judged c.counted.ensures ∙ judged_tally (zipped a.kinds.now a.operands.now)
