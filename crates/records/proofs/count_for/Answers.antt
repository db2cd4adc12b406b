-- `count_for` meets its contract: the count of what `judge` answers.
use mathlib.Core.Path.{ap, ◌∙◌}
use Rattle.record_counting.specs.Counted.{answer_count}
use Rattle.records.specs.Records.{judged_count}
use Rattle.records.proofs.count_for.Goals as goal

pub returns : goal.returns
unfolding judged_count
returns c = c.count_of.ensures ∙ ap answer_count c.judge.ensures
