-- `run` meets its contract: what the test found, and then the run.
use mathlib.Core.Path.{◌≡◌, sym, ◌∙◌}
use mathlib.Core.Bool.{true}
use Rattle.countable.specs.Countable.{is_countable}
use Rattle.countable.proofs.Tested.{countable}
use Rattle.counts.proofs.run.Goals as goal
use Rattle.counts.proofs.run.Goals.{Else-not-is_countable}

-- the test lets it pass
passes : (c : Else-not-is_countable) → let a = c.args in
    is_countable a.capacities.now a.lengths.now a.kinds.now a.operands.now ≡ true
passes c = sym c.is_countable.ensures ∙ c.if-not-is_countable.false

pub run_countable-requires : goal.run_countable-requires
run_countable-requires c = countable _ _ _ _ (passes (goal.at.run_countable-requires c).Else-not-is_countable)
