-- `is_countable` meets its contract: what the tests of the lists and the search for an entry that cannot be done found.
use mathlib.Core.Path.{sym, ap, ◌∙◌}
use lib.ListN.{length}
use Rattle.word.specs.Answers.{zipped}
use Rattle.usable.specs.Usable.{first_unusable}
use Rattle.underway.proofs.AllUsable.{found, found_none}
use Rattle.countable.specs.Countable.{is_none}
use Rattle.countable.proofs.Tested.{no_counts, by_search}
use Rattle.countable.proofs.is_countable.Goals as goal

pub returns-then-not-has_counts : goal.returns-then-not-has_counts
returns-then-not-has_counts c =
    let a = c.args in
    sym (no_counts a.capacities.now a.lengths.now a.kinds.now a.operands.now
    (sym c.has_counts.ensures ∙ c.if-not-has_counts.true))

pub returns-in-Some : goal.returns-in-Some
returns-in-Some c =
    let a = c.args in
    let o = first_unusable (length a.capacities.now) (zipped a.kinds.now a.operands.now) in
    sym (by_search a.capacities.now a.lengths.now a.kinds.now a.operands.now
    (sym c.has_counts.ensures ∙ c.if-not-has_counts.false)
    ∙ ap is_none (found o _ (sym c.in-Some.is ∙ c.first_unusable.ensures)))

pub returns-in-None : goal.returns-in-None
returns-in-None c =
    let a = c.args in
    let o = first_unusable (length a.capacities.now) (zipped a.kinds.now a.operands.now) in
    sym (by_search a.capacities.now a.lengths.now a.kinds.now a.operands.now
    (sym c.has_counts.ensures ∙ c.if-not-has_counts.false)
    ∙ ap is_none (found_none o (sym c.in-None.is ∙ c.first_unusable.ensures)))
