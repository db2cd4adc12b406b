-- `check` meets its contract: rules 3 to 8 by `check_list`, then 10 and 21.
use mathlib.Core.Path.{sym, ◌∙◌}
use Rattle.theory.proofs.PassedOn.{passed_on}
use Rattle.capacities.proofs.Checked.{turned_down, few, no_set, passed, too_short}
use Rattle.capacities.proofs.check.Goals as goal

pub returns-then-not-are_a_set : goal.returns-then-not-are_a_set
returns-then-not-are_a_set c =
    c.refused.ensures
    ∙ no_set _ _ c.check_list.ensures _ c.in_ok-program.was
    (sym c.are_a_set.ensures ∙ c.if-not-are_a_set.true)

pub passes-requires : goal.passes-requires
passes-requires c =
    let a : _ = c.args in
    few a.capacities.now a.list.now c.check_list.ensures _ c.in_ok-program.was

pub returns-in_err-program : goal.returns-in_err-program
returns-in_err-program c =
    passed_on _ c.from_residual.ensures
    ∙ turned_down _ _ c.check_list.ensures _ c.in_err-program.was

pub returns-then-passes : goal.returns-then-passes
returns-then-passes c =
    passed _ _ c.check_list.ensures _ c.in_ok-program.was
    (sym c.are_a_set.ensures ∙ c.if-not-are_a_set.false)
    (sym c.passes.ensures ∙ c.if-passes.true)

pub returns-else-passes : goal.returns-else-passes
returns-else-passes c =
    c.refused-else-passes.ensures
    ∙ too_short _ _ c.check_list.ensures _ c.in_ok-program.was
    (sym c.are_a_set.ensures ∙ c.if-not-are_a_set.false)
    (sym c.passes.ensures ∙ c.if-passes.false)
