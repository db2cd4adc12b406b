-- `run_row` meets its contract: both runs are the definitions'.
use mathlib.Core.Path.{◌≡◌, ap, subst, ◌∙◌}
use lib.ListN.{length}
use Rattle.theory.specs.TurnedDown.{after, read_list, run_from}
use Rattle.theory.specs.RunTool.{word_on}
use Rattle.source_state.specs.Answers.{source_state, fresh_state, HandsBack}
use Rattle.source_state.specs.declared.State.{State}
use Rattle.report_text.specs.Rows.{ended_of}
use Rattle.report_text.proofs.Values.{cut_length, cut_values}
use Rattle.report_text.proofs.Called.{row-ran}
use borrow.Author.Rules.{rules}
use Rattle.report_text.proofs.rows.run_row.Goals as goal
use Rattle.report_text.proofs.rows.run_row.Goals.{Start}

values-size : (start : Start) → length start.args.values ≡ 32
values-size start = search rules

pub returns : goal.returns
returns c =
    let a = c.args in
    let list = a.list.now in
    let capacities = a.capacities.now in
    let r = c.run_list-run.result in
    let runs : State → Type 0 = λ s. HandsBack s (after (read_list list) (run_from (source_state s) 100000)) r in
    let limited = c.fresh-fresh.ensures.state ∙ ap (λ l. fresh_state l a.values) c.requires.2 in
    let back = subst runs limited c.run_list-run.ensures in
    let size = values-size (goal.at.returns c).Start in
    let cut = cut_values capacities a.variables a.values size c.requires.3 in
    let short = cut_length capacities a.variables a.values size c.requires.3 in
    row-ran capacities c.requires.1 list a.kinds.now a.operands.now a.variables a.values c.requires.0 c.requires.3 r back
    c.of_run-source.result c.run_word-word.result c.of_run-source.ensures
    λ q accepted table named. c.run_word-word.ensures q accepted table (short ∙ named) ∙ ap (λ v. ended_of (word_on capacities q v)) cut
