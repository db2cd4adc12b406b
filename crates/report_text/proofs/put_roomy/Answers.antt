-- `put_roomy` meets its contract: the sheet is turned down, or the rows follow.
use mathlib.Core.Path.{◌≡◌, ap, subst, ◌∙◌}
use mathlib.Core.Option.{some}
use Prim.Native.Nat.{min}
use Rattle.theory.specs.TurnedDown.{sheet_fault_for}
use Rattle.theory.specs.ProgramText.{commands}
use Rattle.capacities.specs.Room.{of_variables}
use Rattle.sheet.specs.Answers.{sheet_answer}
use Rattle.report_text.proofs.Reading.{listed_few, few_named}
use Rattle.report_text.proofs.Columns.{found_refused, found_accepted}
use Rattle.report_text.proofs.Printing.{sheet_refused, refusal-printed}
use Rattle.report_text.proofs.put_roomy.Goals as goal
use Rattle.report_text.proofs.put_roomy.Goals.{After-check}

-- by the first capacities
answered : (k : After-check) →
    k.check.result ≡ sheet_answer (min k.args.variables 32) (of_variables k.args.capacities.now)
    k.args.sheet.now
answered k =
    k.check.ensures
    ∙ ap (λ l. sheet_answer (min k.args.variables 32) l k.args.sheet.now) k.of_variables.ensures

pub put_translated-requires : goal.put_translated-requires
put_translated-requires c =
    let few = listed_few _ _ c.requires.0 in
    let accepted = found_accepted c.args.capacities.now c.args.variables c.args.sheet.now few
    c.check.result (answered (goal.at.put_translated-requires c).After-check) in
    (c.requires.0, c.requires.1, accepted _ c.in-Ok.is)

pub returns-in-Err : goal.returns-in-Err
returns-in-Err c =
    let list = c.args.list.now in
    let capacities = c.args.capacities.now in
    let K = c.args.variables in
    let s = c.args.sheet.now in
    let few = listed_few _ _ c.requires.0 in
    let r = c.in-Err.r in
    let down = found_refused capacities K s few c.check.result (answered (goal.at.returns-in-Err c).After-check) r c.in-Err.is in
    let fault = subst (λ k. sheet_fault_for k (of_variables capacities) s ≡ some r) c.requires.0.named down in
    refusal-printed r (sheet_refused capacities (commands list) s (few_named list K c.requires.0) c.requires.1 r fault)
    c.put_refusal.ensures
