-- `report_on` meets its contract: the text is put only where it is known to fit.
use mathlib.Core.Path.{◌∙◌}
use Prim.Native.Nat.{◌≤◌}
use native.Mathlib.Omega.{arith}
use lib.ListN.{length}
use Rattle.theory.specs.RunTool.{report_on}
use Rattle.report.proofs.Lending.{report_done, report_refused}
use Rattle.report.proofs.report_on.Goals as goal
use Rattle.report.proofs.report_on.Goals.{then-out-lt-MOST+else-out-put_report, else-out-lt-MOST}

pub returns-then-out-put_report : goal.returns-then-out-put_report
returns-then-out-put_report c =
    let long = c.put_report.ensures in
    let down = report_refused c.args.out.now c.args.capacities.now c.args.text.now c.args.sheet.now (omega (arith, long.put.next, long.few)) in
    record { value = c.refused.ensures ∙ down.0; out_after = down.1 }

pub returns : goal.returns
returns c =
    let put = c.put_report-2.ensures in
    let room : length (report_on c.args.capacities.now c.args.text.now c.args.sheet.now) ≤ length c.args.out.now
    = elim c.if-out-lt-MOST.branch [
      | then-out-lt-MOST+else-out-put_report w ↦ omega (arith, w.put_report.ensures.put.next, w.put_report.ensures.few, w.if-out-put_report.false)
      | else-out-lt-MOST w ↦ omega (arith, put.put.next, put.few, w.if-out-lt-MOST.false)
    ] in
    let done = report_done c.args.out.now c.args.capacities.now c.args.text.now c.args.sheet.now _ _ room put.put in
    record { value = done.0; out_after = done.1 }
