-- `put_report` meets its contract: the text is turned down, or what an accepted program prints follows.
use mathlib.Core.Path.{◌≡◌, sym, ap, ◌∙◌}
use Prim.Native.Nat.{ℕ, ◌*◌}
use native.Mathlib.Omega.{arith}
use lib.ListN.{length, replicate, length-replicate}
use lib.Seq.{length-take-le}
use Rattle.theory.specs.ProgramText.{variables}
use Rattle.report_text.proofs.Reading.{Read, front-commands, front_accepted, text-turned_down, text-passes}
use Rattle.report_text.proofs.Printing.{text_refused, text_accepted, refusal-printed}
use Rattle.report_text.proofs.put_report.Goals as goal
use Rattle.report_text.proofs.put_report.Goals.{In-Ok}

-- What is known of a program that is read
passing : (c : In-Ok) →
    Read c.args.text.now c.read.new.list c.in-Ok.p
passing c =
    let read = c.read in
    let q = c.in-Ok.p in
    let accepted = sym c.in-Ok.is ∙ read.ensures.value in
    text-passes (replicate 1536 0) _ (length-replicate {A = ℕ} 1536 0) q read.new.list accepted read.ensures.list_after

pub overflow_mul-end : goal.overflow_mul-end
overflow_mul-end c = record { fits = omega (arith, (passing (goal.at.overflow_mul-end c).In-Ok).few) }

pub slice_bounds-list-end : goal.slice_bounds-list-end
slice_bounds-list-end c = omega (arith, (passing (goal.at.slice_bounds-list-end c).In-Ok).few)

pub slice_bounds-put_accepted-end : goal.slice_bounds-put_accepted-end
slice_bounds-put_accepted-end c =
    let lines = c.in-Ok.p.lines in
    let list = c.read.new.list in
    let size : length list ≡ 1536 = c.read.auto.list in
    sym (length-take-le (3 * lines) list (omega (arith, (passing (goal.at.slice_bounds-put_accepted-end c).In-Ok).few)))

pub put_accepted-requires : goal.put_accepted-requires
put_accepted-requires c =
    let r = passing (goal.at.put_accepted-requires c).In-Ok in
    record { accepted = front_accepted _ _ _ r; named = r.named ∙ ap variables (sym (front-commands _ _ _ r)) }

pub returns-in-Err : goal.returns-in-Err
returns-in-Err c =
    let read = c.read in
    let refused = sym c.in-Err.is ∙ read.ensures.value in
    let down = text-turned_down (replicate 1536 0) _ (length-replicate {A = ℕ} 1536 0) c.in-Err.r refused in
    refusal-printed _ (text_refused c.args.capacities.now _ c.args.sheet.now _ down)
    c.put_refusal.ensures

pub returns-in-Ok : goal.returns-in-Ok
returns-in-Ok c =
    let r = passing (goal.at.returns-in-Ok c).In-Ok in
    let printed = rw (front-commands _ _ _ r) at c.put_accepted.ensures in
    rw (text_accepted c.args.capacities.now _ c.args.sheet.now r.program r.text) printed
