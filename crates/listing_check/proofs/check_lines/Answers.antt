use mathlib.Core.Path.{ap, ◌∙◌}
use Prim.Native.Nat.{◌+◌}
use native.Mathlib.Omega.{arith}
use Rattle.theory.proofs.PassedOn.{passed_on}
use Rattle.listing.specs.Refused.{line_fault}
use Rattle.listing_check.specs.Lined.{line_of, judged}
use Rattle.listing_check.proofs.Faults.{faulty, onward, all_pass}
use Rattle.listing_check.proofs.check_lines.Goals as goal

pub returns-in_err-judge : goal.returns-in_err-judge
returns-in_err-judge c =
    let m = c.loop-i in
    let numbers = c.numbers_at-n.ensures in
    passed_on _ c.from_residual.ensures
    ∙ faulty c.args.list.now c.args.lines m.i c.requires m.invariant.1 c.loop-i-test.true
    (c.judge.ensures ∙ ap (λ n. judged (line_fault c.args.lines (m.i + 1) (line_of n))) numbers) c.in_err-judge.was

pub loop-i-preserved : goal.loop-i-preserved
loop-i-preserved c =
    let m = c.loop-i in
    let numbers = c.numbers_at-n.ensures in
    let so_far = onward c.args.list.now c.args.lines m.i c.requires m.invariant.1 c.loop-i-test.true
    (c.judge.ensures ∙ ap (λ n. judged (line_fault c.args.lines (m.i + 1) (line_of n))) numbers) c.in_ok-judge.was in
    (omega arith, so_far)

pub returns : goal.returns
returns c =
    let m = c.loop-i in
    all_pass c.args.list.now c.args.lines m.i c.requires m.invariant.1 c.loop-i-test.false
