use mathlib.Core.Path.{◌≡◌, ◌∙◌}
use Prim.Native.Nat.{◌/◌}
use native.Mathlib.Omega.{arith}
use Rattle.theory.proofs.PassedOn.{passed_on}
use lib.ListN.{length}
use Rattle.list.proofs.Stack.{ended-under}
use Rattle.list.proofs.ListCheck.{at_first, too_many, faulty, onward, cut, whole}
use Rattle.list.proofs.check_list.Goals as goal

pub returns-then-list-gt-NUMBERS : goal.returns-then-list-gt-NUMBERS
returns-then-list-gt-NUMBERS c = let a = c.args in rw c.refused.ensures (too_many a.setting a.list.now (omega arith))

pub loop-i-init : goal.loop-i-init
loop-i-init c = let a = c.args in (omega arith, at_first a.setting a.list.now)

pub returns-in_err-count : goal.returns-in_err-count
returns-in_err-count c =
    let m = c.loop-i in
    let args = c.args in
    passed_on _ c.from_residual.ensures
    ∙ faulty args.setting args.list.now m.i m.variables m.count m.openings m.invariant.1 (omega arith)
    c.judge.ensures c.in_err-count.was m.invariant.0

pub loop-i-preserved : goal.loop-i-preserved
loop-i-preserved c =
    let m = c.loop-i in
    let args = c.args in
    let so_far = onward args.setting args.list.now m.i m.variables m.count m.openings m.invariant.1
    (omega arith) c.judge.ensures in
    (m.invariant.0, so_far c.in_ok-count.was _ (c.named-variables.ensures ∙ rw c.named.ensures))

pub returns-then-lines-list : goal.returns-then-lines-list
returns-then-lines-list c =
    let m = c.loop-i in
    let args = c.args in
    let all : length args.list.now / 3 ≡ m.i = omega arith in
    rw (c.refused-then-lines-list.ensures, all)
    (cut args.setting args.list.now m.i m.variables m.count m.openings m.invariant.1 (omega arith) (omega arith)
    m.invariant.0)

pub returns : goal.returns
returns c =
    let m = c.loop-i in
    let args = c.args in
    let all : length args.list.now / 3 ≡ m.i = omega arith in
    (rw all at c.ended.ensures)
    ∙ ended-under _ m.count m.openings
    ∙ whole args.setting args.list.now m.i m.variables m.count m.openings m.invariant.1 (omega arith) m.invariant.0
