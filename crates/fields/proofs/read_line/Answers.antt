-- `read_line` meets its contract: from field to field, as the lemmas on reading say.
use mathlib.Core.Path.{sym, ◌∙◌}
use mathlib.Core.List.{List}
use Prim.Native.Nat.{ℕ, ◌≤◌}
use native.Mathlib.Omega.{arith}
use Rattle.theory.specs.Text.{blank}
use Rattle.columns.specs.Columns.{padded}
use Rattle.fields.specs.Fields.{most}
use Rattle.fields.proofs.Splits.{before-within}
use Rattle.fields.proofs.Reading.{reading_none, reading_whole, reading_count, reading_next, reading_fails, reading_end}
use Rattle.fields.proofs.read_line.Goals as goal
use Rattle.fields.proofs.read_line.Goals.{else-text-eq0, then-text-eq0}

pub loop-at-init : goal.loop-at-init
unfolding padded
loop-at-init c =
    let a : _ = c.args in
    elim c.if-text-eq0.branch [
      | then-text-eq0 w ↦ reading_none a.text.now a.named c.min-kept.result c.if-text-eq0.at w.if-text-eq0.true w.at-is
      | else-text-eq0 w ↦ reading_whole a.text.now a.named c.min-kept.result c.if-text-eq0.at w.if-text-eq0.false w.at-is
    ]

pub slice_bounds-field-end : goal.slice_bounds-field-end
slice_bounds-field-end c =
    let t : List ℕ = c.args.text.now in
    omega (arith, before-within blank t c.loop-at.at c.loop-at-test.true)

pub returns-in_err-n : goal.returns-in_err-n
returns-in_err-n c =
    let a : _ = c.args in
    let l : _ = c.loop-at in
    rw (← c.min-kept.ensures) (c.from_residual.ensures
    ∙ reading_fails a.text.now a.named c.min-kept.result l.line l.at l.invariant c.loop-at-test.true
    c.find-end.result c.find-end.ensures (sym c.in_err-n.was ∙ c.field.ensures))

pub with-line-requires : goal.with-line-requires
with-line-requires c =
    let l : _ = c.loop-at in
    let few : l.line.count ≤ l.at = reading_count c.args.text.now c.args.named c.min-kept.result l.line l.at l.invariant in
    (omega (arith, few), omega (arith, c.min-kept.ensures))

pub loop-at-preserved : goal.loop-at-preserved
loop-at-preserved c =
    let a : _ = c.args in
    let l : _ = c.loop-at in
    let least : c.min-kept.result ≤ most = omega (arith, c.min-kept.ensures) in
    rw c.with-line.ensures
    (reading_next a.text.now a.named c.min-kept.result l.line l.at l.invariant c.loop-at-test.true
    c.find-end.result c.find-end.ensures least c.in_ok-n.n (sym c.in_ok-n.was ∙ c.field.ensures))

pub returns : goal.returns
returns c =
    let a : _ = c.args in
    let l : _ = c.loop-at in
    rw (← c.min-kept.ensures) (reading_end a.text.now a.named c.min-kept.result l.line l.at l.invariant c.loop-at-test.false)
