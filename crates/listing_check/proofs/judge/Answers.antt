-- `judge` meets its contract: kind by kind.
use mathlib.Core.Path.{refl, sym, ◌∙◌}
use mathlib.Core.Bool.{true, false}
use Rattle.listing_check.proofs.Faults.{print_passes_1, print_passes_2, no_line, scan_judged}
use Rattle.listing_check.proofs.judge.Goals as goal

pub returns-then-kind-eq-PRINT_ONE : goal.returns-then-kind-eq-PRINT_ONE
returns-then-kind-eq-PRINT_ONE c = let a = c.args in print_passes_1 a.n a.lines a.line c.if-kind-eq-PRINT_ONE.true

pub returns-then-kind-eq-PRINT_HASH : goal.returns-then-kind-eq-PRINT_HASH
returns-then-kind-eq-PRINT_HASH c = let a = c.args in print_passes_2 a.n a.lines a.line c.if-kind-eq-PRINT_ONE.false c.if-kind-eq-PRINT_HASH.true

pub returns-then-kind-ne-SCAN : goal.returns-then-kind-ne-SCAN
returns-then-kind-ne-SCAN c =
    let a = c.args in
    c.refused.ensures ∙ no_line a.n a.lines a.line c.if-kind-eq-PRINT_ONE.false c.if-kind-eq-PRINT_HASH.false c.if-kind-ne-SCAN.true

pub returns-then-not-is_target : goal.returns-then-not-is_target
returns-then-not-is_target c =
    let a = c.args in
    c.refused-then-not-is_target.ensures
    ∙ scan_judged a.n a.lines a.line c.if-kind-eq-PRINT_ONE.false c.if-kind-eq-PRINT_HASH.false c.if-kind-ne-SCAN.false false _
    (sym c.is_target.ensures ∙ c.if-not-is_target.true) refl

pub returns-then-not-is_target-2 : goal.returns-then-not-is_target-2
returns-then-not-is_target-2 c =
    let a = c.args in
    c.refused-then-not-is_target-2.ensures
    ∙ scan_judged a.n a.lines a.line c.if-kind-eq-PRINT_ONE.false c.if-kind-eq-PRINT_HASH.false c.if-kind-ne-SCAN.false true false
    (sym c.is_target.ensures ∙ c.if-not-is_target.false)
    (sym c.is_target-2.ensures ∙ c.if-not-is_target-2.true)

pub returns : goal.returns
returns c =
    let a = c.args in
    scan_judged a.n a.lines a.line c.if-kind-eq-PRINT_ONE.false c.if-kind-eq-PRINT_HASH.false c.if-kind-ne-SCAN.false true true
    (sym c.is_target.ensures ∙ c.if-not-is_target.false)
    (sym c.is_target-2.ensures ∙ c.if-not-is_target-2.false)
