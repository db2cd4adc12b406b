-- `check` meets its contract: rule 3, and then the lines.
use mathlib.Core.Path.{sym, ap, ◌∙◌}
use Prim.Native.Nat.{◌/◌}
use native.Mathlib.Omega.{arith}
use lib.ListN.{length}
use Rattle.listing_check.specs.Lined.{judged}
use Rattle.listing_check.proofs.Faults.{too_many, few}
use Rattle.listing_check.proofs.check.Goals as goal

pub returns-then-lines-gt-LINES : goal.returns-then-lines-gt-LINES
returns-then-lines-gt-LINES c =
    let a = c.args in
    c.refused.ensures
    ∙ too_many a.list.now (length a.list.now / 4) (record { from = omega arith; upto = omega arith }) c.if-lines-gt-LINES.true

pub returns : goal.returns
returns c =
    let a = c.args in
    let pass = few a.list.now (length a.list.now / 4) (record { from = omega arith; upto = omega arith }) c.if-lines-gt-LINES.false in
    c.check_lines.ensures ∙ ap judged (sym pass)
