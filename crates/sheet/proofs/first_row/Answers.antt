-- `first_row` meets its contract: the line ends before its LF.
use mathlib.Core.Path.{ap, ◌∙◌}
use Prim.Native.Nat.{◌+◌, min}
use native.Mathlib.Omega.{arith}
use lib.ListN.{length}
use Rattle.theory.specs.Text.{LF}
use Rattle.fields.proofs.Splits.{before-within}
use Rattle.sheet.proofs.Splits.{line-length}
use Rattle.sheet.proofs.first_row.Goals as goal

pub overflow_add-find : goal.overflow_add-find
overflow_add-find c =
    let s : _ = c.args.sheet.now in
    omega (arith, c.find.ensures, before-within LF s 0 (omega arith))

pub returns : goal.returns
returns c =
    let s : _ = c.args.sheet.now in
    rw (line-length s 0) (c.min.ensures ∙ ap (λ i. min (i + 1) (length s)) c.find.ensures)
