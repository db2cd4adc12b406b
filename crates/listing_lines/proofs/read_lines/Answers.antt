use Prim.Native.Nat.{◌≤◌}
use native.Mathlib.Omega.{arith}
use lib.ListN.{length}
use Rattle.theory.specs.Text.{LF}
use Rattle.text.specs.Runs.{is_other}
use Rattle.text.proofs.Runs.{leading-within}
use Rattle.listing_lines.proofs.LinesLeft.{lines_next, lines-read}
use Rattle.listing_lines.proofs.read_lines.Goals as goal
use Rattle.listing_lines.proofs.read_lines.Goals.{After-line_end-end}

-- A line ends inside the text
within : (c : After-line_end-end)
    → c.line_end-end.result ≤ length c.args.text.now
within c =
    let t = c.args.text.now in
    omega (arith, leading-within (is_other LF) t c.loop-at.at (omega arith), c.line_end-end.ensures)

pub slice_bounds-numbers_of-end : goal.slice_bounds-numbers_of-end
slice_bounds-numbers_of-end c = omega (arith, within (goal.at.slice_bounds-numbers_of-end c).After-line_end-end)

pub loop-at-preserved : goal.loop-at-preserved
loop-at-preserved c =
    lines_next c.loop-at.invariant c.loop-at-test.true (omega arith) c.line_end-end.result c.line_end-end.ensures (within (goal.at.loop-at-preserved c).After-line_end-end)
    c.numbers_of.ensures c.put_line-place.ensures c.onward-at.ensures

pub returns-clause-value : goal.returns-clause-value
returns-clause-value c =
    (lines-read c.loop-at.invariant c.loop-at-test.false).0

pub returns-clause-list_after : goal.returns-clause-list_after
returns-clause-list_after c =
    (lines-read c.loop-at.invariant c.loop-at-test.false).1
