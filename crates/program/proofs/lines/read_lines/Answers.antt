-- `program::lines::read_lines` meets its contract: the numbers stored and those of the lines that are left are those of the whole text.
use Prim.Native.Nat.{◌≤◌}
use native.Mathlib.Omega.{arith}
use Rattle.theory.specs.Text.{LF}
use Rattle.text.specs.Runs.{is_other}
use Rattle.text.proofs.Runs.{leading-within}
use lib.ListN.{length}
use Rattle.program.proofs.TextLines.{lines_next, lines-read}
use Rattle.program.proofs.lines.read_lines.Goals as goal
use Rattle.program.proofs.lines.read_lines.Goals.{After-line_end-end}

-- A line ends inside the text
within : (c : After-line_end-end)
    → c.line_end-end.result ≤ length c.args.text.now
within c =
    let t = c.args.text.now in
    omega (arith, leading-within (is_other LF) t c.loop-at.at (omega arith), c.line_end-end.ensures)

pub slice_bounds-numbers_of-end : goal.slice_bounds-numbers_of-end
slice_bounds-numbers_of-end c = omega (arith, within c)

pub loop-at-preserved : goal.loop-at-preserved
loop-at-preserved c =
    let m = c.loop-at in (
      m.invariant.0,
      lines_next c.args.text.now m.list m.at m.lines m.invariant.1 c.loop-at-test.true c.line_end-end.result c.line_end-end.ensures
          (within (goal.at.loop-at-preserved c).After-line_end-end) c.numbers_of.result c.store.new.list c.numbers_of.ensures
          c.store.auto.list c.store.ensures,
    )

pub returns : goal.returns
returns c = lines-read _ _ _ _ c.loop-at.invariant.1 c.loop-at-test.false
