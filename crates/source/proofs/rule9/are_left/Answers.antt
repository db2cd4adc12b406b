-- `are_left` is rule 9's test of the passes-left at a line, by the bounds that are filled for it. Assumes nothing.
use mathlib.Core.Path.{◌∙◌}
use Rattle.source.proofs.Checks.{left_as}
use Rattle.source.proofs.rule9.are_left.Goals as goal

pub returns : goal.returns
returns c =
    (rw c.depth_at-depth.ensures at c.are_passes.ensures)
    ∙ left_as c.args.list.now c.args.line c.args.capacities.now _ c.args.passes.now c.fill_bounds.ensures
