-- `place_of` meets its contract, by the side of place 0 on which it lies.
use Rattle.underway.specs.Places.{bias, placed}
use Rattle.underway.proofs.Signs as signs
use mir.Facts.{to_z-of_z}
use mir.Syntax.{w32}
use borrow.Author.Rules.{rules}
use mathlib.Core.Path.{ap, ◌∙◌}
use Rattle.underway.proofs.place_of.Goals as goal

pub returns-then-near-ge-BIAS : goal.returns-then-near-ge-BIAS
unfolding placed
returns-then-near-ge-BIAS c =
    to_z-of_z {w = w32} (search rules) ∙ c.ahead.ensures ∙ signs.sub_ge c.min-near.result bias
    c.if-near-ge-BIAS.true ∙ ap placed c.min-near.ensures

pub returns-else-near-ge-BIAS : goal.returns-else-near-ge-BIAS
unfolding placed
returns-else-near-ge-BIAS c =
    to_z-of_z {w = w32} (search rules) ∙ c.below.ensures ∙ signs.sub_lt c.min-near.result bias
    c.if-near-ge-BIAS.false ∙ ap placed c.min-near.ensures
