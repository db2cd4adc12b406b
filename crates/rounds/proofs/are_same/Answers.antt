-- `are_same` meets its contract: `==` compares number by number.
use mathlib.Core.Path.{◌∙◌}
use Rattle.rounds.proofs.Compared.{pointwise_same}
use Rattle.rounds.proofs.are_same.Goals as goal

pub returns : goal.returns
returns c = c.eq.ensures ∙ pointwise_same _ _
